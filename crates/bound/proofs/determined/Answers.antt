-- `bound::determined` meets its contract: every outcome that is allowed is the one that the definitions give; of a text it is the one of the printed number.
use mathlib.Core.Path.{sym, ◌∙◌}
use Rattle.printed.proofs.Outcome.{settled}
use Rattle.bound.specs.Exported.{Determined}
use Rattle.bound.proofs.determined.Goals as goal

determined : Determined
determined =
    record {
      calls = λ c r r' a a'. rw (a.0 ∙ sym a'.0, a.1 ∙ sym a'.1);
      text = λ value offset scale decimals out r r' a a'.
          let e = settled value offset scale decimals out r.1 r'.1 r.0 r'.0 a a' in
          rw (e.0, e.1);
    }

pub returns : goal.returns
returns c = determined
