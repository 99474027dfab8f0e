-- The sent step that an answer matches, as it is looked for: a place among the steps that have left, or none.
use Prim.Native.Nat.{ℕ, ◌<◌}
use mathlib.Core.Path.{◌≡◌, sym, ap}
use mathlib.Core.List.{List}
use native.Mathlib.Omega.{arith}
use lib.ListN.{length, take, length-take}
use Rattle.std.specs.Prelude.{Option, Some, None, IfSome, position}
use Rattle.std.specs.Option.{unwrap_or}
use Rattle.std.proofs.lemmas.Slice.Zip.{length-zip}
use Rattle.message.specs.declared.Reply.{Reply}
use Rattle.sequence.specs.declared.Sequence.{Sequence}
use Rattle.playback.specs.{declared.Sent.Sent, declared.Playback.Playback, Pairs.pairs}
use Rattle.playback.specs.Answer.{is_answer_of, find_answered}
use Rattle.playback.proofs.Pairs.{take_pairs}
use Rattle.playback.proofs.Positions.{unwrap_or-position, position_within}

module _ (p : Playback) (q : Sequence) (slot : ℕ) (r : Reply) (l : List Sent) (found : Option ℕ) (e : l ≡ take p.sent p.commands)
    (f : found ≡ position (λ x. is_answer_of slot r.tan r.function r.state x.0 x.1) (pairs q.steps l))
  where
    pub matched : unwrap_or found 64 ≡ find_answered q.steps p.commands p.sent slot r.tan r.function r.state
    unfolding find_answered
    matched =
        rw (f, e, ← take_pairs p.sent q.steps p.commands)
        (unwrap_or-position (λ x. is_answer_of slot r.tan r.function r.state x.0 x.1) 64 (take p.sent (pairs q.steps p.commands)))

    pub matched_within : length p.commands ≡ 64 → IfSome found (λ i. i < 64)
    matched_within n = go found f
      where
        go : (o : Option ℕ) → o ≡ position (λ x. is_answer_of slot r.tan r.function r.state x.0 x.1) (pairs q.steps l) → IfSome o (λ i. i < 64)
        go None g = tt
        go (Some i) g =
            let k = position_within (λ x. is_answer_of slot r.tan r.function r.state x.0 x.1) (pairs q.steps l) i (sym g) in
            omega (arith, length-zip q.steps l, ap length e, length-take p.sent p.commands)
