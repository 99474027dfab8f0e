-- `pool::seen::Seen::insert` meets its contract: the bit of the key says whether it stood before, and is set.
use native.Mathlib.Omega.{arith}
use mathlib.Core.Bool.{not}
use mathlib.Core.Path.{◌≡◌, ap, ◌∙◌}
use lib.ListN.{length}
use borrow.Author.Rules.{rules}
use Rattle.pool.proofs.Repeats.{seen_more}
use Rattle.pool.proofs.seen.Seen.insert.Goals as goal

pub returns : goal.returns
returns c keys seen =
    let a = c.args in
    let wide : length a.self.now.words ≡ 1024 = search rules in (
      ap not (c.has_bit.ensures ∙ seen a.key (omega arith)),
      rw c.with_bit.ensures (seen_more a.self.now.words keys a.key wide (omega arith) seen),
    )
