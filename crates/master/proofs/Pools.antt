-- The number that an attach gives for a code of the check.
use Prim.Native.Nat.{ℕ}
use mathlib.Core.Path.{◌≡◌}
use borrow.Author.Tests.{eq-eqb, ne_eqb}
use Rattle.octets.specs.Pick.{pick}
use Rattle.master.specs.Clients.{unfit}

-- of a pool that is refused, and of one that is not
pub unfit_no : (code : ℕ) → (code ≡ 0 → ⊥) → unfit code ≡ 6
unfolding pick unfit
unfit_no code h = rw (ne_eqb code 0 h)

pub unfit_yes : (code : ℕ) → code ≡ 0 → unfit code ≡ 0
unfolding pick unfit
unfit_yes code h = rw (eq-eqb code 0 h)

pub ruleset pools = (unfit_no, unfit_yes)
