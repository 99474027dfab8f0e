-- What an answer of 00 says of the tests before it.
use Prim.Native.Nat.{ℕ, suc, ◌<◌}
use mathlib.Core.Path.{◌≡◌, refl}
use mathlib.Core.Bool.{Bool, true, false, not, ◌||◌}
use native.Mathlib.Omega.{arith}
use lib.Dec.{eqb, leb}
use borrow.Author.Tests.{leb-false}
use Rattle.octets.specs.Pick.{pick}
use Rattle.profile.specs.Profile.{trigger}
use Rattle.profile.specs.declared.Profile.{Profile}
use Rattle.message.specs.declared.Execution.{Execution}
use Rattle.recording.specs.Indication.{status, is_known, error_by, first_error}

-- an error that was not given
pub passed : (b : Bool) (error rest : ℕ) → pick b (suc error) rest ≡ 0 → (b ≡ false) × (rest ≡ 0)
unfolding pick
passed true error rest e = absurd (omega arith)
passed false error rest e = (refl, e)

module _ (p : Profile) (complete : Bool) (count : ℕ) (e : Execution) (none : first_error p complete count e ≡ 0) where
  pub early : (eqb (status e) 2 || eqb (status e) 3 ≡ false) × ◌≡◌ {A = ℕ} (pick complete 0xFF (pick (leb 64 count) 0x04 0x00)) 0
  unfolding error_by first_error
  early = passed (eqb (status e) 2 || eqb (status e) 3) 2 _ (passed (not (is_known p e)) 1 _ (passed (eqb (trigger p e.function) 0) 0 _ none).1).1

  pub room : count < 64
  room = leb-false 64 count (passed (leb 64 count) 3 _ (passed complete 0xFE _ early.1).1).0
