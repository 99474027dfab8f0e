-- `message::fields::status_from` meets its contract: the number of no status is above that of the last one.
use mathlib.Core.Path.{◌≡◌, refl}
use mathlib.Core.Bool.{Bool, true, false, cond}
use Prim.Native.Nat.{ℕ, ◌<◌}
use native.Mathlib.Omega.{arith}
use lib.Dec.{leb}
use borrow.Author.Tests.{leb-false, ne_eqb}
use Rattle.std.specs.Prelude.{Ok, Err}
use Rattle.std.specs.Result.{result_unwrap_or}
use Rattle.octets.specs.Pick.{pick}
use Rattle.message.specs.Fields.{status_from, status_numbered}
use Rattle.message.specs.declared.NoStatus.{NoStatus}
use Rattle.message.specs.declared.Status.TheVariants.{Failed}
use Rattle.message.proofs.fields.status_from.Goals as goal

above : (n : ℕ) → 3 < n → Failed ≡ status_from n
unfolding pick status_from
above n h = rw (ne_eqb n 0 (λ e. omega arith), ne_eqb n 1 (λ e. omega arith), ne_eqb n 2 (λ e. omega arith))

or_failed : (n : ℕ) → result_unwrap_or (status_numbered n) Failed ≡ status_from n
or_failed n = go (leb n 3) refl
  where
    go : (b : Bool) → leb n 3 ≡ b → result_unwrap_or {E = NoStatus} (cond b (Ok (status_from n)) (Err (record { 0 = n }))) Failed ≡ status_from n
    go true e = refl
    go false e = above n (leb-false n 3 e)

pub returns : goal.returns
returns c = rw (c.unwrap_or.ensures, c.try_from.ensures) (or_failed c.args.number)
