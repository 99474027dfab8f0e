-- What a text looks like: its sign, the digits before the point, of which the first is not zero beside others, and those behind it.
use mathlib.Core.Path.{◌≡◌, refl}
use mathlib.Core.Logic.{◌⊎◌, ◌≢◌, inl, inr}
use Prim.Native.Nat.{ℕ, zero, suc, ◌-◌, ◌/◌, ◌%◌, ◌^◌, ◌<◌}
use native.Mathlib.Omega.{arith}
use mathlib.Core.Bool.{Bool, true, false}
use mathlib.Core.List.{[], ◌∷◌}
use borrow.Author.Tests.{le-leb, ne_eqb}
use lib.IntN.{ℤ, nat_abs}
use Rattle.shown.specs.Value.{negative}
use Rattle.printed.specs.Text.{digit, last_digits, places, part_of, text_of}
use Rattle.printed.specs.Steps.{sign_bytes}
use Rattle.printed.specs.Promises.{are_digits, well_begun, Shaped}
use Rattle.printed.proofs.Decimal.{places_pos, places_below, places_least, highest_zero}
use Rattle.printed.proofs.Texts.{first_digit, length_digits, part_some, part_none, text_is}

no_digits : (n : ℕ) → last_digits 0 n ≡ []
unfolding last_digits
no_digits n = refl

are_digits_lem : (count n : ℕ) → are_digits (last_digits count n) ≡ true
are_digits_lem zero n = rw (no_digits n)
are_digits_lem (suc count) n =
    let d = digit (n / 10 ^ count) in
    rw (first_digit count n, le-leb 48 d (omega arith), le-leb d 57 (omega arith)) (are_digits_lem count n)

-- of so many places the highest is not zero
highest : (c n : ℕ) → places n ≡ suc (suc c) → n / 10 ^ suc c % 10 ≢ 0
highest c n e z =
    let below : n < 10 ^ suc (suc c) = rw (← e) (places_below n) in
    let one_less : suc (suc c) - 1 ≡ suc c = omega arith in
    let less : n < 10 ^ suc c = rw one_less at (highest_zero n (suc (suc c)) (omega arith) below (rw one_less z)) in
    omega (arith, places_least n (suc c) less (omega arith))

well_begun_lem : (c n : ℕ) → places n ≡ c → well_begun (last_digits c n) ≡ true
well_begun_lem zero n e = absurd (omega (arith, places_pos n))
well_begun_lem (suc zero) n e = rw (first_digit 0 n, no_digits n)
well_begun_lem (suc (suc c)) n e =
    let h = highest c n e in
    rw (first_digit (suc c) n, first_digit c n, ne_eqb (digit (n / 10 ^ suc c)) 48 (omega arith))

signs : (below : Bool) → (sign_bytes below ≡ []) ⊎ (sign_bytes below ≡ 45 ∷ [])
signs true = inr refl
signs false = inl refl

pub shaped : (decimals : ℕ) (n : ℤ) → Shaped decimals (text_of decimals n)
shaped decimals n =
    let w = nat_abs n / 10 ^ decimals in
    record {
      sign = sign_bytes (negative n);
      whole = last_digits (places w) w;
      part = part_of decimals (nat_abs n);
      is = text_is decimals n;
      one_sign = signs (negative n);
      digits = are_digits_lem (places w) w;
      begun = well_begun_lem (places w) w refl;
      none_behind = λ e. part_none decimals (nat_abs n) (omega arith);
      behind = λ h. (last_digits decimals (nat_abs n), part_some decimals (nat_abs n) h, length_digits decimals (nat_abs n), are_digits_lem decimals (nat_abs n));
    }
