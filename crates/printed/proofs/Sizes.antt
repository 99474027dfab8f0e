-- How large the number that is printed can be: a scale is below 2 ^ 128, a sum below 2 ^ 33, and a sum below zero is at least -2 ^ 31.
use mathlib.Core.Path.{◌≡◌, refl, sym, ap, ◌∙◌}
use Prim.Native.Nat.{ℕ, suc, ◌+◌, ◌-◌, ◌*◌, ◌/◌, ◌^◌, ◌≤◌, ◌<◌}
use native.Mathlib.Nat.{le_trans, le_of_eq, le_of_lt, lt_of_le_of_lt, zero-lt-suc, pow-le-pow_right, mul_comm, mul_assoc, mul_right_comm, mul-le-mul, mul-le-mul_left, mul-le-mul_right, le_of_mul-le-mul_right, div-le_of_le-mul}
use native.Mathlib.Omega.{arith}
use mathlib.Core.Bool.{Bool, true, false, true≢false, cond}
use lib.IntN.{ℤ, pos, negsuc, nat_abs}
use lib.Dec.{ltb, lit<}
use lib.Pow.{pow_mono}
use lib.ListN.{length}
use lib.Ieee.{Float, binary32, of_bits}
use lib.Ieee.Nearest.{closest}
use lib.Ieee.Positive.{positive, num, den, den_pos}
use Rattle.shown.specs.Value.{sum_of, negative}
use Rattle.shown.specs.Whole.{digits_of, power_of}
use Rattle.shown.proofs.Bits.{parts, digits_few, sum_le}
use Rattle.printed.specs.Number.{Nearest}
use Rattle.printed.specs.Text.{places, text_of}
use Rattle.printed.specs.Steps.{sign_bytes}
use Rattle.printed.proofs.Signs.{size_signed}
use Rattle.printed.proofs.Nearby.{nearest_is}
use Rattle.printed.proofs.Rounding.{closest_at_most}
use Rattle.printed.proofs.Decimal.{places_least}
use Rattle.printed.proofs.Texts.{part_most, length_text}

-- ---- the scale
cut : (a d q k : ℕ) → q < 2 ^ 24 → k < 254 → a * 2 ^ 149 ≡ q * 2 ^ k * d → a ≤ 2 ^ 128 * d
cut a d q k Q K e =
    let h : q * 2 ^ k ≤ 2 ^ 24 * 2 ^ 253 = mul-le-mul (le_of_lt Q) (pow_mono {i = k} {j = 253} (omega arith)) in
    le_of_mul-le-mul_right {k = 2 ^ 149} (le_trans (le_of_eq e) (le_trans (mul-le-mul_right d h) (le_of_eq (mul_right_comm (2 ^ 128) (2 ^ 149) d)))) (lit< tt)

scale_below : (bits : ℕ) → positive (of_bits binary32 bits) ≡ true → num (of_bits binary32 bits) ≤ 2 ^ 128 * den (of_bits binary32 bits)
scale_below bits p =
    let x = of_bits binary32 bits in
    let h = parts bits p in
    cut (num x) (den x) (digits_of bits) (power_of bits) (digits_few bits) h.low h.cross

-- ---- the number
regroup : (s c d t : ℕ) → s * (c * d * t) ≡ s * c * t * d
regroup s c d t = rw (mul_assoc c d t, mul_comm d t, ← mul_assoc c t d, ← mul_assoc s (c * t) d, ← mul_assoc s c t)

module _ (n sum : ℤ) (bits decimals : ℕ) (p : positive (of_bits binary32 bits) ≡ true) (h : Nearest n sum (of_bits binary32 bits) decimals) where
  number_below : nat_abs n ≤ nat_abs sum * 2 ^ 128 * 10 ^ decimals
  number_below =
      let x = of_bits binary32 bits in
      let e = nat_abs sum * (num x * 10 ^ decimals) in
      le_trans (le_of_eq (ap nat_abs (nearest_is x decimals n sum h) ∙ size_signed (negative sum) (closest e (den x))))
      (closest_at_most e (nat_abs sum * 2 ^ 128 * 10 ^ decimals) (den x) (den_pos x)
      (le_trans (mul-le-mul_left (nat_abs sum) (mul-le-mul_right (10 ^ decimals) (scale_below bits p))) (le_of_eq (regroup (nat_abs sum) (2 ^ 128) (den x) (10 ^ decimals)))))

  whole_below : nat_abs n / 10 ^ decimals ≤ nat_abs sum * 2 ^ 128
  whole_below = div-le_of_le-mul (10 ^ decimals) (le_trans number_below (le_of_eq (mul_comm (nat_abs sum * 2 ^ 128) (10 ^ decimals))))

-- ---- the sum
-- below zero it is no larger than the offset
below_zero : (v : ℕ) (o : ℤ) → negative (sum_of v o) ≡ true → nat_abs (sum_of v o) ≤ nat_abs o
below_zero v (pos b) e = absurd (true≢false (sym e))
below_zero v (negsuc b) e = go (ltb v (suc b)) e
  where
    go : (t : Bool) → negative (cond t (negsuc (suc b - suc v)) (pos (v - suc b))) ≡ true → nat_abs (cond t (negsuc (suc b - suc v)) (pos (v - suc b))) ≤ suc b
    go true e = omega arith
    go false e = absurd (true≢false (sym e))

-- a number below zero has a sum below zero
sum_negative : (n sum : ℤ) (scale : Float) (decimals : ℕ) → Nearest n sum scale decimals → negative n ≡ true → negative sum ≡ true
sum_negative n (pos s) scale decimals h e = sym (ap negative (nearest_is scale decimals n (pos s) h)) ∙ e
sum_negative n (negsuc s) scale decimals h e = refl

-- ---- of a u32, an i32 and 0 to 7 decimals
module _
    (v : ℕ) (o : ℤ) (bits decimals : ℕ) (n : ℤ)
    (hv : v < 2 ^ 32) (ho : nat_abs o ≤ 2 ^ 31)
    (p : positive (of_bits binary32 bits) ≡ true)
    (d : decimals ≤ 7)
    (h : Nearest n (sum_of v o) (of_bits binary32 bits) decimals) where
  sum_below : nat_abs (sum_of v o) ≤ 2 ^ 33
  sum_below = omega (arith, sum_le v o)

  pub fits : nat_abs n < 10 ^ 56
  fits =
      lt_of_le_of_lt (number_below n (sum_of v o) bits decimals p h)
      (lt_of_le_of_lt (mul-le-mul (mul-le-mul_right (2 ^ 128) sum_below) (pow-le-pow_right (zero-lt-suc 9) d)) (lit< {m = 2 ^ 33 * 2 ^ 128 * 10 ^ 7} tt))

  -- so many digits stand before the point
  whole_few : (s c : ℕ) → nat_abs (sum_of v o) ≤ s → s * 2 ^ 128 < 10 ^ suc c → places (nat_abs n / 10 ^ decimals) ≤ suc c
  whole_few s c l k =
      places_least (nat_abs n / 10 ^ decimals) (suc c) (lt_of_le_of_lt (whole_below n (sum_of v o) bits decimals p h) (lt_of_le_of_lt (mul-le-mul_right (2 ^ 128) l) k)) (zero-lt-suc c)

  -- a minus sign, or one digit more before the point
  front : length (sign_bytes (negative n)) + places (nat_abs n / 10 ^ decimals) ≤ 49
  front = go (negative n) refl
    where
      go : (t : Bool) → negative n ≡ t → length (sign_bytes t) + places (nat_abs n / 10 ^ decimals) ≤ 49
      go true e =
          let s = le_trans (below_zero v o (sum_negative n (sum_of v o) (of_bits binary32 bits) decimals h e)) ho in
          omega (arith, whole_few (2 ^ 31) 47 s (lit< tt))
      go false e = omega (arith, whole_few (2 ^ 33) 48 sum_below (lit< tt))

  pub longest : length (text_of decimals n) ≤ 57
  longest = omega (arith, length_text decimals n, front, part_most decimals 0)
