-- The 32 bits of the scales that are finite and above zero are 1 to 7F7FFFFF. Each of these is digits_of b * 2 ^ power_of b / 2 ^ 149, with at most 24 digits.
-- A sum has at most 33 digits, so a fraction's size has at most 57.
use mathlib.Core.Path.{◌≡◌, refl, sym, ◌∙◌}
use Prim.Native.Nat.{ℕ, zero, suc, ◌+◌, ◌-◌, ◌*◌, ◌/◌, ◌%◌, ◌^◌, ◌≤◌, ◌<◌}
use native.Mathlib.Nat.{le_refl, le_of_lt, lt_of_le_of_lt, mul-pos, mul-le-mul_left, mul-lt-mul_of_pos_right}
use native.Mathlib.Omega.{arith}
use mathlib.Core.Bool.{Bool, true, false, true≢false, not, cond, ◌&&◌}
use borrow.Author.Tests.{lt-leb, leb-false, ne_eqb}
use denote.Floats.{passes}
use lib.IntN.{ℤ, pos, negsuc, nat_abs}
use lib.Signed.{mag, nat_abs-le}
use lib.Dec.{T, leb, ltb, eqb, leb→le}
use lib.Pow.{pow-add, pow_pos}
use lib.Ieee.{Float, nan, inf, fin, binary32, odd, of_fields, of_bits, is_nan}
use lib.Ieee.Bits.{is_true}
use lib.Ieee.Fits.{and_l, and_r}
use lib.Ieee.Exact.{HasValue, odd_sign}
use lib.Ieee.Positive.{positive, num, den, positive_of_value, value→cross}
use Rattle.shown.specs.Value.{sum_of}
use Rattle.shown.specs.Whole.{digits_of, power_of}

-- x is q * 2 ^ k / 2 ^ 149; `cross` says it of the fraction num x / den x, as an equation of whole numbers
pub record Parts (x : Float) (q k : ℕ) : Type 0 where
  pub some : 0 < q
  pub low : k < 254
  pub is : HasValue x false (q * 2 ^ k) (2 ^ 149)
  pub cross : num x * 2 ^ 149 ≡ q * 2 ^ k * den x

-- the sign, the exponent's field x and the digits t
of_bits_is : (b : ℕ) → of_bits binary32 b ≡ of_fields binary32 (leb 0x8000_0000 b) (b % 0x8000_0000 / 0x80_0000) (b % 0x80_0000)
unfolding of_bits
of_bits_is b = refl

made : (x : Float) (q k : ℕ) → 0 < q → k < 254 → HasValue x false (q * 2 ^ k) (2 ^ 149) → Parts x q k
made x q k some low is = record { some = some; low = low; is = is; cross = value→cross x (q * 2 ^ k) (2 ^ 149) is }

fields : (x t : ℕ) → x < 255 → 0 < x + t → Parts (of_fields binary32 false x t) (cond (eqb x 0) t (0x80_0000 + t)) (x - 1)
unfolding of_fields
fields zero t X p = made _ t 0 (omega arith) (omega arith) (odd_sign 24 false t 0 149)
fields (suc x) t X p =
    let e : suc x - 1 ≡ x = omega arith in
    rw (ne_eqb (suc x) 255 (omega arith), ne_eqb (suc x) 0 (omega arith), e)
    (made _ (0x80_0000 + t) x (omega arith) (omega arith) (odd_sign 24 false (0x80_0000 + t) x 149))

within : (b : ℕ) → T (leb 1 b && leb b 0x7f7f_ffff) → Parts (of_bits binary32 b) (digits_of b) (power_of b)
within b t =
    let l = leb→le 1 b (and_l (leb 1 b) (leb b 0x7f7f_ffff) t) in
    let h = leb→le b 0x7f7f_ffff (and_r (leb 1 b) (leb b 0x7f7f_ffff) t) in
    let e : b % 0x8000_0000 ≡ b = omega arith in
    rw (of_bits_is, lt-leb 0x8000_0000 b (omega arith), e) (fields (b / 0x80_0000) (b % 0x80_0000) (omega arith) (omega arith))

-- ---- how many digits
pub digits_few : (b : ℕ) → digits_of b < 2 ^ 24
digits_few b = go (eqb (b / 0x80_0000) 0)
  where
    go : (z : Bool) → cond z (b % 0x80_0000) (0x80_0000 + b % 0x80_0000) < 2 ^ 24
    go true = omega arith
    go false = omega arith

-- a sum is no larger than its parts
pub sum_le : (v : ℕ) (o : ℤ) → nat_abs (sum_of v o) ≤ v + nat_abs o
sum_le v (pos b) = le_refl (v + b)
sum_le v (negsuc b) = go (ltb v (suc b))
  where
    go : (t : Bool) → nat_abs (cond t (negsuc (suc b - suc v)) (pos (v - suc b))) ≤ v + suc b
    go true = omega arith
    go false = omega arith

-- of a u32 and an i32
pub sum_few : (v : ℕ) (o : ℤ) → v < 2 ^ 32 → mag o < 2 ^ 31 → nat_abs (sum_of v o) < 2 ^ 33
sum_few v o h k = lt_of_le_of_lt (sum_le v o) (omega (arith, nat_abs-le o k))

pub times_lt : (j k : ℕ) {a b : ℕ} → a < 2 ^ j → b < 2 ^ k → a * b < 2 ^ (j + k)
times_lt j k {a} {b} h l = rw (pow-add 2 j k) (lt_of_le_of_lt (mul-le-mul_left a (le_of_lt l)) (mul-lt-mul_of_pos_right h (pow_pos k)))

pub size_few : (v : ℕ) (o : ℤ) (b : ℕ) → v < 2 ^ 32 → mag o < 2 ^ 31 → nat_abs (sum_of v o) * digits_of b < 2 ^ 57
size_few v o b h k = times_lt 33 24 (sum_few v o h k) (digits_few b)

-- ---- any other bits are zero, a negative, an infinity or a NaN
pub at_zero : positive (of_bits binary32 0) ≡ false
unfolding of_bits of_fields odd
at_zero = refl

special : (s z : Bool) → positive (cond z (inf s) nan) ≡ false
special s true = refl
special s false = refl

below_zero : (q k : ℕ) → positive (odd 24 true q k 149) ≡ false
unfolding odd
below_zero zero k = refl
below_zero (suc q) k = refl

refused : (s : Bool) (x t : ℕ) → (s ≡ false → x ≡ 255) → positive (of_fields binary32 s x t) ≡ false
unfolding of_fields
refused true zero t e = below_zero t 0
refused true (suc x) t e = go (eqb (suc x) 255)
  where
    go : (a : Bool) → positive (cond a (cond (eqb t 0) (inf true) nan) (odd 24 true (0x80_0000 + t) x 149)) ≡ false
    go true = special true (eqb t 0)
    go false = below_zero (0x80_0000 + t) x
refused false x t e = rw (e refl) (special false (eqb t 0))

pub positive_bits : (b : ℕ) → positive (of_bits binary32 b) ≡ leb 1 b && leb b 0x7f7f_ffff
positive_bits b = go (leb 1 b) (leb b 0x7f7f_ffff) refl refl
  where
    go : (l h : Bool) → leb 1 b ≡ l → leb b 0x7f7f_ffff ≡ h → positive (of_bits binary32 b) ≡ l && h
    go true true l h =
        let p = within b (rw (l, h) tt) in
        is_true (positive (of_bits binary32 b))
        (positive_of_value (of_bits binary32 b) (digits_of b * 2 ^ power_of b) (2 ^ 149) p.is (mul-pos p.some (pow_pos (power_of b))))
    go true false l h =
        rw of_bits_is (refused (leb 0x8000_0000 b) (b % 0x8000_0000 / 0x80_0000) (b % 0x80_0000) (λ e. omega (arith, leb-false 0x8000_0000 b e, leb-false b 0x7f7f_ffff h)))
    go false t l h = let z : b ≡ 0 = omega (arith, leb-false 1 b l) in rw z at_zero

pub parts : (b : ℕ) → positive (of_bits binary32 b) ≡ true → Parts (of_bits binary32 b) (digits_of b) (power_of b)
parts b p = within b (passes _ (sym (positive_bits b) ∙ p))

-- a test that a NaN fails shows that x is none
pub number : (test : Float → Bool) (x : Float) → test nan ≡ false → test x ≡ true → T (not (is_nan x))
unfolding is_nan
number test nan n e = absurd (true≢false (sym e ∙ n))
number test (inf s) n e = tt
number test (fin s m d) n e = tt

-- a NaN is neither finite nor above zero
pub nan_refused : (x : Float) → is_nan x ≡ true → positive x ≡ false
unfolding is_nan
nan_refused nan e = refl
nan_refused (inf s) e = absurd (true≢false (sym e))
nan_refused (fin s m x) e = absurd (true≢false (sym e))
