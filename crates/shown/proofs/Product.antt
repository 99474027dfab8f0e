-- The f64 product of a whole number and a scale is the exact fraction rounded once. It is the fraction itself if and only if an f64 holds the size.
use mathlib.Core.Path.{◌≡◌, refl, sym, ap, ◌∙◌}
use Prim.Native.Nat.{ℕ, zero, suc, ◌+◌, ◌*◌, ◌%◌, ◌^◌, ◌<◌}
use native.Mathlib.Nat.{lt_of_lt_of_le, mul-one, mul_comm, mul_assoc, mul_left_comm, mul_right_comm, mul-pos, eq_of_mul-eq-mul_right}
use native.Mathlib.Omega.{arith}
use mathlib.Core.Bool.{Bool, true, false, ◌&&◌, true≢false}
use lib.IntN.{ℤ, pos, negsuc, ◌*ℤ◌, nat_abs}
use lib.Signed.{mag, nat_abs-le}
use lib.Dec.{T, eqb, leb, ltb, ltb→lt, lit<}
use lib.Pow.{pow-add, pow_mono, shl_lt}
use lib.Ieee.{Float, nan, inf, fin, binary64, up, down, round, mul, of_int, unlike, fits}
use lib.Ieee.Fits.{down_pos, round-fits}
use lib.Ieee.Exact.{HasValue, round_exact}
use lib.Ieee.Back.{round_whole}
use lib.Ieee.Scale.{round_same}
use lib.Ieee.Positive.{positive, num, den, den_pos}
use Rattle.shown.specs.Value.{negative, product_of, numerator, IsProduct}
use Rattle.shown.proofs.Signs.{negated_size, negated_times}
use Rattle.shown.proofs.Bits.{Parts}
use Rattle.shown.proofs.Zeros.{Held, moved}

-- y is n, with the sign s: times m * 2 ^ e it is n * m * 2 ^ e, rounded
times : (y : Float) (s : Bool) (n m : ℕ) (e : ℤ) → HasValue y s n 1 → mul binary64 y (fin false m e) ≡ round binary64 s (n * (m * up e)) (down e)
unfolding mul
times nan s n m e v = absurd v
times (inf t) s n m e v = absurd v
times (fin t a d) s n m e v =
    ap (λ (b : Bool). round binary64 b (a * up d * (m * up e)) (down d * down e)) (like t ∙ v.0)
    ∙ round_same binary64 s (a * up d * (m * up e)) (down d * down e) (n * (m * up e)) (down e) (mul-pos (down_pos d) (down_pos e)) (down_pos e)
    (mul_assoc (a * up d) (m * up e) (down e) ∙ rw (← mul-one (a * up d), v.1) (simp (mul_assoc, mul_comm, mul_left_comm)))
  where
    like : (b : Bool) → unlike b false ≡ b
    like true = refl
    like false = refl

whole : (z : ℤ) → mag z < 2 ^ 53 → HasValue (of_int binary64 z) (negative z) (nat_abs z) 1
unfolding of_int
whole (pos n) h = round_whole binary64 false n (nat_abs-le (pos n) h)
whole (negsuc n) h = round_whole binary64 true (suc n) h

pub mul_is : (z : ℤ) (x : Float) → mag z < 2 ^ 53 → T (positive x) → mul binary64 (of_int binary64 z) x ≡ product_of z x
unfolding product_of
mul_is z nan h p = absurd p
mul_is z (inf s) h p = absurd p
mul_is z (fin true m e) h p = absurd p
mul_is z (fin false m e) h p = times (of_int binary64 z) (negative z) (nat_abs z) m e (whole z h)

-- ---- the exact product is n * q * 2 ^ k / 2 ^ 149, and an f64 holds it if the size n * q has at most 53 digits before zeros
scaled : (n a d q k i j : ℕ) → a * 2 ^ i ≡ q * 2 ^ k * d → n * a * 2 ^ (i + j) ≡ n * q * 2 ^ (k + j) * d
scaled n a d q k i j e =
    let left : n * a * 2 ^ (i + j) ≡ a * 2 ^ i * (n * 2 ^ j) = simp (pow-add, mul_assoc, mul_left_comm) in
    let right : n * q * 2 ^ (k + j) * d ≡ q * 2 ^ k * d * (n * 2 ^ j) = simp (pow-add, mul_assoc, mul_comm, mul_left_comm) in
    left ∙ rw e (sym right)

unrounded : (z : ℤ) (x : Float) (q k : ℕ) → Parts x q k → nat_abs z * q < 2 ^ 57 → Held (nat_abs z * q) → HasValue (product_of z x) (negative z) (nat_abs z * num x) (den x)
unfolding product_of
unrounded z x q k p h r =
    let n = nat_abs z in
    let j = k + 925 in
    let e : r.digits * 2 ^ (r.zeros + j) ≡ n * q * 2 ^ j = rw (pow-add 2 r.zeros j, ← mul_assoc, ← r.is) in
    let small : n * q * 2 ^ j < 2 ^ 2098 = lt_of_lt_of_le (shl_lt 57 j h) (pow_mono {i = 57 + j} {j = 2098} (omega (arith, p.low))) in
    round_exact binary64 (negative z) (n * num x) (den x) r.digits (r.zeros + j) (den_pos x) r.few (rw e small) (rw e (scaled n (num x) (den x) q k 149 925 p.cross))

-- ---- as an equation of whole numbers
equation : (y : Float) (z : ℤ) (x : Float) → HasValue y (negative z) (nat_abs z * num x) (den x) → IsProduct y z x
equation nan z x v = absurd v
equation (inf s) z x v = absurd v
equation (fin false m e) (pos n) x v = (tt, rw (v.1, mul_assoc))
equation (fin false m e) (negsuc n) x v = absurd (true≢false (sym v.0))
equation (fin true m e) (pos n) x v = absurd (true≢false v.0)
equation (fin true m e) (negsuc n) x v = (tt, rw (negated_times, v.1, mul_assoc))

pub exact_where_held : (z : ℤ) (x : Float) (q k : ℕ) → Parts x q k → nat_abs z * q < 2 ^ 57 → Held (nat_abs z * q) → IsProduct (product_of z x) z x
exact_where_held z x q k p h r = equation (product_of z x) z x (unrounded z x q k p h r)

-- ---- and only if: the f64 has at most 53 digits itself
times_size : (z : ℤ) (c : ℕ) → nat_abs (z *ℤ pos c) ≡ nat_abs z * c
times_size (pos n) c = refl
times_size (negsuc n) c = negated_size (pos (suc n * c))

numerator_size : (s : Bool) (m : ℕ) (e : ℤ) → nat_abs (numerator (fin s m e)) ≡ m * up e
numerator_size false m e = refl
numerator_size true m e = negated_size (pos (m * up e))

second : (a b c d : Bool) → T (a && b && c && d) → T b
second true true c d t = tt
second true false c d t = t
second false b c d t = absurd t

digits_lt : (s : Bool) (m : ℕ) (e : ℤ) → T (fits binary64 (fin s m e)) → m < 2 ^ 53
unfolding fits
digits_lt s zero e t = lit< tt
digits_lt s (suc m) e t =
    ltb→lt (suc m) (2 ^ 53)
    (second (eqb (suc m % 2) 1) (ltb (suc m) (2 ^ 53)) (leb (down e) (2 ^ 1074)) (ltb (suc m * up e) (2 ^ 1024 * down e)) t)

-- the scale a / d is q / i, and v / u is n times the scale
cleared : (n a d q i v u : ℕ) → 0 < d → a * i ≡ q * d → v * d ≡ n * (a * u) → v * i ≡ n * q * u
cleared n a d q i v u D e f =
    let left : n * (a * u) * i ≡ a * i * (n * u) = simp (mul_assoc, mul_comm, mul_left_comm) in
    let right : q * d * (n * u) ≡ n * q * u * d = simp (mul_assoc, mul_comm, mul_left_comm) in
    eq_of_mul-eq-mul_right d D (v * i) (n * q * u) (mul_right_comm v i d ∙ rw f (left ∙ rw e right))

holds_few : (m size k : ℕ) (e : ℤ) → m < 2 ^ 53 → m * up e * 2 ^ 149 ≡ size * 2 ^ k * down e → Held size
holds_few m size k (pos a) h e = moved size m (a + 149) k h (rw (pow-add 2 a 149, ← mul_assoc) (e ∙ mul-one (size * 2 ^ k)))
holds_few m size k (negsuc a) h e = moved size m 149 (k + suc a) h (rw (pow-add 2 k (suc a), ← mul_assoc) (rw (mul-one m) at e))

held : (y : Float) (z : ℤ) (x : Float) (q k : ℕ) → T (fits binary64 y) → Parts x q k → IsProduct y z x → Held (nat_abs z * q)
held nan z x q k f p i = absurd i.0
held (inf s) z x q k f p i = absurd i.0
held (fin s m e) z x q k f p i =
    let whole : m * up e * den x ≡ nat_abs z * (num x * down e) = simp (times_size, numerator_size) at (ap nat_abs i.1) in
    let c = cleared (nat_abs z) (num x) (den x) (q * 2 ^ k) (2 ^ 149) (m * up e) (down e) (den_pos x) p.cross whole in
    holds_few m (nat_abs z * q) k e (digits_lt s m e f) (rw (← mul_assoc (nat_abs z) q (2 ^ k)) at c)

pub held_where_exact : (z : ℤ) (x : Float) (q k : ℕ) → Parts x q k → IsProduct (product_of z x) z x → Held (nat_abs z * q)
unfolding product_of
held_where_exact z x q k p i = held (product_of z x) z x q k (round-fits binary64 (negative z) (nat_abs z * num x) (den x)) p i
