-- A fraction to the nearest whole number, ties to the even one, by the steps that the module `number` takes: from halves and what is left over, without the
-- pairs of ones, and with a power of two more above and below.
use mathlib.Core.Path.{◌≡◌, refl, sym, ap, ◌∙◌}
use mathlib.Core.Bool.{Bool, true, false, true≢false, not, cond, ◌&&◌, ◌||◌}
use Prim.Native.Nat.{ℕ, suc, ◌+◌, ◌-◌, ◌*◌, ◌/◌, ◌%◌, ◌^◌, ◌≤◌, ◌<◌, compare, Ordering}
use native.Mathlib.Nat.{le_trans, le_of_eq, add-mul, mul-pos, mul-le-mul_right, div-add-mod', mod-lt, mul-add-div_right, mul-add-mod_self_right}
use native.Mathlib.Omega.{arith}
use borrow.Author.Tests.{le-leb, lt-leb, eq-eqb, ne_eqb, eqb-true, eqb-false}
use lib.Arith.{digits_lt, digits_div, digits_mod}
use lib.Dec.{is_le, compare_is_eq, eqb}
use lib.Pow.{pow_pos, pow-add}
use lib.Ieee.{nearest}
use lib.Ieee.Nearest.{closest, closest_mono, closest_same}
use Rattle.printed.specs.Steps.{round_halves}

-- ---- q and less than a half, a half, more than a half
below : (q : ℕ) (o : Ordering) → is_le o ≡ true → compare_is_eq o ≡ false → nearest q o ≡ q
below q Ordering.lt l e = refl
below q Ordering.eq l e = absurd (true≢false e)
below q Ordering.gt l e = absurd (true≢false (sym l))

equal : (q : ℕ) (o : Ordering) → compare_is_eq o ≡ true → nearest q o ≡ q + q % 2
equal q Ordering.lt e = absurd (true≢false (sym e))
equal q Ordering.eq e = refl
equal q Ordering.gt e = absurd (true≢false (sym e))

above : (q : ℕ) (o : Ordering) → is_le o ≡ false → nearest q o ≡ suc q
above q Ordering.lt l = absurd (true≢false l)
above q Ordering.eq l = absurd (true≢false l)
above q Ordering.gt l = refl

module _ (q b r : ℕ) (h : r < b) where
  by_rest : closest (q * b + r) b ≡ nearest q (compare (r * 2) b)
  by_rest = rw (digits_div q h, digits_mod q h)

  closest_below : r * 2 < b → closest (q * b + r) b ≡ q
  closest_below l = by_rest ∙ below q (compare (r * 2) b) (le-leb (r * 2) b (omega arith)) (ne_eqb (r * 2) b (λ e. omega arith))

  closest_half : r * 2 ≡ b → closest (q * b + r) b ≡ q + q % 2
  closest_half e = by_rest ∙ equal q (compare (r * 2) b) (eq-eqb (r * 2) b e)

  closest_above : b < r * 2 → closest (q * b + r) b ≡ suc q
  closest_above l = by_rest ∙ above q (compare (r * 2) b) (lt-leb (r * 2) b l)

-- a whole number is its own nearest
closest_whole : (q b : ℕ) → 0 < b → closest (q * b) b ≡ q
closest_whole q b B =
    let e : q * b ≡ q * b + 0 = omega arith in
    ap (λ (a : ℕ). closest a b) e ∙ closest_below q b 0 B B

-- less than a half is nothing
pub closest_none : (a b : ℕ) → a * 2 < b → closest a b ≡ 0
closest_none a b h =
    let e : a ≡ 0 * b + a = omega arith in
    ap (λ (n : ℕ). closest n b) e ∙ closest_below 0 b a (omega arith) h

-- at most q where the fraction is
pub closest_at_most : (a q b : ℕ) → 0 < b → a ≤ q * b → closest a b ≤ q
closest_at_most a q b B h = le_trans (closest_mono a b (q * b) b B B (mul-le-mul_right b h)) (le_of_eq (closest_whole q b B))

-- a power of two more above and below
pub closest_widened : (x t s k : ℕ) → closest (x * 2 ^ k * t) (2 ^ (s + k)) ≡ closest (x * t) (2 ^ s)
closest_widened x t s k = closest_same (x * 2 ^ k * t) (2 ^ (s + k)) (x * t) (2 ^ s) (pow_pos (s + k)) (pow_pos s) (rw (pow-add 2 s k) (omega arith))

-- so many powers of two that none is left below
pub closest_power : (x t k n : ℕ) → n ≤ k → closest (x * 2 ^ k * t) (2 ^ n) ≡ x * 2 ^ (k - n) * t
closest_power x t k n h =
    let e : k ≡ k - n + n = omega arith in
    let p : 2 ^ k ≡ 2 ^ (k - n) * 2 ^ n = ap (λ (i : ℕ). 2 ^ i) e ∙ pow-add 2 (k - n) n in
    let s : x * 2 ^ k * t ≡ x * 2 ^ (k - n) * t * 2 ^ n = rw p (omega arith) in
    ap (λ (a : ℕ). closest a (2 ^ n)) s ∙ closest_whole (x * 2 ^ (k - n) * t) (2 ^ n) (pow_pos n)

-- ---- from halves: h is one half, there are y of them, and z is left over
no_tie : (y : ℕ) (more : Bool) → (y % 4 ≡ 1 → more ≡ true) → round_halves y more ≡ (y + 1) / 2
no_tie y true t = go (eqb (y % 4) 1)
  where
    go : (b : Bool) → cond (b && false) (y / 2) ((y + 1) / 2) ≡ (y + 1) / 2
    go true = refl
    go false = refl
no_tie y false t = rw (ne_eqb (y % 4) 1 (λ e. true≢false (sym (t e))))

even_halves : (w h z : ℕ) → z < h → closest (w * 2 * h + z) (h * 2) ≡ round_halves (w * 2) (not (eqb z 0))
even_halves w h z l =
    let e : w * 2 * h + z ≡ w * (h * 2) + z = omega arith in
    let d : w ≡ (w * 2 + 1) / 2 = omega arith in
    let n : w * 2 % 4 ≡ 1 → ⊥ = omega arith in
    ap (λ (a : ℕ). closest a (h * 2)) e ∙ closest_below w (h * 2) z (omega arith) (omega arith) ∙ d ∙ sym (no_tie (w * 2) (not (eqb z 0)) (λ t. absurd (n t)))

-- one half and nothing more is a tie
tie : (w : ℕ) → w + w % 2 ≡ round_halves (w * 2 + 1) false
tie w = go (eqb (w % 2) 0) refl
  where
    go : (b : Bool) → eqb (w % 2) 0 ≡ b → w + w % 2 ≡ round_halves (w * 2 + 1) false
    go true e =
        let o : w % 2 ≡ 0 = eqb-true _ _ e in
        let d : (w * 2 + 1) % 4 ≡ 1 = omega arith in
        rw d (omega arith)
    go false e =
        let o : w % 2 ≡ 0 → ⊥ = eqb-false _ _ e in
        let m : (w * 2 + 1) % 4 ≡ 3 = omega arith in
        let n : (w * 2 + 1) % 4 ≡ 1 → ⊥ = omega arith in
        let d : w + w % 2 ≡ (w * 2 + 1 + 1) / 2 = omega arith in
        d ∙ sym (no_tie (w * 2 + 1) false (λ t. absurd (n t)))

odd_halves : (w h z : ℕ) → z < h → closest ((w * 2 + 1) * h + z) (h * 2) ≡ round_halves (w * 2 + 1) (not (eqb z 0))
odd_halves w h z l = ap (λ (a : ℕ). closest a (h * 2)) s ∙ go (eqb z 0) refl
  where
    s : (w * 2 + 1) * h + z ≡ w * (h * 2) + (h + z)
    s = omega arith

    d : suc w ≡ (w * 2 + 1 + 1) / 2
    d = omega arith

    go : (b : Bool) → eqb z 0 ≡ b → closest (w * (h * 2) + (h + z)) (h * 2) ≡ round_halves (w * 2 + 1) (not b)
    go true e = let o : z ≡ 0 = eqb-true _ _ e in closest_half w (h * 2) (h + z) (omega arith) (omega arith) ∙ tie w
    go false e =
        let o : z ≡ 0 → ⊥ = eqb-false _ _ e in
        closest_above w (h * 2) (h + z) (omega arith) (omega arith) ∙ d ∙ sym (no_tie (w * 2 + 1) true (λ t. refl))

closest_halves : (y h z : ℕ) → z < h → closest (y * h + z) (h * 2) ≡ round_halves y (not (eqb z 0))
closest_halves y h z l = go (eqb (y % 2) 0) refl
  where
    go : (b : Bool) → eqb (y % 2) 0 ≡ b → closest (y * h + z) (h * 2) ≡ round_halves y (not (eqb z 0))
    go true e =
        let o : y % 2 ≡ 0 = eqb-true _ _ e in
        let d : y ≡ y / 2 * 2 = omega arith in
        rw d (even_halves (y / 2) h z l)
    go false e =
        let o : y % 2 ≡ 0 → ⊥ = eqb-false _ _ e in
        let d : y ≡ y / 2 * 2 + 1 = omega arith in
        rw d (odd_halves (y / 2) h z l)

-- ---- a product, with one factor in two parts
in_parts : (x m t : ℕ) → x * t ≡ x / m * m * t + x % m * t
in_parts x m t = ap (λ (n : ℕ). n * t) (sym (div-add-mod' x m)) ∙ add-mul (x / m * m) (x % m) t

-- ---- pairs of ones are even
plus_pairs : (p q : ℕ) (o : Ordering) → nearest (p * 2 + q) o ≡ p * 2 + nearest q o
plus_pairs p q Ordering.lt = refl
plus_pairs p q Ordering.eq = omega arith
plus_pairs p q Ordering.gt = omega arith

closest_pairs : (p a b : ℕ) → 0 < b → closest (p * 2 * b + a) b ≡ p * 2 + closest a b
closest_pairs p a b B = rw (mul-add-div_right B (p * 2) a, mul-add-mod_self_right (p * 2) b a) (plus_pairs p (a / b) (compare (a % b * 2) b))

pub without_pairs : (x t b : ℕ) → 0 < b → closest (x * t) b ≡ x / (b * 2) * t * 2 + closest (x % (b * 2) * t) b
without_pairs x t b B =
    let e : x * t ≡ x / (b * 2) * t * 2 * b + x % (b * 2) * t = in_parts x (b * 2) t ∙ omega arith in
    ap (λ (a : ℕ). closest a b) e ∙ closest_pairs (x / (b * 2) * t) (x % (b * 2) * t) b B

-- ---- a product by its digits in base m: so many m, and the last digit of low
abbrev pub low_of : ℕ → ℕ → ℕ → ℕ
low_of x t m = x % m * t

abbrev pub high_of : ℕ → ℕ → ℕ → ℕ
high_of x t m = x / m * t + low_of x t m / m

product : (x t m : ℕ) → x * t ≡ high_of x t m * m + low_of x t m % m
product x t m =
    let d : x % m * t / m * m + x % m * t % m ≡ x % m * t = div-add-mod' (x % m * t) m in
    in_parts x m t ∙ omega arith

-- something is left over where a digit is not zero
pub left_over : (a b m : ℕ) → 0 < m → not (eqb (a * m + b) 0) ≡ not (eqb a 0) || not (eqb b 0)
left_over a b m M = go (eqb a 0) refl
  where
    go : (z : Bool) → eqb a 0 ≡ z → not (eqb (a * m + b) 0) ≡ not z || not (eqb b 0)
    go true e =
        let s : a * m + b ≡ b = rw (eqb-true a 0 e) (omega arith) in
        rw s
    go false e =
        let o : 0 < a = omega (arith, eqb-false a 0 e) in
        let p : 0 < a * m = mul-pos o M in
        let n : a * m + b ≡ 0 → ⊥ = omega arith in
        rw (ne_eqb (a * m + b) 0 n)

pub closest_product :
    (x t m half : ℕ) →
    0 < m →
    0 < half →
    closest (x * t) (half * m * 2) ≡ round_halves (high_of x t m / half) (not (eqb (high_of x t m % half) 0) || not (eqb (low_of x t m % m) 0))
closest_product x t m half M H =
    let high = high_of x t m in
    let last = low_of x t m % m in
    let d : high * m ≡ high / half * half * m + high % half * m = in_parts high half m in
    let e : x * t ≡ high / half * (half * m) + (high % half * m + last) = product x t m ∙ omega arith in
    ap (λ (a : ℕ). closest a (half * m * 2)) e
    ∙ closest_halves (high / half) (half * m) (high % half * m + last) (digits_lt (mod-lt high H) (mod-lt (low_of x t m) M))
    ∙ ap (round_halves (high / half)) (left_over (high % half) last m M)
