-- The number that is printed: `Nearest` has one answer, the closest whole number of last digits, with the sign of the sum.
use mathlib.Core.Path.{◌≡◌, refl, sym, ap, ◌∙◌, subst}
use mathlib.Core.Logic.{◌≢◌, inl, inr}
use Prim.Native.Nat.{ℕ, zero, suc, ◌+◌, ◌*◌, ◌/◌, ◌%◌, ◌^◌, ◌≤◌, ◌<◌, compare, Ordering}
use native.Mathlib.Nat.{eq-or-lt_of_le, le_antisymm, mul-le-mul_right, suc-mul, mod-lt, div-add-mod'}
use native.Mathlib.Omega.{arith}
use borrow.Author.Tests.{leb-true, leb-false, eqb-true, eqb-false}
use lib.IntN.{ℤ, pos, negsuc, nat_abs}
use lib.Dec.{is_le, compare_is_eq}
use lib.Ieee.{Float, nearest}
use lib.Ieee.Nearest.{closest}
use lib.Ieee.Positive.{num, den, den_pos}
use Rattle.shown.specs.Value.{negative}
use Rattle.printed.specs.Number.{distance, Nearest}
use Rattle.printed.proofs.Signs.{apart, signed, spread, spread_is, size_signed}

-- ---- whole numbers without a sign
-- n is nearest to e / d, and even at a tie
pub record Close (n e d : ℕ) : Type 0 where
  pub near : 2 * apart (n * d) e ≤ d
  pub even : 2 * apart (n * d) e ≡ d → n % 2 ≡ 0

-- of two such numbers none is the lesser: two apart are too far from one another, and of two neighbours one is odd
within : (a e d : ℕ) → 2 * apart a e ≤ d → (2 * a ≤ 2 * e + d) × (2 * e ≤ 2 * a + d)
within a e d h = omega arith

halfway : (a e d : ℕ) → 2 * e ≡ 2 * a + d → (2 * apart a e ≡ d) × (2 * apart (a + d) e ≡ d)
halfway a e d h = omega arith

neighbours : (n e d : ℕ) → Close n e d → Close (suc n) e d → ⊥
neighbours n e d p q =
    let l = within (n * d) e d p.near in
    let r = within (suc n * d) e d q.near in
    let h = halfway (n * d) e d (omega arith) in
    omega (arith, p.even h.0, q.even (rw (suc-mul n d) h.1))

not_less : (n m e d : ℕ) → 0 < d → Close n e d → Close m e d → n < m → ⊥
not_less n m e d D p q l =
    elim (eq-or-lt_of_le l) [
      | inl s ↦ neighbours n e d p (rw s q)
      | inr far ↦ too_far (mul-le-mul_right d far) (within (n * d) e d p.near) (within (m * d) e d q.near)
    ]
  where
    too_far : suc (suc n) * d ≤ m * d → (2 * (n * d) ≤ 2 * e + d) × (2 * e ≤ 2 * (n * d) + d) → (2 * (m * d) ≤ 2 * e + d) × (2 * e ≤ 2 * (m * d) + d) → ⊥
    too_far h a b = omega arith

pub only_close : (n m e d : ℕ) → 0 < d → Close n e d → Close m e d → n ≡ m
only_close n m e d D p q =
    le_antisymm (le_of_not_lt (not_less m n e d D q p)) (le_of_not_lt (not_less n m e d D p q))
  where
    le_of_not_lt : {a b : ℕ} → (b < a → ⊥) → a ≤ b
    le_of_not_lt {a} {b} f = omega arith

-- with the whole part w and the remainder r
tie : (w d r p : ℕ) → p < 2 → (w + p) % 2 ≡ 0 → r * 2 ≡ d → Close (w + p) (w * d + r) d
tie w d r zero P h e = record { near = omega arith; even = λ _. h }
tie w d r (suc zero) P h e = record { near = omega arith; even = λ _. h }
tie w d r (suc (suc p)) P h e = absurd (omega arith)

close_at : (w d r : ℕ) (o : Ordering) → compare (r * 2) d ≡ o → r < d → Close (nearest w o) (w * d + r) d
close_at w d r Ordering.lt c R =
    let l : r * 2 ≤ d = leb-true (r * 2) d (ap is_le c) in
    let n : r * 2 ≢ d = eqb-false (r * 2) d (ap compare_is_eq c) in
    record { near = omega arith; even = λ e. absurd (omega arith) }
close_at w d r Ordering.eq c R = tie w d r (w % 2) (omega arith) (omega arith) (eqb-true (r * 2) d (ap compare_is_eq c))
close_at w d r Ordering.gt c R =
    let g : d < r * 2 = leb-false (r * 2) d (ap is_le c) in
    record { near = omega arith; even = λ e. absurd (omega arith) }

pub closest_close : (e d : ℕ) → 0 < d → Close (closest e d) e d
closest_close e d D =
    subst (λ (x : ℕ). Close (closest e d) x d) (div-add-mod' e d) (close_at (e / d) d (e % d) (compare (e % d * 2) d) refl (mod-lt e D))

pub close_closest : (n e d : ℕ) → 0 < d → Close n e d → n ≡ closest e d
close_closest n e d D c = only_close n (closest e d) e d D c (closest_close e d D)

-- ---- the number that is printed
abbrev pub nearest_of : ℤ → Float → ℕ → ℤ
nearest_of sum scale decimals = signed (negative sum) (closest (nat_abs sum * (num scale * 10 ^ decimals)) (den scale))

-- a number of the other sign is too far
other_sign : (a e d : ℕ) → 0 < d → 2 * (suc a * d + e) ≤ d → ⊥
other_sign a e d D h = omega arith

module _ (scale : Float) (decimals : ℕ) where
  abbrev d : ℕ
  d = den scale

  -- one of the sum in last digits, times d
  abbrev u : ℕ
  u = num scale * 10 ^ decimals

  distance_is : (n sum : ℤ) → distance n sum scale decimals ≡ spread (negative n) (negative sum) (nat_abs n * d) (nat_abs sum * u)
  distance_is n sum = spread_is n sum d u

  distance_signed : (sum : ℤ) (c : ℕ) → distance (signed (negative sum) c) sum scale decimals ≡ apart (c * d) (nat_abs sum * u)
  distance_signed (pos s) c = distance_is (pos c) (pos s)
  distance_signed (negsuc s) zero = distance_is (pos zero) (negsuc s) ∙ omega arith
  distance_signed (negsuc s) (suc c) = distance_is (negsuc c) (negsuc s)

  to_close : (sum : ℤ) (c : ℕ) → Nearest (signed (negative sum) c) sum scale decimals → Close c (nat_abs sum * u) d
  to_close sum c h =
      let q = distance_signed sum c in
      record { near = rw q at h.near; even = λ e. omega (arith, rw (size_signed (negative sum) c) at (h.even (rw q e))) }

  of_close : (sum : ℤ) (c : ℕ) → Close c (nat_abs sum * u) d → Nearest (signed (negative sum) c) sum scale decimals
  of_close sum c h =
      let q = distance_signed sum c in
      record { near = rw q h.near; even = λ e. omega (arith, size_signed (negative sum) c, h.even (rw q at e)) }

  one_sign : (sum : ℤ) (c : ℕ) → Nearest (signed (negative sum) c) sum scale decimals → signed (negative sum) c ≡ nearest_of sum scale decimals
  one_sign sum c h = ap (signed (negative sum)) (close_closest c (nat_abs sum * u) d (den_pos scale) (to_close sum c h))

  pub nearest_is : (n sum : ℤ) → Nearest n sum scale decimals → n ≡ nearest_of sum scale decimals
  nearest_is (pos n) (pos s) h = one_sign (pos s) n h
  nearest_is (pos zero) (negsuc s) h = one_sign (negsuc s) zero h
  nearest_is (pos (suc n)) (negsuc s) h = absurd (other_sign n (suc s * u) d (den_pos scale) (rw (distance_is (pos (suc n)) (negsuc s)) at h.near))
  nearest_is (negsuc n) (pos s) h = absurd (other_sign n (s * u) d (den_pos scale) (rw (distance_is (negsuc n) (pos s)) at h.near))
  nearest_is (negsuc n) (negsuc s) h = one_sign (negsuc s) (suc n) h

  pub is_nearest : (sum : ℤ) → Nearest (nearest_of sum scale decimals) sum scale decimals
  is_nearest sum = of_close sum (closest (nat_abs sum * u) d) (closest_close (nat_abs sum * u) d (den_pos scale))

pub one : (n m sum : ℤ) (scale : Float) (decimals : ℕ) → Nearest n sum scale decimals → Nearest m sum scale decimals → n ≡ m
one n m sum scale decimals h k = nearest_is scale decimals n sum h ∙ sym (nearest_is scale decimals m sum k)
