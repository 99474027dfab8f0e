-- Laws of sums and checks: bytes that agree have one check, wherever they stand, and words that differ in one place have sums that differ by it.
use Prim.Native.Nat.{ℕ, zero, suc, ◌+◌, ◌*◌, ◌%◌, ◌^◌, ◌<◌}
use native.Mathlib.Nat.{add-zero}
use native.Mathlib.Numerals.{add-one}
use native.Mathlib.Omega.{arith}
use mathlib.Core.Path.{◌≡◌, refl, ap}
use mathlib.Core.Bool.{Bool, true, false}
use mathlib.Core.List.{List}
use lib.Dec.{eqb}
use lib.ListN.{get_or}
use borrow.Author.Tests.{eqb-true, eqb-false}
use Rattle.octets.specs.Octets.{number_at}
use Rattle.store.specs.Blocks.{word_at, sum_at, check_at}

pub number_moved : (w : ℕ) (s t : List ℕ) (i j : ℕ) → ((k : ℕ) → k < w → get_or s (i + k) 0 ≡ get_or t (j + k) 0) → number_at w s i ≡ number_at w t j
unfolding number_at
number_moved zero s t i j h = refl
number_moved (suc w) s t i j h =
    let first : get_or s i 0 ≡ get_or t j 0 = rw (add-zero i, add-zero j) at (h 0 (omega arith)) in
    let later : (k : ℕ) → k < w → get_or s (i + 1 + k) 0 ≡ get_or t (j + 1 + k) 0 =
    λ k g. let a : i + 1 + k ≡ i + suc k = omega arith in let b : j + 1 + k ≡ j + suc k = omega arith in rw (a, b) (h (suc k) (omega arith)) in
    rw (first, number_moved w s t (i + 1) (j + 1) later)

-- the sum of one word more
pub sum_more : (s : List ℕ) (k : ℕ) → sum_at s 0 (k + 1) ≡ sum_at s 0 k + number_at 4 s (4 * k)
unfolding sum_at
sum_more s k = let e : 0 + 4 * k ≡ 4 * k = omega arith in rw (add-one k, e)

-- the sum of no word
pub sum_none : (s : List ℕ) → sum_at s 0 0 ≡ 0
unfolding sum_at
sum_none s = refl

pub check_fits : (s : List ℕ) (p number : ℕ) → check_at s p number < 256 ^ 4
unfolding check_at
check_fits s p number = omega arith

-- a block at place p of s and one at place q of t
module _ (s t : List ℕ) (p q : ℕ) where
  abbrev Same : ℕ → Type 0
  Same k = word_at s p k ≡ word_at t q k

  -- the first n bytes agree
  abbrev pub Agree : ℕ → Type 0
  Agree n = (k : ℕ) → k < n → get_or s (p + k) 0 ≡ get_or t (q + k) 0

  pub word_moved : (n k : ℕ) → Agree (4 * n) → k < n → Same k
  word_moved n k h l =
      number_moved 4 s t (p + 4 * k) (q + 4 * k) (λ j m.
      let a : p + 4 * k + j ≡ p + (4 * k + j) = omega arith in
      let b : q + 4 * k + j ≡ q + (4 * k + j) = omega arith in
      rw (a, b) (h (4 * k + j) (omega arith)))

  -- words that agree have one sum
  pub same_sum : (n : ℕ) → ((k : ℕ) → k < n → Same k) → sum_at s p n ≡ sum_at t q n
  unfolding sum_at
  same_sum zero h = refl
  same_sum (suc n) h = rw (same_sum n (λ k l. h k (omega arith)), h n (omega arith))

  pub check_moved : (number : ℕ) → Agree 508 → check_at s p number ≡ check_at t q number
  unfolding check_at
  check_moved number h = ap (λ (n : ℕ). (n + number) % 4294967296) (same_sum 127 (λ k l. word_moved 127 k h l))

  -- words that agree but at k: the sums differ by that word
  pub sum_but :
      (n k : ℕ) → k < n → ((j : ℕ) → j < n → (j ≡ k → ⊥) → Same j)
      → sum_at s p n + word_at t q k ≡ sum_at t q n + word_at s p k
  unfolding sum_at
  sum_but zero k l h = absurd (omega arith)
  sum_but (suc n) k l h = go (eqb k n) refl (sum_but n k)
    where
      go :
          (b : Bool) → eqb k n ≡ b
          → (k < n → ((j : ℕ) → j < n → (j ≡ k → ⊥) → Same j) → sum_at s p n + word_at t q k ≡ sum_at t q n + word_at s p k)
          → sum_at s p n + word_at s p n + word_at t q k ≡ sum_at t q n + word_at t q n + word_at s p k
      go true e f =
          let z : k ≡ n = eqb-true k n e in
          let m : sum_at s p n ≡ sum_at t q n = same_sum n (λ j a. h j (omega arith) (λ x. omega arith)) in
          rw (z, m) (omega arith)
      go false e f =
          let z : k ≡ n → ⊥ = eqb-false k n e in
          let m : sum_at s p n + word_at t q k ≡ sum_at t q n + word_at s p k = f (omega arith) (λ j a b. h j (omega arith) b) in
          let w : word_at s p n ≡ word_at t q n = h n (omega arith) (λ x. omega arith) in
          omega arith
