-- A loop over the first n cells of an array: what it has still to look at.
use mathlib.Core.Path.{◌≡◌, refl, sym, ap, ◌∙◌}
use mathlib.Core.Bool.{Bool, true, false}
use mathlib.Core.List.{List, [], ◌∷◌}
use Prim.Native.Nat.{ℕ, ◌+◌, ◌≤◌, ◌<◌}
use native.Mathlib.Numerals.{add-one}
use native.Mathlib.Omega.{arith}
use lib.ListN.{take, drop, length, get_or, length-take, drop_of_length-le}
use lib.Seq.{drop-cons, get_or-take, take_all}
use Rattle.arrays.specs.Arrays.{some, first_from}

-- the used cells from number i on
pub rest : {X : Type 0} → List X → ℕ → ℕ → List X
rest l n i = drop i (take n l)

module _ {X : Type 0} (l : List X) (n : ℕ) where
  pub start : rest l n 0 ≡ take n l
  unfolding rest
  start = refl

  pub end : (i : ℕ) → n ≤ i → rest l n i ≡ []
  unfolding rest
  end i h = drop_of_length-le (take n l) {i = i} (simp length-take (omega arith))

  pub past : (i : ℕ) → length l ≤ i → rest l n i ≡ []
  unfolding rest
  past i h = drop_of_length-le (take n l) {i = i} (simp length-take (omega arith))

  pub at : (i : ℕ) (d : X) → i < n → i < length l → rest l n i ≡ get_or l i d ∷ rest l n (i + 1)
  unfolding rest
  at i d h k = rw (add-one, drop-cons (take n l) i d (simp length-take (omega arith)), get_or-take)

-- a loop that looks whether some used cell passes a test
module _ {X : Type 0} (p : X → Bool) (l : List X) (n : ℕ) where
  pub some_start : some p (take n l) ≡ some p (rest l n 0)
  some_start = ap (some p) (sym (start l n))

  -- all cells are used
  pub some_whole : length l ≡ n → some p l ≡ some p (rest l n 0)
  some_whole e = ap (some p) (sym (start l n ∙ take_all n l (omega arith)))

  pub some_end : (i : ℕ) → n ≤ i → some p (rest l n i) ≡ false
  some_end i h = ap (some p) (end l n i h)

  pub some_past : (i : ℕ) → length l ≤ i → some p (rest l n i) ≡ false
  some_past i h = ap (some p) (past l n i h)

  pub some_hit : (i : ℕ) (d : X) → i < n → i < length l → p (get_or l i d) ≡ true → some p (rest l n i) ≡ true
  some_hit i d h k e = ap (some p) (at l n i d h k) ∙ rw e

  pub some_miss : (i : ℕ) (d : X) → i < n → i < length l → p (get_or l i d) ≡ false → some p (rest l n i) ≡ some p (rest l n (i + 1))
  some_miss i d h k e = ap (some p) (at l n i d h k) ∙ rw e

-- a loop that looks for the first used cell that passes a test
module _ {X : Type 0} (none : ℕ) (p : X → Bool) (l : List X) (n : ℕ) where
  pub first_start : first_from none p 0 (take n l) ≡ first_from none p 0 (rest l n 0)
  first_start = ap (first_from none p 0) (sym (start l n))

  pub first_end : (i : ℕ) → n ≤ i → first_from none p i (rest l n i) ≡ none
  first_end i h = ap (first_from none p i) (end l n i h)

  pub first_past : (i : ℕ) → length l ≤ i → first_from none p i (rest l n i) ≡ none
  first_past i h = ap (first_from none p i) (past l n i h)

  pub first_hit : (i : ℕ) (d : X) → i < n → i < length l → p (get_or l i d) ≡ true → first_from none p i (rest l n i) ≡ i
  first_hit i d h k e = ap (first_from none p i) (at l n i d h k) ∙ rw e

  pub first_miss :
      (i : ℕ) (d : X) → i < n → i < length l → p (get_or l i d) ≡ false
      → first_from none p i (rest l n i) ≡ first_from none p (i + 1) (rest l n (i + 1))
  first_miss i d h k e = ap (first_from none p i) (at l n i d h k) ∙ rw (e, add-one)
