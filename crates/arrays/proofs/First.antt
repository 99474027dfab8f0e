-- Laws of `first_from`: where it lies, whether there is one, and the first that passes one of two tests.
use Prim.Native.Nat.{ℕ, zero, suc, ◌+◌, ◌≤◌, ◌<◌, min}
use mathlib.Core.Path.{◌≡◌, refl}
use mathlib.Core.Bool.{Bool, true, false, ◌||◌, cond}
use mathlib.Core.List.{List, [], ◌∷◌}
use native.Mathlib.Omega.{arith}
use lib.Dec.{ltb}
use lib.ListN.{length, get_or}
use borrow.Author.Tests.{lt-ltb, le-ltb}
use Rattle.arrays.specs.Arrays.{some, first_from}

module _ {X : Type 0} (none : ℕ) where
  -- elements that are numbered from i on, below none: the first that passes is not before i, and at most none
  pub first_lies : (p : X → Bool) (i : ℕ) (l : List X) → i + length l ≤ none → (i ≤ first_from none p i l) × (first_from none p i l ≤ none)
  first_lies p i [] h = (omega arith, omega arith)
  first_lies p i (x ∷ l) h = let k = first_lies p (suc i) l (omega arith) in go (p x) k
    where
      go : (t : Bool) → (suc i ≤ first_from none p (suc i) l) × (first_from none p (suc i) l ≤ none)
          → (i ≤ cond t i (first_from none p (suc i) l)) × (cond t i (first_from none p (suc i) l) ≤ none)
      go true k = (omega arith, omega arith)
      go false k = let a = k.0 in (omega arith, k.1)

  -- none before it passes
  pub first_before : (p : X → Bool) (i : ℕ) (l : List X) (d : X) (j : ℕ) → j < length l → i + j < first_from none p i l → p (get_or l j d) ≡ false
  first_before p i [] d j h k = absurd (omega arith)
  first_before p i (x ∷ l) d j h k = go (p x) refl j h k (λ (n : ℕ) a b. first_before p (suc i) l d n a b)
    where
      go : (t : Bool) → p x ≡ t → (j : ℕ) → j < suc (length l) → i + j < cond t i (first_from none p (suc i) l)
          → ((n : ℕ) → n < length l → suc i + n < first_from none p (suc i) l → p (get_or l n d) ≡ false) → p (get_or (x ∷ l) j d) ≡ false
      go true e j h k f = absurd (omega arith)
      go false e zero h k f = e
      go false e (suc j) h k f = f j (omega arith) (omega arith)

  pub first_some : (p : X → Bool) (i : ℕ) (l : List X) → i + length l ≤ none → ltb (first_from none p i l) none ≡ some p l
  first_some p i [] h = le-ltb none none (omega arith)
  first_some p i (x ∷ l) h = go (p x) (first_some p (suc i) l (omega arith))
    where
      go : (t : Bool) → ltb (first_from none p (suc i) l) none ≡ some p l → ltb (cond t i (first_from none p (suc i) l)) none ≡ (t || some p l)
      go true k = lt-ltb i none (omega arith)
      go false k = k

  pub first_same : (p q : X → Bool) → ((x : X) → p x ≡ q x) → (i : ℕ) (l : List X) → first_from none p i l ≡ first_from none q i l
  first_same p q e i [] = refl
  first_same p q e i (x ∷ l) = rw (e x, first_same p q e (suc i) l)

  pub first_either :
      (p q r : X → Bool) → ((x : X) → p x ≡ (q x || r x)) → (i : ℕ) (l : List X) → i + length l ≤ none
      → first_from none p i l ≡ min (first_from none q i l) (first_from none r i l)
  first_either p q r e i [] h = omega arith
  first_either p q r e i (x ∷ l) h = rw (e x) (go (first_either p q r e (suc i) l (omega arith)) (q x) (r x))
    where
      go : first_from none p (suc i) l ≡ min (first_from none q (suc i) l) (first_from none r (suc i) l) → (a b : Bool)
          → cond (a || b) i (first_from none p (suc i) l) ≡ min (cond a i (first_from none q (suc i) l)) (cond b i (first_from none r (suc i) l))
      go m true true = omega arith
      go m true false = let k = (first_lies r (suc i) l (omega arith)).0 in omega arith
      go m false true = let k = (first_lies q (suc i) l (omega arith)).0 in omega arith
      go m false false = m
