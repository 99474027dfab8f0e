-- A loop that copies the elements that pass a test into an array of blank ones.
use mathlib.Core.Path.{◌≡◌, refl, ap}
use mathlib.Core.Bool.{Bool, true, false, cond}
use mathlib.Core.List.{List, [], ◌∷◌, ◌++◌}
use Prim.Native.Nat.{ℕ, zero, suc, ◌≤◌, ◌<◌}
use native.Mathlib.Omega.{arith}
use lib.ListN.{length, set, replicate}
use Rattle.arrays.specs.Arrays.{those, pad_to}

module _ {X : Type 0} (p : X → Bool) where
  pub those_append : (a b : List X) → those p (a ++ b) ≡ those p a ++ those p b
  those_append [] b = refl
  those_append (x ∷ a) b = go (p x) (those_append a b)
    where
      go : (t : Bool) → those p (a ++ b) ≡ those p a ++ those p b → cond t (x ∷ those p (a ++ b)) (those p (a ++ b)) ≡ cond t (x ∷ those p a) (those p a) ++ those p b
      go true h = ap (λ (l : List X). x ∷ l) h
      go false h = h

  pub those_short : (l : List X) → length (those p l) ≤ length l
  those_short [] = omega arith
  those_short (x ∷ l) = go (p x) (those_short l)
    where
      go : (t : Bool) → length (those p l) ≤ length l → length (cond t (x ∷ those p l) (those p l)) ≤ length (x ∷ l)
      go true h = omega arith
      go false h = omega arith

module _ {X : Type 0} (blank : X) where
  pub pad_none : (n : ℕ) → replicate n blank ≡ pad_to blank n []
  pad_none zero = refl
  pad_none (suc n) = ap (λ (l : List X). blank ∷ l) (pad_none n)

  pub length_pad : (n : ℕ) (l : List X) → length (pad_to blank n l) ≡ n
  length_pad zero l = refl
  length_pad (suc n) [] = ap suc (length_pad n [])
  length_pad (suc n) (x ∷ l) = ap suc (length_pad n l)

  -- a store into the first blank cell
  pub pad_set : (n : ℕ) (l : List X) (k : ℕ) (x : X) → k ≡ length l → k < n → set (pad_to blank n l) k x ≡ pad_to blank n (l ++ x ∷ [])
  pad_set zero l k x e h = absurd (omega arith)
  pad_set (suc n) [] zero x e h = refl
  pad_set (suc n) [] (suc k) x e h = absurd (omega arith)
  pad_set (suc n) (y ∷ l) zero x e h = absurd (omega arith)
  pad_set (suc n) (y ∷ l) (suc k) x e h = ap (λ (r : List X). y ∷ r) (pad_set n l k x (omega arith) (omega arith))
