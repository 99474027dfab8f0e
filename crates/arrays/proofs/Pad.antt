-- An array of which the first cells are used and the others blank.
use Prim.Native.Nat.{ℕ, zero, suc, ◌≤◌, ◌<◌}
use mathlib.Core.Path.{◌≡◌, refl, sym, ap, ◌∙◌}
use mathlib.Core.List.{List, [], ◌∷◌, map}
use native.Mathlib.Omega.{arith}
use lib.ListN.{length, take, get_or, set, length-map}
use Rattle.arrays.specs.Arrays.{pad_to}

-- what stands at a place within the list does not hang on what is read past its end
pub any_default : {X : Type 0} (l : List X) (i : ℕ) (d e : X) → i < length l → get_or l i d ≡ get_or l i e
any_default [] i d e h = absurd (omega arith)
any_default (x ∷ l) zero d e h = refl
any_default (x ∷ l) (suc i) d e h = any_default l i d e (omega arith)

-- the length of an array of structs that is a field
pub length_mapped : {X Y : Type 0} (f : X → Y) (l : List X) (n : ℕ) → length (map f l) ≡ n → length l ≡ n
length_mapped f l n e = sym (length-map l f) ∙ e

module _ {X : Type 0} (blank : X) where
  -- the used cells are those that were filled in
  pub pad_take : (n : ℕ) (l : List X) → length l ≤ n → take (length l) (pad_to blank n l) ≡ l
  pad_take n [] h = refl
  pad_take zero (x ∷ l) h = absurd (omega arith)
  pad_take (suc n) (x ∷ l) h = ap (λ (k : List X). x ∷ k) (pad_take n l (omega arith))

  -- a store into a used cell
  pub pad_put : (n : ℕ) (l : List X) (i : ℕ) (x : X) → i < length l → set (pad_to blank n l) i x ≡ pad_to blank n (set l i x)
  pad_put n [] i x h = absurd (omega arith)
  pad_put zero (y ∷ l) i x h = refl
  pad_put (suc n) (y ∷ l) zero x h = refl
  pad_put (suc n) (y ∷ l) (suc i) x h = ap (λ (k : List X). y ∷ k) (pad_put n l i x (omega arith))
