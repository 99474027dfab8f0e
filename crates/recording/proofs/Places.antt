-- Where a list has its first element that passes a test.
use Prim.Native.Nat.{ℕ, suc, ◌+◌}
use mathlib.Core.Path.{◌≡◌, refl, sym, ap, ◌∙◌}
use mathlib.Core.Bool.{Bool, true, false, cond, ◌||◌}
use mathlib.Core.List.{List, [], ◌∷◌, ◌++◌, map}
use native.Mathlib.Omega.{arith}
use lib.ListN.{length}
use Rattle.std.specs.Prelude.{Some, None}
use Rattle.std.specs.List.{position, position_from}
use Rattle.std.proofs.lemmas.Option.{none-some}
use Rattle.std.proofs.lemmas.Iterator.Adapters.{position_from-zero}
use Rattle.arrays.specs.Arrays.{some}
use Rattle.arrays.proofs.Every.{neither}

module _ {X : Type 0} (p : X → Bool) where
  none_from : (i : ℕ) (l : List X) → position_from p i l ≡ None → some p l ≡ false
  none_from i [] e = refl
  none_from i (x ∷ l) e = go (p x) e (none_from (i + 1) l)
    where
      go : (b : Bool) → cond b (Some i) (position_from p (i + 1) l) ≡ None → (position_from p (i + 1) l ≡ None → some p l ≡ false) → (b || some p l) ≡ false
      go true e f = absurd (none-some i (sym e))
      go false e f = f e

  pub none_passes : (l : List X) → position p l ≡ None → some p l ≡ false
  none_passes l e = none_from 0 l (sym (position_from-zero p l) ∙ e)

  last_from : (i : ℕ) (l : List X) (x : X) → some p l ≡ false → p x ≡ true → position_from p i (l ++ x ∷ []) ≡ Some (i + length l)
  last_from i [] x e q = let z : i ≡ i + 0 = omega arith in rw q (ap Some z)
  last_from i (y ∷ l) x e q =
      let n = neither (p y) (some p l) e in
      let z : i + 1 + length l ≡ i + suc (length l) = omega arith in
      rw n.0 (last_from (i + 1) l x n.1 q ∙ ap Some z)

  -- where no element of the list passes, the one after them is found
  pub place_last : (l : List X) (x : X) → some p l ≡ false → p x ≡ true → position p (l ++ x ∷ []) ≡ Some (length l)
  place_last l x e q = let z : 0 + length l ≡ length l = omega arith in position_from-zero p (l ++ x ∷ []) ∙ last_from 0 l x e q ∙ ap Some z

module _ {X Y : Type 0} (f : X → Y) (p : Y → Bool) where
  map_from : (i : ℕ) (l : List X) → position_from p i (map f l) ≡ position_from (λ x. p (f x)) i l
  map_from i [] = refl
  map_from i (x ∷ l) = ap (cond (p (f x)) (Some i)) (map_from (i + 1) l)

  place_map : (l : List X) → position p (map f l) ≡ position (λ x. p (f x)) l
  place_map l = position_from-zero p (map f l) ∙ map_from 0 l ∙ sym (position_from-zero (λ x. p (f x)) l)

  -- in two lists that look alike
  pub place_alike : (l m : List X) → map f l ≡ map f m → position (λ x. p (f x)) l ≡ position (λ x. p (f x)) m
  place_alike l m e = sym (place_map l) ∙ ap (position p) e ∙ place_map m
