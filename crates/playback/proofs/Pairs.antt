-- Two arrays, cell by cell: the library's laws of a `zip`, and what a loop over one has left.
use mathlib.Core.Path.{◌≡◌, refl, ap}
use mathlib.Core.Logic.{◌⊎◌, inl, inr}
use mathlib.Core.List.{List, [], ◌∷◌}
use Prim.Native.Nat.{ℕ, zero, suc, ◌<◌}
use native.Mathlib.Omega.{arith}
use lib.ListN.{length, get_or, take}
use denote.Ref.{Bor}
use Rattle.std.specs.Prelude.{Option, Some, None}
use Rattle.std.specs.Iterator.Adapters.{zip_first, zip_second}
use Rattle.std.specs.Slice.Iter.{iter_rest}
use Rattle.std.proofs.Common.{Iter}
use Rattle.std.specs.declared.iter.Zip.{Zip}
use Rattle.std.proofs.iter.Yields.{fronts}
use Rattle.std.proofs.lemmas.Iterator.{zips}
use Rattle.std.proofs.lemmas.Slice.Zip.{length-zip, get_or-zip, Zip-more, either_empty_from_Zip}
use Rattle.playback.specs.Pairs.{pairs}

module _ {X Y : Type 0} where
  pub length_pairs : (a : List X) (b : List Y) (n : ℕ) → length a ≡ n → length b ≡ n → length (pairs a b) ≡ n
  length_pairs a b n e f = omega (arith, length-zip a b)

  pub get_d_pairs : (a : List X) (b : List Y) (i : ℕ) (x : X) (y : Y) → i < length a → i < length b → get_or (pairs a b) i (x, y) ≡ (get_or a i x, get_or b i y)
  get_d_pairs a b i x y h k = get_or-zip a b i (x, y) h k

  pub take_pairs : (n : ℕ) (a : List X) (b : List Y) → take n (pairs a b) ≡ pairs a (take n b)
  take_pairs zero [] b = refl
  take_pairs zero (x ∷ a) b = refl
  take_pairs (suc n) [] b = refl
  take_pairs (suc n) (x ∷ a) [] = refl
  take_pairs (suc n) (x ∷ a) (y ∷ b) = ap (λ (l : List (X × Y)). (x, y) ∷ l) (take_pairs n a b)

  -- the pairs that are left
  abbrev pub left : Zip (Iter X) (Iter Y) → List (X × Y)
  left s = pairs (iter_rest (zip_first s)) (iter_rest (zip_second s))

  pub left_more : (s t : Zip (Iter X) (Iter Y)) (r : Option (Bor X × Bor Y)) (p : Bor X × Bor Y) → r ≡ Some p → zips fronts fronts s r t → left s ≡ (p.0.now, p.1.now) ∷ left t
  left_more s t r p e z = let m = Zip-more s t r p e z in rw (m.0, m.1)

  pub left_none : (s t : Zip (Iter X) (Iter Y)) (r : Option (Bor X × Bor Y)) → r ≡ None → zips fronts fronts s r t → left s ≡ []
  left_none s t r e z = go _ _ (either_empty_from_Zip s t r e z)
    where
      go : (a : List X) (b : List Y) → (a ≡ []) ⊎ (b ≡ []) → pairs a b ≡ []
      go a b (inl e) = rw e
      go [] b (inr e) = refl
      go (x ∷ a) b (inr e) = rw e
