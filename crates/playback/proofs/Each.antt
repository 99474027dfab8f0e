-- Checks of each element of a list: where the list of them all fails, it fails with the first element of which one does.
use Prim.Native.Nat.{ℕ, zero, suc, ◌<◌}
use mathlib.Core.Path.{◌≡◌, refl, sym, subst, ◌∙◌}
use mathlib.Core.Bool.{Bool, true, false, not, ◌||◌, true≢false}
use mathlib.Core.Logic.{inl, inr}
use mathlib.Core.List.{List, [], ◌∷◌, flat_map}
use native.Mathlib.Omega.{arith}
use lib.Dec.{eqb}
use lib.ListN.{length, get_or}
use borrow.Author.Tests.{eq-eqb, eqb-true}
use Rattle.arrays.specs.Arrays.{some, first_from}
use Rattle.arrays.proofs.Every.{Found, first_is}
use Rattle.arrays.proofs.First.{first_before}
use Rattle.playback.specs.Verification.{Check, first_failing}
use Rattle.playback.proofs.Failing.{Numbered, found, passed}

module _ {X : Type 0} (f : X → List Check) (numbered : (x : X) → Numbered (f x)) where
  failing : X → Bool
  failing x = not (eqb (first_failing (f x)) 0)

  holding : (x : X) → failing x ≡ false → first_failing (f x) ≡ 0
  unfolding failing
  holding x h = go (eqb (first_failing (f x)) 0) refl h
    where
      go : (b : Bool) → eqb (first_failing (f x)) 0 ≡ b → not b ≡ false → first_failing (f x) ≡ 0
      go true e h = eqb-true _ _ e
      go false e h = absurd (true≢false h)

  not_holding : (x : X) → failing x ≡ true → first_failing (f x) ≡ 0 → ⊥
  unfolding failing
  not_holding x h e = true≢false (sym h ∙ rw (eq-eqb _ _ e))

  -- where none fails, all hold
  none_fails : (l : List X) → some failing l ≡ false → first_failing (flat_map f l) ≡ 0
  unfolding flat_map first_failing
  none_fails [] h = refl
  none_fails (x ∷ l) h = let k = either (failing x) h in passed (f x) (flat_map f l) (numbered x) (holding x k.0) ∙ none_fails l k.1
    where
      either : (b : Bool) → (b || some failing l) ≡ false → (b ≡ false) × (some failing l ≡ false)
      either true h = absurd (true≢false h)
      either false h = (refl, h)

  -- the first that fails decides
  decides : (l : List X) (k : ℕ) (d : X) → k < length l → ((j : ℕ) → j < k → first_failing (f (get_or l j d)) ≡ 0) → (first_failing (f (get_or l k d)) ≡ 0 → ⊥)
      → first_failing (f (get_or l k d)) ≡ first_failing (flat_map f l)
  unfolding flat_map
  decides [] k d h b z = absurd (omega arith)
  decides (x ∷ l) zero d h b z = sym (found (f x) (flat_map f l) z)
  decides (x ∷ l) (suc k) d h b z = decides l k d (omega arith) (λ j i. b (suc j) (omega arith)) z ∙ sym (passed (f x) (flat_map f l) (numbered x) (b 0 (omega arith)))

  -- k is the number of the first that fails
  abbrev First : List X → X → ℕ → Type 0
  First l d k =
      (k < length l) × (first_failing (f (get_or l k d)) ≡ first_failing (flat_map f l)) × ((j : ℕ) → j < k → first_failing (f (get_or l j d)) ≡ 0)

  pub first_fails : (none : ℕ) (l : List X) (d : X) → (first_failing (flat_map f l) ≡ 0 → ⊥) → First l d (first_from none (λ x. not (eqb (first_failing (f x)) 0)) 0 l)
  unfolding failing
  first_fails none l d bad = go (first_is failing none 0 l d)
    where
      go : Found failing none 0 l d → First l d (first_from none failing 0 l)
      go (inl h) = absurd (bad (none_fails l h.1))
      go (inr (k, e, s, t)) =
          let z : first_from none failing 0 l ≡ k = omega arith in
          let before : (j : ℕ) → j < k → first_failing (f (get_or l j d)) ≡ 0 = λ j h. holding (get_or l j d) (first_before none failing 0 l d j (omega arith) (omega arith)) in
          subst (First l d) (sym z) (s, decides l k d s before (not_holding (get_or l k d) t), before)
