-- The laws of the walk along a pool: how long an object is at least and at most, and how the places go on from a place.
use Prim.Native.Nat.{ℕ, zero, suc, ◌+◌, ◌-◌, ◌≤◌, ◌<◌}
use native.Mathlib.Nat.{lt_of_not-le}
use native.Mathlib.Decide.{dec_le}
use native.Mathlib.Omega.{arith}
use mathlib.Core.Path.{◌≡◌, refl, sym, ap, ◌∙◌}
use mathlib.Core.List.{List, [], ◌∷◌, ◌++◌}
use native.Mathlib.Numerals.{add-one}
use lib.ListN.{length, take, set}
use lib.Seq.{take-suc-set, append_snoc}
use lib.Dec.{lit≤, eqb}
use borrow.Author.Tests.{le-ltb, lt-ltb}
use Rattle.octets.specs.Pick.{pick}
use Rattle.octets.proofs.Tests.{pick_both}
use Rattle.pool.specs.Fields.{kind_at, fixed_of, size_at, places_f, places_from}

fixed_least : (k : ℕ) → 8 ≤ fixed_of k
unfolding fixed_of
fixed_least k = pick_both (λ (n : ℕ). 8 ≤ n) (eqb k 0) (lit≤ tt) (pick_both (λ (n : ℕ). 8 ≤ n) (eqb k 1) (lit≤ tt) (lit≤ tt))

pub size_least : (s : List ℕ) (at : ℕ) → 8 ≤ size_at s at
size_least s at = omega (arith, fixed_least (kind_at s at))

module _ (s : List ℕ) (at : ℕ) where
  end_f : (f : ℕ) → length s ≤ at → places_f f s at ≡ []
  unfolding places_f pick
  end_f zero h = refl
  end_f (suc f) h = rw (le-ltb at (length s) h)

  next_f : (f : ℕ) → at < length s → places_f (suc f) s at ≡ at ∷ places_f f s (at + size_at s at)
  unfolding places_f pick
  next_f f h = rw (lt-ltb at (length s) h)

-- any count of turns that is large enough gives the same
same : (f g : ℕ) (s : List ℕ) (at : ℕ) → length s - at ≤ f → length s - at ≤ g → places_f f s at ≡ places_f g s at
same zero g s at hf hg = end_f s at 0 (omega arith) ∙ sym (end_f s at g (omega arith))
same (suc f) zero s at hf hg = end_f s at (suc f) (omega arith) ∙ sym (end_f s at 0 (omega arith))
same (suc f) (suc g) s at hf hg =
    elim (dec_le (length s) at) [
      | yes h ↦ end_f s at (suc f) h ∙ sym (end_f s at (suc g) h)
      | no h ↦
          let k : at < length s = lt_of_not-le h in
          let p : 8 ≤ size_at s at = size_least s at in
          next_f s at f k
          ∙ ap (λ (ps : List ℕ). at ∷ ps) (same f g s (at + size_at s at) (omega arith) (omega arith))
          ∙ sym (next_f s at g k)
    ]

module _ (s : List ℕ) (at : ℕ) where
  pub places_end : length s ≤ at → places_from s at ≡ []
  unfolding places_from
  places_end h = end_f s at (length s) h

  pub places_next : at < length s → places_from s at ≡ at ∷ places_from s (at + size_at s at)
  unfolding places_from
  places_next h = same (length s) (suc (length s)) s at (omega arith) (omega arith) ∙ next_f s at (length s) h

  -- the next place is stored
  pub listed_next : (out : List ℕ) (k : ℕ) → k < length out → at < length s → take (k + 1) (set out k at) ++ places_from s (at + size_at s at) ≡ take k out ++ places_from s at
  listed_next out k ho h = rw (add-one, take-suc-set out k at, append_snoc, ← places_next h)
