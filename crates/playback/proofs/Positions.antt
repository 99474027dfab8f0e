-- The library's `position`, beside `first_from` and `some`: where it is, if there is one.
use Prim.Native.Nat.{ℕ, suc, ◌+◌, ◌<◌}
use mathlib.Core.Path.{◌≡◌, refl, sym, ap, ◌∙◌}
use mathlib.Core.Bool.{Bool, true, false, not, cond, ◌||◌}
use mathlib.Core.List.{List, [], ◌∷◌}
use native.Mathlib.Omega.{arith}
use lib.Dec.{ltb}
use lib.ListN.{length}
use borrow.Author.Tests.{ltb-true, ltb-false, lt-ltb, le-ltb}
use Rattle.std.specs.Prelude.{Option, Some, None, is_some, position}
use Rattle.std.specs.List.{position_or_len}
use Rattle.std.specs.Option.{unwrap_or}
use Rattle.std.proofs.lemmas.Option.{cond_some}
use Rattle.arrays.specs.Arrays.{some, first_from}
use Rattle.client.specs.declared.Client.{Client}
use Rattle.sequence.specs.Sequence.{steps_of}
use Rattle.sequence.specs.declared.Step.{Step}
use Rattle.sequence.specs.declared.Sequence.{Sequence}
use Rattle.playback.specs.Verification.{is_in_pool}

ltb_suc : (a b : ℕ) → ltb (1 + a) (suc b) ≡ ltb a b
ltb_suc a b = go (ltb a b) refl
  where
    go : (t : Bool) → ltb a b ≡ t → ltb (1 + a) (suc b) ≡ t
    go true e = let h = ltb-true a b e in lt-ltb (1 + a) (suc b) (omega arith)
    go false e = let h = ltb-false a b e in le-ltb (1 + a) (suc b) (omega arith)

module _ {X : Type 0} (p : X → Bool) where
  is_in : (l : List X) → ltb (position_or_len p l) (length l) ≡ some p l
  is_in [] = refl
  is_in (x ∷ l) = go (p x) (is_in l)
    where
      go : (b : Bool) → ltb (position_or_len p l) (length l) ≡ some p l → ltb (cond (not b) (1 + position_or_len p l) 0) (suc (length l)) ≡ (b || some p l)
      go true e = lt-ltb 0 (suc (length l)) (omega arith)
      go false e = ltb_suc (position_or_len p l) (length l) ∙ e

  pub is_some-position : (l : List X) → is_some (position p l) ≡ some p l
  is_some-position l = go (ltb (position_or_len p l) (length l)) ∙ is_in l
    where
      go : (b : Bool) → is_some (cond b (Some (position_or_len p l)) None) ≡ b
      go true = refl
      go false = refl

  -- a test for whether there is one
  pub some_found : (l : List X) (found : Option ℕ) {b : Bool} (c : Bool) → found ≡ position p l → b ≡ is_some found → b ≡ c → some p l ≡ c
  some_found l found c e f g = sym (is_some-position l) ∙ ap is_some (sym e) ∙ sym f ∙ g

  from_position : (none i : ℕ) (l : List X) → first_from none p i l ≡ cond (ltb (position_or_len p l) (length l)) (i + position_or_len p l) none
  from_position none i [] = refl
  from_position none i (x ∷ l) = go (p x) (from_position none (suc i) l)
    where
      go : (b : Bool) → first_from none p (suc i) l ≡ cond (ltb (position_or_len p l) (length l)) (suc i + position_or_len p l) none
          → cond b i (first_from none p (suc i) l)
          ≡ cond (ltb (cond (not b) (1 + position_or_len p l) 0) (suc (length l))) (i + cond (not b) (1 + position_or_len p l) 0) none
      go true e = rw (lt-ltb 0 (suc (length l)) (omega arith)) (omega arith)
      go false e =
          let k : suc i + position_or_len p l ≡ i + (1 + position_or_len p l) = omega arith in
          e ∙ ap (λ (n : ℕ). cond (ltb (position_or_len p l) (length l)) n none) k ∙ ap (λ (b : Bool). cond b (i + (1 + position_or_len p l)) none) (sym (ltb_suc (position_or_len p l) (length l)))

  pub unwrap_or-position : (none : ℕ) (l : List X) → unwrap_or (position p l) none ≡ first_from none p 0 l
  unwrap_or-position none l = go (ltb (position_or_len p l) (length l)) ∙ sym (from_position none 0 l)
    where
      go : (b : Bool) → unwrap_or (cond b (Some (position_or_len p l)) None) none ≡ cond b (0 + position_or_len p l) none
      go true = let z : position_or_len p l ≡ 0 + position_or_len p l = omega arith in z
      go false = refl

  pub position_within : (l : List X) (i : ℕ) → position p l ≡ Some i → i < length l
  position_within l i e =
      let k = cond_some (ltb (position_or_len p l) (length l)) (position_or_len p l) i e in
      let h = ltb-true _ _ k.0 in
      omega (arith, k.1)

-- the same of the steps of a sequence
pub missing_found : (slots : List Client) (q : Sequence) (l : List Step) (found : Option ℕ) {b : Bool} (c : Bool)
    → l ≡ steps_of q → found ≡ position (λ s. not (is_in_pool slots s)) l → b ≡ is_some found → b ≡ c → some (λ s. not (is_in_pool slots s)) (steps_of q) ≡ c
missing_found slots q l found c e f g h = rw (← e) (some_found (λ s. not (is_in_pool slots s)) l found c f g h)
