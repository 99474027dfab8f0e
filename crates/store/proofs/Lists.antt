-- General laws of lists: every element, one that passes a test, those that pass it, a part, and a list that is filled up.
use Prim.Native.Nat.{ℕ, zero, suc, ◌-◌, ◌≤◌, ◌<◌, min}
use mathlib.Core.Path.{◌≡◌, refl, sym, ap, ◌∙◌}
use mathlib.Core.Bool.{Bool, true, false, ◌||◌, cond, true≢false, or-true}
use mathlib.Core.List.{List, [], ◌∷◌, ◌++◌}
use native.Mathlib.Omega.{arith}
use lib.ListN.{length, take, drop, get_or, replicate, length-drop, get_or-append}
use Rattle.octets.specs.Label.{row_of}
use Rattle.arrays.specs.{Arrays.some, Arrays.those, Arrays.pad_to, Every.Every}
use Rattle.std.proofs.lemmas.List.{take_min}
use Rattle.arrays.proofs.{Every.every_more, Fill.pad_none}

-- ---- every element

module _ {X : Type 0} (P : X → Type 0) where
  pub every_append : (a b : List X) → Every P a → Every P b → Every P (a ++ b)
  every_append [] b h k = k
  every_append (x ∷ a) b h k = (h.0, every_append a b h.1 k)

  pub every_take : (n : ℕ) (l : List X) → Every P l → Every P (take n l)
  every_take zero l h = tt
  every_take (suc n) [] h = tt
  every_take (suc n) (x ∷ l) h = (h.0, every_take n l h.1)

  pub every_drop : (n : ℕ) (l : List X) → Every P l → Every P (drop n l)
  every_drop zero l h = h
  every_drop (suc n) [] h = tt
  every_drop (suc n) (x ∷ l) h = every_drop n l h.1

  pub every_pad : (blank : X) (n : ℕ) (l : List X) → P blank → Every P l → Every P (pad_to blank n l)
  every_pad blank zero l p h = tt
  every_pad blank (suc n) [] p h = (p, every_pad blank n [] p tt)
  every_pad blank (suc n) (x ∷ l) p h = (h.0, every_pad blank n l p h.1)

pub every_row : (P : ℕ → Type 0) (n : ℕ) (f : ℕ → ℕ) → ((k : ℕ) → k < n → P (f k)) → Every P (row_of n f)
every_row P zero f h = tt
every_row P (suc n) f h = every_more P (row_of n f) (f n) (every_row P n f (λ k l. h k (omega arith))) (h n (omega arith))

-- what two facts of each element give
pub every_two : {X : Type 0} {P Q R : X → Type 0} → ((x : X) → P x → Q x → R x) → (l : List X) → Every P l → Every Q l → Every R l
every_two f [] h k = tt
every_two f (x ∷ l) h k = (f x h.0 k.0, every_two f l h.1 k.1)

-- ---- an element that passes a test

module _ {X : Type 0} (p : X → Bool) (d : X) where
  pub some_at : (l : List X) (k : ℕ) → k < length l → p (get_or l k d) ≡ true → some p l ≡ true
  some_at [] k h e = absurd (omega arith)
  some_at (x ∷ l) zero h e = rw e
  some_at (x ∷ l) (suc k) h e = rw (some_at l k (omega arith) e) (or-true (p x))

  -- where it stands
  pub at_some : (l : List X) → some p l ≡ true → (k : ℕ) × (k < length l) × (p (get_or l k d) ≡ true)
  at_some [] e = absurd (true≢false (sym e))
  at_some (x ∷ l) e = go (p x) refl e (at_some l)
    where
      go :
          (b : Bool) → p x ≡ b → (b || some p l) ≡ true → (some p l ≡ true → (k : ℕ) × (k < length l) × (p (get_or l k d) ≡ true))
          → (k : ℕ) × (k < suc (length l)) × (p (get_or (x ∷ l) k d) ≡ true)
      go true t s h = (0, omega arith, t)
      go false t s h = let m = h s in (suc m.0, omega (arith, m.1), m.2)

-- ---- the elements that pass a test

module _ {X : Type 0} (p : X → Bool) where
  -- what holds of each that passes
  pub those_pass : {P Q : X → Type 0} → ((x : X) → P x → p x ≡ true → Q x) → (l : List X) → Every P l → Every Q (those p l)
  those_pass f [] h = tt
  those_pass {P} {Q} f (x ∷ l) h = go (p x) refl (those_pass f l h.1)
    where
      go : (b : Bool) → p x ≡ b → Every Q (those p l) → Every Q (cond b (x ∷ those p l) (those p l))
      go true e k = (f x h.0 e, k)
      go false e k = k

  -- an element that passes is among them
  pub among_those : (d : X) (l : List X) (k : ℕ) → k < length l → p (get_or l k d) ≡ true → (j : ℕ) × (j < length (those p l)) × (get_or (those p l) j d ≡ get_or l k d)
  among_those d [] k h e = absurd (omega arith)
  among_those d (x ∷ l) zero h e = rw e (0, omega arith, refl)
  among_those d (x ∷ l) (suc k) h e = go (p x) (among_those d l k (omega arith) e)
    where
      go :
          (b : Bool) → (j : ℕ) × (j < length (those p l)) × (get_or (those p l) j d ≡ get_or l k d)
          → (j : ℕ) × (j < length (cond b (x ∷ those p l) (those p l))) × (get_or (cond b (x ∷ those p l) (those p l)) j d ≡ get_or l k d)
      go true m = (suc m.0, omega (arith, m.1), m.2)
      go false m = m

-- ---- a part of a list

-- a part of a list that reaches no further than the list
pub part_most : {X : Type 0} (l : List X) (n k c r : ℕ) → length l ≡ c → r ≡ min (c - k) n → take n (drop k l) ≡ take r (drop k l)
part_most l n k c r e q =
    let least : min n (length (drop k l)) ≡ r = omega (arith, length-drop k l) in
    sym (take_min n (drop k l)) ∙ ap (λ (m : ℕ). take m (drop k l)) least

-- ---- a list that is filled up

module _ {X : Type 0} (blank : X) where
  -- it is the list, and blank ones after it
  pub pad_is : (n : ℕ) (l : List X) → length l ≤ n → pad_to blank n l ≡ l ++ replicate (n - length l) blank
  pad_is n [] h = let z : n - 0 ≡ n = omega arith in rw z (sym (pad_none blank n))
  pad_is zero (x ∷ l) h = absurd (omega arith)
  pad_is (suc n) (x ∷ l) h =
      let z : suc n - suc (length l) ≡ n - length l = omega arith in
      rw z (ap (λ (k : List X). x ∷ k) (pad_is n l (omega arith)))

  -- a cell that is used
  pub pad_at : (n : ℕ) (l : List X) (k : ℕ) (d : X) → k < length l → length l ≤ n → get_or (pad_to blank n l) k d ≡ get_or l k d
  pad_at n l k d h m = ap (λ (r : List X). get_or r k d) (pad_is n l m) ∙ get_or-append l (replicate (n - length l) blank) d k h
