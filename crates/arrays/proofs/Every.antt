-- Laws of `Every`, `EveryTwo`, `some` and `first_from`: an element more, some left out, elements seen through a function.
use Prim.Native.Nat.{ℕ, zero, suc, ◌+◌, ◌<◌}
use mathlib.Core.Path.{◌≡◌, refl, sym, ap, subst, ◌∙◌}
use mathlib.Core.Bool.{Bool, true, false, ◌||◌, cond, true≢false, or-false, or-true, or_assoc}
use mathlib.Core.Logic.{◌⊎◌, inl, inr}
use mathlib.Core.List.{List, [], ◌∷◌, ◌++◌, map}
use native.Mathlib.Omega.{arith}
use lib.ListN.{length, take, get_or}
use Rattle.arrays.specs.Arrays.{some, first_from, those}
use Rattle.arrays.specs.Every.{Every, EveryTwo}

pub map_take : {X Y : Type 0} (f : X → Y) (n : ℕ) (l : List X) → map f (take n l) ≡ take n (map f l)
map_take f zero l = refl
map_take f (suc n) [] = refl
map_take f (suc n) (x ∷ l) = ap (λ (k : List _). f x ∷ k) (map_take f n l)

-- ---- every element

module _ {X : Type 0} where
  pub every_weaken : {P Q : X → Type 0} → ((x : X) → P x → Q x) → (l : List X) → Every P l → Every Q l
  every_weaken f [] h = tt
  every_weaken f (x ∷ l) h = (f x h.0, every_weaken f l h.1)

  pub every_at : (P : X → Type 0) (l : List X) (i : ℕ) (d : X) → i < length l → Every P l → P (get_or l i d)
  every_at P [] i d k h = absurd (omega arith)
  every_at P (x ∷ l) zero d k h = h.0
  every_at P (x ∷ l) (suc i) d k h = every_at P l i d (omega arith) h.1

  pub every_more : (P : X → Type 0) (l : List X) (x : X) → Every P l → P x → Every P (l ++ x ∷ [])
  every_more P [] x h p = (p, tt)
  every_more P (y ∷ l) x h p = (h.0, every_more P l x h.1 p)

  pub every_those : (P : X → Type 0) (p : X → Bool) (l : List X) → Every P l → Every P (those p l)
  every_those P p [] h = tt
  every_those P p (x ∷ l) h = go (p x) (every_those P p l h.1)
    where
      go : (t : Bool) → Every P (those p l) → Every P (cond t (x ∷ those p l) (those p l))
      go true k = (h.0, k)
      go false k = k

-- ---- every two

module _ {X : Type 0} (R : X → X → Type 0) where
  pub pairs_at : (l : List X) (i j : ℕ) (d : X) → i < j → j < length l → EveryTwo R l → R (get_or l i d) (get_or l j d)
  pairs_at [] i j d h k p = absurd (omega arith)
  pairs_at (x ∷ l) i zero d h k p = absurd (omega arith)
  pairs_at (x ∷ l) zero (suc j) d h k p = every_at (R x) l j d (omega arith) p.0
  pairs_at (x ∷ l) (suc i) (suc j) d h k p = pairs_at l i j d (omega arith) (omega arith) p.1

  pub pairs_more : (l : List X) (x : X) → EveryTwo R l → Every (λ y. R y x) l → EveryTwo R (l ++ x ∷ [])
  pairs_more [] x p h = (tt, tt)
  pairs_more (y ∷ l) x p h = (every_more (R y) l x p.0 h.0, pairs_more l x p.1 h.1)

  pub pairs_those : (p : X → Bool) (l : List X) → EveryTwo R l → EveryTwo R (those p l)
  pairs_those p [] h = tt
  pairs_those p (x ∷ l) h = go (p x) (pairs_those p l h.1)
    where
      go : (t : Bool) → EveryTwo R (those p l) → EveryTwo R (cond t (x ∷ those p l) (those p l))
      go true k = (every_those (R x) p l h.0, k)
      go false k = k

-- ---- seen through a function

module _ {X Y : Type 0} (f : X → Y) where
  pub every_map : (P : Y → Type 0) (l : List X) → Every (λ x. P (f x)) l → Every P (map f l)
  every_map P [] h = tt
  every_map P (x ∷ l) h = (h.0, every_map P l h.1)

  every_back : (P : Y → Type 0) (l : List X) → Every P (map f l) → Every (λ x. P (f x)) l
  every_back P [] h = tt
  every_back P (x ∷ l) h = (h.0, every_back P l h.1)

  pub pairs_map : (R : Y → Y → Type 0) (l : List X) → EveryTwo (λ x y. R (f x) (f y)) l → EveryTwo R (map f l)
  pairs_map R [] h = tt
  pairs_map R (x ∷ l) h = (every_map (R (f x)) l h.0, pairs_map R l h.1)

  pairs_back : (R : Y → Y → Type 0) (l : List X) → EveryTwo R (map f l) → EveryTwo (λ x y. R (f x) (f y)) l
  pairs_back R [] h = tt
  pairs_back R (x ∷ l) h = (every_back (R (f x)) l h.0, pairs_back R l h.1)

  pub some_map : (p : Y → Bool) (l : List X) → some p (map f l) ≡ some (λ x. p (f x)) l
  some_map p [] = refl
  some_map p (x ∷ l) = ap (λ (b : Bool). p (f x) || b) (some_map p l)

  pub first_map : (none : ℕ) (p : Y → Bool) (i : ℕ) (l : List X) → first_from none p i (map f l) ≡ first_from none (λ x. p (f x)) i l
  first_map none p i [] = refl
  first_map none p i (x ∷ l) = ap (cond (p (f x)) i) (first_map none p (suc i) l)

  -- two lists that look alike
  module _ (l m : List X) (e : map f l ≡ map f m) where
    pub every_alike : (P : Y → Type 0) → Every (λ x. P (f x)) l → Every (λ x. P (f x)) m
    every_alike P h = every_back P m (subst (Every P) e (every_map P l h))

    pub pairs_alike : (R : Y → Y → Type 0) → EveryTwo (λ x y. R (f x) (f y)) l → EveryTwo (λ x y. R (f x) (f y)) m
    pairs_alike R h = pairs_back R m (subst (EveryTwo R) e (pairs_map R l h))

    pub some_alike : (p : Y → Bool) → some (λ x. p (f x)) l ≡ some (λ x. p (f x)) m
    some_alike p = sym (some_map p l) ∙ ap (some p) e ∙ some_map p m

    pub first_alike : (none : ℕ) (p : Y → Bool) (i : ℕ) → first_from none (λ x. p (f x)) i l ≡ first_from none (λ x. p (f x)) i m
    first_alike none p i = sym (first_map none p i l) ∙ ap (first_from none p i) e ∙ first_map none p i m

-- ---- a test

pub neither : (a b : Bool) → (a || b) ≡ false → (a ≡ false) × (b ≡ false)
neither true b e = absurd (true≢false e)
neither false b e = (refl, e)

module _ {X : Type 0} (p q r : X → Bool) where
  -- a test that is one of two others
  pub some_either : ((x : X) → p x ≡ (q x || r x)) → (l : List X) → some p l ≡ (some q l || some r l)
  some_either e [] = refl
  some_either e (x ∷ l) = rw (e x, some_either e l) (swap (q x) (r x) (some q l) (some r l))
    where
      swap : (a b c d : Bool) → ((a || b) || (c || d)) ≡ ((a || c) || (b || d))
      swap true b c d = refl
      swap false true c d = sym (or-true c)
      swap false false c d = refl

module _ {X : Type 0} (p : X → Bool) where
  pub some_more : (l : List X) (x : X) → some p (l ++ x ∷ []) ≡ (some p l || p x)
  some_more [] x = or-false (p x)
  some_more (y ∷ l) x = ap (λ (b : Bool). p y || b) (some_more l x) ∙ sym (or_assoc (p y) (some p l) (p x))

  -- none passes
  pub none_passes : (l : List X) → some p l ≡ false → Every (λ x. p x ≡ false) l
  none_passes [] e = tt
  none_passes (x ∷ l) e = let n = neither (p x) (some p l) e in (n.0, none_passes l n.1)

  pub those_none : (l : List X) → some p l ≡ false → those p l ≡ []
  those_none [] e = refl
  those_none (x ∷ l) e = let n = neither (p x) (some p l) e in rw n.0 (those_none l n.1)

  pub none_those : (q : X → Bool) (l : List X) → some p l ≡ false → some p (those q l) ≡ false
  none_those q [] e = refl
  none_those q (x ∷ l) e = go (q x) (neither (p x) (some p l) e).0 (none_those q l (neither (p x) (some p l) e).1)
    where
      go : (b : Bool) → p x ≡ false → some p (those q l) ≡ false → some p (cond b (x ∷ those q l) (those q l)) ≡ false
      go true n h = rw n h
      go false n h = h

  pub those_some : (l : List X) → some p l ≡ true → 0 < length (those p l)
  those_some [] e = absurd (true≢false (sym e))
  those_some (x ∷ l) e = go (p x) e (λ k. those_some l k)
    where
      go : (b : Bool) → (b || some p l) ≡ true → (some p l ≡ true → 0 < length (those p l)) → 0 < length (cond b (x ∷ those p l) (those p l))
      go true q k = omega arith
      go false q k = k q

  -- nothing is found, or what is found passes and stands in the list
  abbrev pub Found : ℕ → ℕ → List X → X → Type 0
  Found none i l d =
      ((first_from none p i l ≡ none) × (some p l ≡ false))
      ⊎ ((k : ℕ) × (first_from none p i l ≡ i + k) × (k < length l) × (p (get_or l k d) ≡ true))

  found_here : (none i : ℕ) (x : X) (l : List X) (d : X) → p x ≡ true → Found none i (x ∷ l) d
  found_here none i x l d q = let z : i ≡ i + 0 = omega arith in inr (0, rw q z, omega arith, q)

  found_later : (none i : ℕ) (x : X) (l : List X) (d : X) → p x ≡ false → Found none (suc i) l d → Found none i (x ∷ l) d
  found_later none i x l d q (inl h) = inl (rw q h.0, rw q h.1)
  found_later none i x l d q (inr (k, e, s, t)) =
      let z : first_from none p (suc i) l ≡ i + suc k = omega arith in
      inr (suc k, rw q z, omega arith, t)

  pub first_is : (none i : ℕ) (l : List X) (d : X) → Found none i l d
  first_is none i [] d = inl (refl, refl)
  first_is none i (x ∷ l) d = go (p x) refl (first_is none (suc i) l d)
    where
      go : (b : Bool) → p x ≡ b → Found none (suc i) l d → Found none i (x ∷ l) d
      go true q f = found_here none i x l d q
      go false q f = found_later none i x l d q f

  -- where no element of the list passes, the one after them is found
  pub first_new : (none i : ℕ) (l : List X) (x : X) → some p l ≡ false → p x ≡ true → first_from none p i (l ++ x ∷ []) ≡ i + length l
  first_new none i [] x e q = let z : i ≡ i + 0 = omega arith in rw q z
  first_new none i (y ∷ l) x e q =
      let n = neither (p y) (some p l) e in
      let z : suc i + length l ≡ i + suc (length l) = omega arith in
      rw n.0 (first_new none (suc i) l x n.1 q ∙ z)
