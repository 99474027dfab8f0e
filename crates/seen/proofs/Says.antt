-- Tests of the definitions and words that say the same; numbers that tests give, and words for them.
use Prim.Native.Nat.{ℕ, zero, suc, ◌≤◌, ◌<◌}
use mathlib.Core.Path.{◌≡◌, refl, sym, subst, ◌∙◌}
use mathlib.Core.Bool.{Bool, true, false, not, ◌&&◌, ◌||◌, true≢false, or-true}
use mathlib.Core.Logic.{◌⊎◌, inl, inr, ◌↔◌}
use mathlib.Core.List.{List, [], ◌∷◌}
use lib.Dec.{eqb, leb, ltb}
use lib.ListN.{get_or}
use borrow.Author.Tests.{eq-eqb, eqb-true, ltb-true, lt-ltb, leb-true, le-leb}
use Rattle.octets.specs.Pick.{pick}
use Rattle.arrays.specs.Arrays.{some}
use Rattle.client.specs.Clients.{is_taken, is_enabled, no_slot}
use Rattle.client.specs.declared.Client.{Client}
use Rattle.events.proofs.Changes.{one_of}
use Rattle.seen.specs.Words.{Enabled}
use Rattle.seen.specs.Numbers.{Not, tells, accepts}
use Rattle.seen.proofs.Tests.{to_enabled, from_enabled}

-- ---- a test says what some words say

abbrev pub Says : Bool → Type 0 → Type 0
Says b P = (b ≡ true) ↔ P

pub equal : (a b : ℕ) → Says (eqb a b) (a ≡ b)
equal a b = (eqb-true a b, eq-eqb a b)

pub below : (a b : ℕ) → Says (ltb a b) (a < b)
below a b = (ltb-true a b, lt-ltb a b)

pub at_most : (a b : ℕ) → Says (leb a b) (a ≤ b)
at_most a b = (leb-true a b, le-leb a b)

pub negated : (b : Bool) (P : Type 0) → Says b P → Says (not b) (Not P)
negated true P s = (λ e. absurd (true≢false (sym e)), λ h. absurd (h (s.0 refl)))
negated false P s = (λ _ p. true≢false (sym (s.1 p)), λ _. refl)

pub both_say : (a b : Bool) (P Q : Type 0) → Says a P → Says b Q → Says (a && b) (P × Q)
both_say true b P Q s t = (λ e. (s.0 refl, t.0 e), λ (p, q). t.1 q)
both_say false b P Q s t = (λ e. absurd (true≢false (sym e)), λ (p, q). s.1 p)

pub either_says : (a b : Bool) (P Q : Type 0) → Says a P → Says b Q → Says (a || b) (P ⊎ Q)
either_says true b P Q s t = (λ _. inl (s.0 refl), λ _. refl)
either_says false b P Q s t = (λ e. inr (t.0 e), go)
  where
    go : P ⊎ Q → b ≡ true
    go (inl p) = absurd (true≢false (sym (s.1 p)))
    go (inr q) = t.1 q

pub where_says : (b x y : Bool) (P X Y : Type 0) → Says b P → Says x X → Says y Y → Says (pick b x y) ((P → X) × (Not P → Y))
unfolding pick
where_says true x y P X Y s t u = (λ e. (λ _. t.0 e, λ h. absurd (h (s.0 refl))), λ (f, _). t.1 (f (s.0 refl)))
where_says false x y P X Y s t u =
    let h : Not P = λ p. true≢false (sym (s.1 p)) in (λ e. (λ p. absurd (h p), λ _. u.0 e), λ (_, f). u.1 (f h))

pub same_words : {b : Bool} {P Q : Type 0} → Says b P → (P ↔ Q) → Says b Q
same_words s w = (λ e. w.0 (s.0 e), λ q. s.1 (w.1 q))

pub three_say : (a b c : Bool) (P Q R : Type 0) → Says a P → Says b Q → Says c R → Says (a && b && c) (P × Q × R)
three_say a b c P Q R s t u =
    same_words (both_say (a && b) c (P × Q) R (both_say a b P Q s t) u) (λ ((p, q), r). (p, q, r), λ (p, q, r). ((p, q), r))

-- ---- a number says what some words say

abbrev pub Tells : ℕ → (ℕ → Type 0) → Type 0
Tells c words = (n : ℕ) → (c ≡ n) ↔ words n

pub done : Tells 0 accepts
done n = (sym, sym)

-- a number that is given by a test, and the others after it
pub first : (b : Bool) (P : Type 0) (k c : ℕ) (rest : ℕ → Type 0) → Says b P → (b ≡ false → Tells c rest) → Tells (pick b k c) (tells k P rest)
unfolding pick
first true P k c rest s t n = (λ e. inl (s.0 refl, sym e), go)
  where
    go : tells k P rest n → k ≡ n
    go (inl (p, e)) = sym e
    go (inr (h, r)) = absurd (h (s.0 refl))
first false P k c rest s t n = (λ e. inr (λ p. true≢false (sym (s.1 p)), (t refl n).0 e), go)
  where
    go : tells k P rest n → c ≡ n
    go (inl (p, e)) = absurd (true≢false (sym (s.1 p)))
    go (inr (h, r)) = (t refl n).1 r

-- the other way round: 0 by a test, else a number
pub unless : (b : Bool) (P : Type 0) (k : ℕ) → Says b P → Tells (pick b 0 k) (tells k (Not P) accepts)
unfolding pick
unless true P k s n = (λ e. inr (λ h. h (s.0 refl), sym e), go)
  where
    go : tells k (Not P) accepts n → 0 ≡ n
    go (inl (h, e)) = absurd (h (s.0 refl))
    go (inr (h, e)) = sym e
unless false P k s n = (λ e. inl (λ p. true≢false (sym (s.1 p)), sym e), go)
  where
    go : tells k (Not P) accepts n → k ≡ n
    go (inl (h, e)) = sym e
    go (inr (h, e)) = absurd (h (λ p. true≢false (sym (s.1 p))))

pub unless_either : (a b : Bool) (P Q : Type 0) (k : ℕ) → Says a P → Says b Q → Tells (pick a 0 (pick b 0 k)) (tells k (Not (P ⊎ Q)) accepts)
unfolding pick
unless_either a b P Q k s t = subst (λ (c : ℕ). Tells c (tells k (Not (P ⊎ Q)) accepts)) (same a) (unless (a || b) (P ⊎ Q) k (either_says a b P Q s t))
  where
    same : (c : Bool) → pick (c || b) 0 k ≡ pick c 0 (pick b 0 k)
    same true = refl
    same false = refl

-- ---- clients

pub doubled : (b : Bool) (P : Type 0) → Says b P → Says (not (not b)) P
doubled true P s = s
doubled false P s = s

pub one_more :
    (p : Client → Bool) (W : Client → Type 0) (s : Client) (l : List Client) → Says (p s) (W s) → Says (some p l) ((i : ℕ) × W (get_or l i no_slot))
    → Says (some p (s ∷ l)) ((i : ℕ) × W (get_or (s ∷ l) i no_slot))
one_more p W s l here rest = (λ e. there (one_of _ _ e), λ (i, w). back i w)
  where
    there : (p s ≡ true) ⊎ (some p l ≡ true) → (i : ℕ) × W (get_or (s ∷ l) i no_slot)
    there (inl t) = (zero, here.0 t)
    there (inr t) = let (i, w) = rest.0 t in (suc i, w)

    back : (i : ℕ) → W (get_or (s ∷ l) i no_slot) → (p s || some p l) ≡ true
    back zero w = rw (here.1 w)
    back (suc i) w = rw (rest.1 (i, w)) (or-true (p s))

pub some_says :
    (p : Client → Bool) (W : Client → Type 0) → p no_slot ≡ false → ((s : Client) → Says (p s) (W s))
    → (l : List Client) → Says (some p l) ((i : ℕ) × W (get_or l i no_slot))
some_says p W none says [] = (λ e. absurd (true≢false (sym e)), λ (i, w). absurd (true≢false (sym ((says no_slot).1 w) ∙ none)))
some_says p W none says (s ∷ l) = one_more p W s l (says s) (some_says p W none says l)

pub attached : (s : Client) → Says (is_taken s) (Not (s.taken ≡ 0))
attached s = negated _ _ (equal s.taken 0)

pub enabled : (s : Client) → Says (is_enabled s) (Enabled s)
enabled s = (to_enabled s, from_enabled s)
