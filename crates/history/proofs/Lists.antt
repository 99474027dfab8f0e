-- Choices, what is first of a log that grows, and a list of steps of which one is replaced.
use Prim.Native.Nat.{ℕ, zero, suc, ◌<◌}
use mathlib.Core.Path.{◌≡◌, refl, sym, ap, ◌∙◌}
use mathlib.Core.Bool.{Bool, true, false, ◌&&◌, cond, true≢false}
use mathlib.Core.List.{List, [], ◌∷◌, ◌++◌}
use native.Mathlib.Omega.{arith}
use lib.Dec.{eqb}
use lib.ListN.{length, get_or, set}
use borrow.Author.Tests.{eqb-true}
use Rattle.arrays.specs.Arrays.{those}
use Rattle.arrays.specs.Every.{Every, EveryTwo}
use Rattle.arrays.proofs.Fill.{those_append}
use Rattle.arrays.proofs.Every.{every_at}
use Rattle.recording.specs.Indication.{is_step_of}
use Rattle.recording.specs.declared.Taken.{Taken}
use Rattle.recording.proofs.Steps.{both}
use Rattle.events.proofs.Choices.{is_false}
use Rattle.history.specs.Steps.{Entry, FirstOf}

-- ---- choices

pub all_true : (a b : Bool) → a ≡ true → b ≡ true → (a && b) ≡ true
all_true a b p q = rw (p, q)

pub left_false : (a b : Bool) → a ≡ false → (a && b) ≡ false
left_false a b p = rw p

pub right_false : (a b : Bool) → b ≡ false → (a && b) ≡ false
right_false true b p = p
right_false false b p = refl

-- ---- what is first

pub none_weaker : (p q : Entry → Bool) → ((x : Entry) → q x ≡ true → p x ≡ true) → (l : List Entry) → those p l ≡ [] → those q l ≡ []
none_weaker p q f [] e = refl
none_weaker p q f (x ∷ l) e = go (p x) (q x) refl refl e (none_weaker p q f l)
  where
    go :
        (a b : Bool) → p x ≡ a → q x ≡ b → cond a (x ∷ those p l) (those p l) ≡ [] → (those p l ≡ [] → those q l ≡ [])
        → cond b (x ∷ those q l) (those q l) ≡ []
    go true b u v z k = let w = ap length z in absurd (omega arith)
    go false true u v z k = absurd (true≢false (sym (f x v) ∙ u))
    go false false u v z k = k z

module _ (p : Entry → Bool) (log : List Entry) (x : Entry) where
  pub still_none : those p log ≡ [] → p x ≡ false → those p (log ++ x ∷ []) ≡ []
  still_none n f = those_append p log (x ∷ []) ∙ rw (n, f)

  pub first_now : those p log ≡ [] → p x ≡ true → FirstOf p (log ++ x ∷ []) x
  first_now n t = ([], those_append p log (x ∷ []) ∙ rw (n, t))

  pub first_still : (y : Entry) → FirstOf p log y → FirstOf p (log ++ x ∷ []) y
  first_still y f = (f.0 ++ those p (x ∷ []), those_append p log (x ∷ []) ∙ ap (λ (l : List Entry). l ++ those p (x ∷ [])) f.1)

-- ---- lists

module _ {X : Type 0} where
  pub every_two : {P Q R : X → Type 0} → ((x : X) → P x → Q x → R x) → (l : List X) → Every P l → Every Q l → Every R l
  every_two f [] p q = tt
  every_two f (x ∷ l) p q = (f x p.0 q.0, every_two f l p.1 q.1)

  pub every_chosen : (P : X → Type 0) (p : X → Bool) (l : List X) → Every (λ x. p x ≡ true → P x) l → Every P (those p l)
  every_chosen P p [] h = tt
  every_chosen P p (x ∷ l) h = go (p x) refl (every_chosen P p l h.1)
    where
      go : (b : Bool) → p x ≡ b → Every P (those p l) → Every P (cond b (x ∷ those p l) (those p l))
      go true t k = (h.0 t, k)
      go false t k = k

  pub every_append : (P : X → Type 0) (l m : List X) → Every P l → Every P m → Every P (l ++ m)
  every_append P [] m h k = k
  every_append P (x ∷ l) m h k = (h.0, every_append P l m h.1 k)

-- one step of a client and a TAN is replaced; the others are of another client or TAN
module _ (slot tan : ℕ) where
  abbrev Single : Taken → Taken → Type 0
  Single a b = is_step_of b.step.slot b.tan a ≡ false

  before_it : (x y : Taken) → is_step_of slot tan y ≡ true → Single x y → is_step_of slot tan x ≡ false
  before_it x y q n =
      let e = both (eqb y.step.slot slot) (eqb y.tan tan) q in
      rw (eqb-true y.step.slot slot e.0, eqb-true y.tan tan e.1) at n

  after_it : (x y : Taken) → is_step_of slot tan x ≡ true → Single x y → is_step_of slot tan y ≡ false
  after_it x y q n = is_false (is_step_of slot tan y) (λ z. true≢false (sym q ∙ before_it x y z n))

  module _ (P Q : Taken → Type 0) (d u : Taken) (other : (t : Taken) → P t → is_step_of slot tan t ≡ false → Q t) where
    pub set_every :
        (l : List Taken) (i : ℕ) → i < length l → is_step_of slot tan (get_or l i d) ≡ true → EveryTwo Single l → Every P l → (P (get_or l i d) → Q u)
        → Every Q (set l i u)
    set_every [] i h q s p f = absurd (omega arith)
    set_every (x ∷ l) zero h q s p f = (f p.0, every_two (λ y a b. other y a (after_it x y q b)) l p.1 s.0)
    set_every (x ∷ l) (suc i) h q s p f =
        (other x p.0 (before_it x (get_or l i d) q (every_at (Single x) l i d (omega arith) s.0)), set_every l i (omega arith) q s.1 p.1 f)
