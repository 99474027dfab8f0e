-- A playback in arrays, and the playback of crate `ticks`: what each store and each test on the cells is, on the lists.
use mathlib.Core.Path.{◌≡◌, refl, sym, ap, subst}
use mathlib.Core.Bool.{Bool, true, false, not, ◌&&◌, ◌||◌, cond, or-false}
use mathlib.Core.List.{List, [], ◌∷◌}
use Prim.Native.Nat.{ℕ, zero, suc, ◌≤◌, ◌<◌}
use native.Mathlib.Omega.{arith}
use borrow.Author.Tests.{lt-ltb, le-ltb, eq-eqb}
use lib.Dec.{T, leb, ltb, eqb, leb-suc-suc}
use lib.ListN.{length, get_or, take, set}
use Rattle.sequence.specs.Sequence.{blank_step, length_of}
use Rattle.sequence.specs.declared.Step.{Step}
use Rattle.sequence.specs.declared.Sequence.{Sequence}
use Rattle.playback.specs.declared.Sent.{Sent}
use Rattle.arrays.specs.Arrays.{some}
use Rattle.playback.specs.State.{answer_none, is_unanswered, blank_sent}
use Rattle.playback.specs.Tick.{is_late, is_due}
use Rattle.ticks.specs.Queue as abs

abbrev pub mark_of : Step → abs.Mark
mark_of s = cond (eqb s.distance 0) (abs.ticks s.mark) (abs.millimetres s.mark)

abbrev pub marks_of : List Step → List abs.Mark
marks_of [] = []
marks_of (s ∷ ss) = mark_of s ∷ marks_of ss

abbrev pub marks_in : Sequence → List abs.Mark
marks_in sequence = marks_of (take (length_of sequence) sequence.steps)

abbrev pub sents_of : List Sent → List abs.LeftStep
sents_of [] = []
sents_of (c ∷ cs) = record { left = c.left; answered = not (is_unanswered c) } ∷ sents_of cs

-- ---- tests

late_is : (a b : Bool) → (a && b) ≡ (not (not a) && b)
late_is true b = refl
late_is false b = refl

pub late_some : (t : ℕ) (cs : List Sent) → some (is_late t) cs ≡ abs.overdue t (sents_of cs)
late_some t [] = refl
late_some t (c ∷ cs) = rw (late_is (is_unanswered c), late_some t cs)

due_is : (s : Step) (t d : ℕ) → abs.reaches (mark_of s) t d ≡ is_due s t d
due_is s t d = go (eqb s.distance 0)
  where
    go : (b : Bool) → abs.reaches (cond b (abs.ticks s.mark) (abs.millimetres s.mark)) t d ≡ ((b && leb s.mark t) || (not b && leb s.mark d))
    go true = sym (or-false (leb s.mark t))
    go false = refl

pub reached_is : (ss : List Step) (n j t d : ℕ) → n ≤ length ss
    → abs.reached (marks_of (take n ss)) j t d ≡ (ltb j n && is_due (get_or ss j blank_step) t d)
reached_is ss zero j t d h = rw (le-ltb j 0 (omega arith))
reached_is [] (suc n) j t d h = absurd (omega arith)
reached_is (s ∷ ss) (suc n) zero t d h = rw (lt-ltb 0 (suc n) (omega arith)) (due_is s t d)
reached_is (s ∷ ss) (suc n) (suc j) t d h = rw (leb-suc-suc (suc j) n) (reached_is ss n j t d (omega arith))

-- ---- stores

pub length_sents : (n : ℕ) (cs : List Sent) → n ≤ length cs → length (sents_of (take n cs)) ≡ n
length_sents zero cs h = refl
length_sents (suc n) [] h = absurd (omega arith)
length_sents (suc n) (c ∷ cs) h = ap suc (length_sents n cs (omega arith))

pub leave_cell : (n : ℕ) (cs : List Sent) (x t : ℕ) → n < length cs
    → sents_of (take (suc n) (set cs n (record { tan = x; answer = answer_none; left = t }))) ≡ abs.leave true t (sents_of (take n cs))
leave_cell n [] x t h = absurd (omega arith)
leave_cell zero (c ∷ cs) x t h = refl
leave_cell (suc n) (c ∷ cs) x t h = ap (λ (r : List abs.LeftStep). record { left = c.left; answered = not (is_unanswered c) } ∷ r) (leave_cell n cs x t (omega arith))

-- cell i with this answer
abbrev pub marked : List Sent → ℕ → ℕ → List Sent
marked cs i a = set cs i (record { tan = (get_or cs i blank_sent).tan; answer = a; left = (get_or cs i blank_sent).left })

pub answer_cell : (n : ℕ) (cs : List Sent) (i a : ℕ) → eqb a 0 ≡ false → sents_of (take n (marked cs i a)) ≡ abs.answer_of (sents_of (take n cs)) i
answer_cell zero cs i a e = refl
answer_cell (suc n) [] i a e = refl
answer_cell (suc n) (c ∷ cs) zero a e = rw e
answer_cell (suc n) (c ∷ cs) (suc i) a e = ap (λ (r : List abs.LeftStep). record { left = c.left; answered = not (is_unanswered c) } ∷ r) (answer_cell n cs i a e)

-- ---- what is read back

pub left_cell : (n : ℕ) (cs : List Sent) (i : ℕ) → i < n → n ≤ length cs → get_or (abs.left_ats (sents_of (take n cs))) i 0 ≡ (get_or cs i blank_sent).left
left_cell zero cs i a h = absurd (omega arith)
left_cell (suc n) [] i a h = absurd (omega arith)
left_cell (suc n) (c ∷ cs) zero a h = refl
left_cell (suc n) (c ∷ cs) (suc i) a h = left_cell n cs i (omega arith) (omega arith)

pub length_lefts : (n : ℕ) (cs : List Sent) → n ≤ length cs → length (abs.left_ats (sents_of (take n cs))) ≡ n
length_lefts zero cs h = refl
length_lefts (suc n) [] h = absurd (omega arith)
length_lefts (suc n) (c ∷ cs) h = ap suc (length_lefts n cs (omega arith))

pub answered_back : (n : ℕ) (cs : List Sent) (i : ℕ) → T (abs.is_answered (sents_of (take n cs)) i) → (i < n) × ((get_or cs i blank_sent).answer ≡ answer_none → ⊥)
answered_back zero cs i a = absurd a
answered_back (suc n) [] i a = absurd a
answered_back (suc n) (c ∷ cs) zero a = (omega arith, λ e. subst (λ (b : Bool). T (not b)) (eq-eqb c.answer answer_none e) a)
answered_back (suc n) (c ∷ cs) (suc i) a = let r = answered_back n cs i a in (omega arith, r.1)

-- an answer leaves a cell's tick and TAN as they were
pub marked_left : (cs : List Sent) (j i a : ℕ) → (get_or (marked cs j a) i blank_sent).left ≡ (get_or cs i blank_sent).left
marked_left [] j i a = refl
marked_left (c ∷ cs) zero zero a = refl
marked_left (c ∷ cs) zero (suc i) a = refl
marked_left (c ∷ cs) (suc j) zero a = refl
marked_left (c ∷ cs) (suc j) (suc i) a = marked_left cs j i a

pub marked_tan : (cs : List Sent) (j i a : ℕ) → (get_or (marked cs j a) i blank_sent).tan ≡ (get_or cs i blank_sent).tan
marked_tan [] j i a = refl
marked_tan (c ∷ cs) zero zero a = refl
marked_tan (c ∷ cs) zero (suc i) a = refl
marked_tan (c ∷ cs) (suc j) zero a = refl
marked_tan (c ∷ cs) (suc j) (suc i) a = marked_tan cs j i a

-- ---- the steps of a sequence stand in its array

pub few : (sequence : Sequence) → length_of sequence ≤ 64
few sequence = omega arith
