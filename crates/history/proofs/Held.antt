-- A step that is held comes from the log: what a message does to one step, and a step that stays is traced.
use Prim.Native.Nat.{ℕ, ◌≤◌}
use mathlib.Core.Path.{◌≡◌, refl, sym, ap, subst, ◌∙◌}
use mathlib.Core.Bool.{Bool, true, false, not, ◌&&◌, ◌||◌, true≢false, or-true}
use mathlib.Core.Logic.{inl, inr}
use mathlib.Core.List.{List, [], ◌∷◌, ◌++◌}
use native.Mathlib.Omega.{arith}
use lib.Dec.{eqb, ltb}
use borrow.Author.Tests.{eq-eqb, ne_eqb, le-ltb, eqb-true}
use Rattle.octets.specs.Pick.{pick}
use Rattle.message.specs.Fields.{status_number}
use Rattle.message.specs.declared.Execution.{Execution}
use Rattle.message.specs.declared.Status.{Status}
use Rattle.message.specs.declared.Status.TheVariants.{AtOnce, Started, Done, Failed}
use Rattle.arrays.specs.Arrays.{some, those}
use Rattle.arrays.proofs.Every.{some_more}
use Rattle.recording.specs.Indication.{status, one_shot, opened, done, failed, is_open, is_step_of, is_same, takes, again_error, done_with, broken, step_after}
use Rattle.recording.specs.Kept.{stays}
use Rattle.recording.specs.declared.Taken.{Taken}
use Rattle.recording.proofs.Steps.{both, unchanged, idle_at_once, idle_started, finishing, finish_error}
use Rattle.events.proofs.Choices.{either, is_false}
use Rattle.history.specs.Steps.{Entry, is_answered, is_accepted, is_told, is_finish, is_failure, FirstOf, Begins}
use Rattle.history.specs.Promises.{Traced}
use Rattle.history.proofs.Lists.{all_true, left_false, right_false, still_none, first_now, first_still}

-- ---- a status and its number

pub status_few : (s : Status) → status_number s ≤ 3
status_few AtOnce = omega arith
status_few Started = omega arith
status_few Done = omega arith
status_few Failed = omega arith

pub at_once_is : (s : Status) → status_number s ≡ 0 → s ≡ AtOnce
at_once_is AtOnce e = refl
at_once_is Started e = absurd (omega arith)
at_once_is Done e = absurd (omega arith)
at_once_is Failed e = absurd (omega arith)

pub started_is : (s : Status) → (status_number s ≡ 0 → ⊥) → (eqb (status_number s) 2 || eqb (status_number s) 3) ≡ false → s ≡ Started
started_is AtOnce k n = absurd (k refl)
started_is Started k n = refl
started_is Done k n = absurd (true≢false n)
started_is Failed k n = absurd (true≢false n)

pub done_is : (s : Status) → status_number s ≡ 2 → s ≡ Done
done_is AtOnce e = absurd (omega arith)
done_is Started e = absurd (omega arith)
done_is Done e = refl
done_is Failed e = absurd (omega arith)

pub failed_is : (s : Status) → status_number s ≡ 3 → s ≡ Failed
failed_is AtOnce e = absurd (omega arith)
failed_is Started e = absurd (omega arith)
failed_is Done e = absurd (omega arith)
failed_is Failed e = refl

-- ---- a step that is held

pub record Held (log : List Entry) (t : Taken) : Type 0 where
  pub began : Entry
  pub tan : t.tan ≡ began.message.tan
  pub first : FirstOf (is_accepted began.slot began.message.tan) log began
  pub start : Begins began t.step
  pub one_shot_lem : t.status ≡ one_shot → (began.message.status ≡ AtOnce) × (t.step.value ≡ began.message.value)
  pub started : (t.status ≡ one_shot → ⊥) → began.message.status ≡ Started
  pub unfinished : (t.status ≡ done → ⊥) → those (is_finish began) log ≡ []
  pub is_done : t.status ≡ done → (f : Entry) × FirstOf (is_finish began) log f × (t.step.value ≡ f.message.value)
  pub unfailed : (t.status ≡ failed → ⊥) → those (is_failure began) log ≡ []
  pub is_failed : t.status ≡ failed → some (is_failure began) log ≡ true
  pub few : t.status ≤ failed

-- of a log that grows
some_still : (p : Entry → Bool) (log : List Entry) (x : Entry) → some p log ≡ true → some p (log ++ x ∷ []) ≡ true
some_still p log x t = some_more p log x ∙ rw t

some_now : (p : Entry → Bool) (log : List Entry) (x : Entry) → p x ≡ true → some p (log ++ x ∷ []) ≡ true
some_now p log x t = some_more p log x ∙ rw t (or-true (some p log))

-- one message more, which does not finish it and does not fail it
pub grown :
    (log : List Entry) (x : Entry) (t : Taken) (h : Held log t) → ((t.status ≡ done → ⊥) → is_finish h.began x ≡ false)
    → ((t.status ≡ failed → ⊥) → is_failure h.began x ≡ false) → Held (log ++ x ∷ []) t
grown log x t h f g = record {
  began = h.began;
  tan = h.tan;
  first = first_still _ log x h.began h.first;
  start = h.start;
  one_shot_lem = h.one_shot_lem;
  started = h.started;
  unfinished = λ o. still_none (is_finish h.began) log x (h.unfinished o) (f o);
  is_done = λ d. let k = h.is_done d in (k.0, first_still (is_finish h.began) log x k.0 k.1, k.2);
  unfailed = λ o. still_none (is_failure h.began) log x (h.unfailed o) (g o);
  is_failed = λ d. some_still (is_failure h.began) log x (h.is_failed d);
  few = h.few;
}

-- a message of another status, and one that is answered otherwise
pub not_yet : (error said : ℕ) (b x : Entry) → eqb (status x.message) said ≡ false → is_told error said b x ≡ false
not_yet error said b x n =
    right_false (is_answered error b.slot b.message.tan x) _
    (right_false (eqb b.message.function x.message.function && eqb b.message.state x.message.state) _ n)

pub answered_else : (error slot tan : ℕ) (x : Entry) → eqb x.error error ≡ false → is_answered error slot tan x ≡ false
answered_else error slot tan x n = right_false (eqb slot x.slot && eqb tan x.message.tan) (eqb x.error error) n

-- the message that began it is the first of its client and TAN that was accepted
pub found_first : (log : List Entry) (t : Taken) (h : Held log t) (slot tan : ℕ) → is_step_of slot tan t ≡ true → FirstOf (is_accepted slot tan) log h.began
found_first log t h slot tan q =
    let w = both (eqb t.step.slot slot) (eqb t.tan tan) q in
    let u : h.began.slot ≡ slot = sym h.start.slot ∙ eqb-true _ _ w.0 in
    let v : h.began.message.tan ≡ tan = sym h.tan ∙ eqb-true _ _ w.1 in
    subst (λ (n : ℕ). FirstOf (is_accepted slot n) log h.began) v
    (subst (λ (n : ℕ). FirstOf (is_accepted n h.began.message.tan) log h.began) u h.first)

-- the tests on a step are the tests on the message that began it
pub same_step : (log : List Entry) (t : Taken) (h : Held log t) (e : Execution)
    → is_same t e ≡ (eqb h.began.message.function e.function && eqb h.began.message.state e.state)
same_step log t h e =
    ap (λ (k : ℕ). eqb k e.function && eqb t.step.state e.state) h.start.function
    ∙ ap (λ (k : ℕ). eqb h.began.message.function e.function && eqb k e.state) h.start.state

module _ (log : List Entry) (x : Entry) (t : Taken) (h : Held log t) where
  abbrev b : Entry
  b = h.began

  abbrev e : Execution
  e = x.message

  its_step : is_step_of x.slot e.tan t ≡ (eqb b.slot x.slot && eqb b.message.tan e.tan)
  its_step =
      ap (λ (k : ℕ). eqb k x.slot && eqb t.tan e.tan) h.start.slot
      ∙ ap (λ (k : ℕ). eqb b.slot x.slot && eqb k e.tan) h.tan

  its_same : is_same t e ≡ (eqb b.message.function e.function && eqb b.message.state e.state)
  its_same = same_step log t h e

  -- a message of another client or TAN
  pub not_its : is_step_of x.slot e.tan t ≡ false → (error said : ℕ) → is_told error said b x ≡ false
  not_its n error said = left_false _ _ (left_false _ (eqb x.error error) (sym its_step ∙ n))

  -- the message says this of the step, and is answered so
  says : (error said : ℕ) → is_told error said b x ≡ true → (x.error ≡ error) × (is_same t e ≡ true) × (status e ≡ said)
  says error said k =
      let a = both (is_answered error b.slot b.message.tan x) _ k in
      let z = (both (eqb b.slot x.slot && eqb b.message.tan e.tan) (eqb x.error error) a.0).1 in
      let c = both _ (eqb (status e) said) a.1 in
      (eqb-true x.error error z, its_same ∙ c.0, eqb-true (status e) said c.1)

  told_of : (error said : ℕ) → is_step_of x.slot e.tan t ≡ true → x.error ≡ error → is_same t e ≡ true → status e ≡ said → is_told error said b x ≡ true
  told_of error said it a i c =
      all_true (is_answered error b.slot b.message.tan x) _
      (all_true _ (eqb x.error error) (sym its_step ∙ it) (eq-eqb x.error error a))
      (all_true _ (eqb (status e) said) (sym its_same ∙ i) (eq-eqb (status e) said c))

-- ---- a message of it

failing : (t : Taken) (e : Execution) → (is_same t e && is_open t) ≡ true → e.status ≡ Failed → step_after t e ≡ broken t
unfolding pick step_after
failing t e q z = rw (q, z)

step_cases :
    (t : Taken) (e : Execution) (P : Taken → Type 0)
    → (step_after t e ≡ t → P t)
    → ((is_same t e && is_open t) ≡ true → e.status ≡ Done → P (done_with t e.value))
    → ((is_same t e && is_open t) ≡ true → e.status ≡ Failed → P (broken t))
    → P (step_after t e)
step_cases t e P f g h = go (is_same t e && is_open t) refl e.status refl
  where
    idle : step_after t e ≡ t → P (step_after t e)
    idle u = subst P (sym u) (f u)

    go : (b : Bool) → (is_same t e && is_open t) ≡ b → (x : Status) → e.status ≡ x → P (step_after t e)
    go false q x z = idle (unchanged t e q)
    go true q AtOnce z = idle (idle_at_once t e z)
    go true q Started z = idle (idle_started t e z)
    go true q Done z = subst P (sym (finishing t e q z)) (g q z)
    go true q Failed z = subst P (sym (failing t e q z)) (h q z)

-- a step that takes done is open or done, and one that takes failed is open or failed
refuses_done : (a b : Bool) → (a && false || false || false || b && false) ≡ false
refuses_done true true = refl
refuses_done true false = refl
refuses_done false true = refl
refuses_done false false = refl

takes_done : (s : ℕ) → takes s 2 ≡ true → (s ≡ done → ⊥) → s ≡ opened
takes_done s k n = either (eqb s 1) (λ q. eqb-true s 1 q) (λ q. absurd (true≢false (sym (rw (q, ne_eqb s 2 n) at k) ∙ refuses_done (eqb s 0) (ltb 2 s))))

refuses_failed : (a b : Bool) → (a && false || false || b && false || false) ≡ false
refuses_failed true true = refl
refuses_failed true false = refl
refuses_failed false true = refl
refuses_failed false false = refl

takes_failed : (s : ℕ) → takes s 3 ≡ true → s ≤ failed → (s ≡ failed → ⊥) → s ≡ opened
takes_failed s k l n =
    either (eqb s 1) (λ q. eqb-true s 1 q)
    (λ q. absurd (true≢false (sym (rw (q, le-ltb 2 s (omega arith)) at k) ∙ refuses_failed (eqb s 0) (eqb s 2))))

-- an answer other than 03 is to a status that is taken
taken_by : (t : Taken) (e : Execution) → (again_error t e ≡ 3 → ⊥) → takes t.status (status e) ≡ true
unfolding pick again_error
taken_by t e n = go (is_same t e) (takes t.status (status e)) n
  where
    go : (a b : Bool) → (pick {X = ℕ} (not a) 3 (pick (not b) 3 (pick (eqb (status e) 3) 255 0)) ≡ 3 → ⊥) → b ≡ true
    go true true k = refl
    go true false k = absurd (k refl)
    go false true k = refl
    go false false k = absurd (k refl)

fail_error : (t : Taken) (e : Execution) → (is_same t e && is_open t) ≡ true → e.status ≡ Failed → again_error t e ≡ 255
unfolding pick again_error
fail_error t e q z = let b = both (is_same t e) (is_open t) q in rw (b.0, z, eqb-true t.status opened b.1)

module _ (log : List Entry) (x : Entry) (t : Taken) (h : Held log t) (it : is_step_of x.slot x.message.tan t ≡ true) (answer : x.error ≡ again_error t x.message) where
  abbrev m : Execution
  m = x.message

  -- what changes nothing does not finish it, nor fail it
  not_finish : step_after t m ≡ t → (t.status ≡ done → ⊥) → is_finish h.began x ≡ false
  not_finish u n = is_false (is_finish h.began x) no
    where
      no : is_finish h.began x ≡ true → ⊥
      no k =
          let w = says log x t h 0 2 k in
          let y : takes t.status 2 ≡ true = ap (takes t.status) (sym w.2) ∙ taken_by t m (λ z. omega (arith, sym z ∙ sym answer ∙ w.0)) in
          let q = all_true (is_same t m) (is_open t) w.1 (eq-eqb t.status 1 (takes_done t.status y n)) in
          n (ap (λ (y : Taken). y.status) (sym u ∙ finishing t m q (done_is m.status w.2)))

  not_failure : step_after t m ≡ t → (t.status ≡ failed → ⊥) → is_failure h.began x ≡ false
  not_failure u n = is_false (is_failure h.began x) no
    where
      no : is_failure h.began x ≡ true → ⊥
      no k =
          let w = says log x t h 255 3 k in
          let y : takes t.status 3 ≡ true = ap (takes t.status) (sym w.2) ∙ taken_by t m (λ z. omega (arith, sym z ∙ sym answer ∙ w.0)) in
          let q = all_true (is_same t m) (is_open t) w.1 (eq-eqb t.status 1 (takes_failed t.status y h.few n)) in
          n (ap (λ (y : Taken). y.status) (sym u ∙ failing t m q (failed_is m.status w.2)))

  module _ (q : (is_same t m && is_open t) ≡ true) where
    is_open_lem : t.status ≡ opened
    is_open_lem = eqb-true t.status 1 (both (is_same t m) (is_open t) q).1

    was_started : h.began.message.status ≡ Started
    was_started = let o = is_open_lem in h.started (λ z. omega arith)

    was_unfinished : those (is_finish h.began) log ≡ []
    was_unfinished = let o = is_open_lem in h.unfinished (λ z. omega arith)

    was_unfailed : those (is_failure h.began) log ≡ []
    was_unfailed = let o = is_open_lem in h.unfailed (λ z. omega arith)

    its_own : is_same t m ≡ true
    its_own = (both (is_same t m) (is_open t) q).0

    held_finished : m.status ≡ Done → Held (log ++ x ∷ []) (done_with t m.value)
    held_finished z = record {
      began = h.began;
      tan = h.tan;
      first = first_still _ log x h.began h.first;
      start = record { slot = h.start.slot; function = h.start.function; state = h.start.state; kind = h.start.kind; mark = h.start.mark };
      one_shot_lem = λ s. absurd (omega arith);
      started = λ _. was_started;
      unfinished = λ n. absurd (n refl);
      is_done = λ _. (x, first_now (is_finish h.began) log x was_unfinished (told_of log x t h 0 2 it (answer ∙ finish_error t m q z) its_own (ap status_number z)), refl);
      unfailed = λ _. still_none (is_failure h.began) log x was_unfailed (not_yet 255 3 h.began x (ap (λ (s : Status). eqb (status_number s) 3) z));
      is_failed = λ s. absurd (omega arith);
      few = omega arith;
    }

    held_broken : m.status ≡ Failed → Held (log ++ x ∷ []) (broken t)
    held_broken z = record {
      began = h.began;
      tan = h.tan;
      first = first_still _ log x h.began h.first;
      start = h.start;
      one_shot_lem = λ s. absurd (omega arith);
      started = λ _. was_started;
      unfinished = λ _. still_none (is_finish h.began) log x was_unfinished (not_yet 0 2 h.began x (ap (λ (s : Status). eqb (status_number s) 2) z));
      is_done = λ s. absurd (omega arith);
      unfailed = λ n. absurd (n refl);
      is_failed = λ _. some_now (is_failure h.began) log x (told_of log x t h 255 3 it (answer ∙ fail_error t m q z) its_own (ap status_number z));
      few = omega arith;
    }

  pub held_after : Held (log ++ x ∷ []) (step_after t m)
  held_after = step_cases t m (Held (log ++ x ∷ [])) (λ u. grown log x t h (not_finish u) (not_failure u)) held_finished held_broken

-- ---- a step that stays

pub traced : (log : List Entry) (t : Taken) → Held log t → stays t ≡ true → Traced log t.step
traced log t h k = either (eqb t.status 0) at_once (λ n. finished_later (rw n at k))
  where
    at_once : eqb t.status 0 ≡ true → Traced log t.step
    at_once z =
        let o = h.one_shot_lem (eqb-true t.status 0 z) in
        record { began = h.began; first = h.first; start = h.start; finished = h.began; finish = inl (o.0, refl); value = o.1 }

    finished_later : eqb t.status 2 ≡ true → Traced log t.step
    finished_later z =
        let y = eqb-true t.status 2 z in
        let d = h.is_done y in
        record {
          began = h.began;
          first = h.first;
          start = h.start;
          finished = d.0;
          finish = inr (h.started (λ k. omega arith), d.1);
          value = d.2;
        }
