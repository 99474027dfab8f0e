-- A step after a message of it: what changes, and that the same message again changes nothing.
use Prim.Native.Nat.{ℕ}
use mathlib.Core.Path.{◌≡◌, refl, sym, ap, subst, ◌∙◌}
use mathlib.Core.Bool.{Bool, true, false, not, ◌&&◌, ◌||◌, true≢false, and-false}
use lib.Dec.{eqb}
use borrow.Author.Tests.{eq-eqb, eqb-true}
use Rattle.octets.specs.Pick.{pick}
use Rattle.profile.specs.Profile.{trigger}
use Rattle.message.specs.Fields.{status_number}
use Rattle.message.specs.declared.Execution.{Execution}
use Rattle.message.specs.declared.Status.{Status}
use Rattle.message.specs.declared.Status.TheVariants.{AtOnce, Started, Done, Failed}
use Rattle.client.specs.declared.Client.{Client}
use Rattle.sequence.specs.Sequence.{by_distance}
use Rattle.recording.specs.Indication.{status, is_open, is_step_of, is_same, again_error, done_with, broken, step_after, new_step, first_value, opened}
use Rattle.recording.specs.Kept.{stays}
use Rattle.recording.specs.Promises.{start_of, count_of, Begun}
use Rattle.recording.specs.declared.Taken.{Taken}
use Rattle.recording.specs.declared.Recording.{Recording}

pub both : (a b : Bool) → (a && b) ≡ true → (a ≡ true) × (b ≡ true)
both true b e = (refl, e)
both false b e = absurd (true≢false (sym e))

same : {X : Type 0} (b : Bool) (x : X) → pick b x x ≡ x
unfolding pick
same true x = refl
same false x = refl

-- ---- a step that is held

module _ (t : Taken) (e : Execution) where
  -- a message of another step or to a step that is not open, and one of status 00 or 01, change nothing
  pub unchanged : (is_same t e && is_open t) ≡ false → step_after t e ≡ t
  unfolding pick step_after
  unchanged q = rw q

  pub idle_at_once : e.status ≡ AtOnce → step_after t e ≡ t
  unfolding pick step_after
  idle_at_once z = rw z (same (not (is_same t e && is_open t)) t)

  pub idle_started : e.status ≡ Started → step_after t e ≡ t
  unfolding pick step_after
  idle_started z = rw z (same (not (is_same t e && is_open t)) t)

  pub finishing : (is_same t e && is_open t) ≡ true → e.status ≡ Done → step_after t e ≡ done_with t e.value
  unfolding pick step_after
  finishing q z = rw (q, z)

  failing : (is_same t e && is_open t) ≡ true → e.status ≡ Failed → step_after t e ≡ broken t
  unfolding pick step_after
  failing q z = rw (q, z)

  step_cases :
      (P : Taken → Type 0)
      → (step_after t e ≡ t → P t)
      → ((is_same t e && is_open t) ≡ true → e.status ≡ Done → P (done_with t e.value))
      → ((is_same t e && is_open t) ≡ true → e.status ≡ Failed → P (broken t))
      → P (step_after t e)
  step_cases P f g h = go (is_same t e && is_open t) refl e.status refl
    where
      idle : step_after t e ≡ t → P (step_after t e)
      idle u = subst P (sym u) (f u)

      go : (b : Bool) → (is_same t e && is_open t) ≡ b → (x : Status) → e.status ≡ x → P (step_after t e)
      go false q x z = idle (unchanged q)
      go true q AtOnce z = idle (idle_at_once z)
      go true q Started z = idle (idle_started z)
      go true q Done z = subst P (sym (finishing q z)) (g q z)
      go true q Failed z = subst P (sym (failing q z)) (h q z)

  pub start_same : start_of (step_after t e) ≡ start_of t
  start_same = step_cases (λ u. start_of u ≡ start_of t) (λ _. refl) (λ _ _. refl) (λ _ _. refl)

  -- a one-shot or done step
  pub stays_same : stays t ≡ true → step_after t e ≡ t
  stays_same h = unchanged (rw (not_open t.status h) (and-false (is_same t e)))
    where
      not_open : (s : ℕ) → (eqb s 0 || eqb s 2) ≡ true → eqb s 1 ≡ false
      not_open s k = go (eqb s 1) refl
        where
          go : (b : Bool) → eqb s 1 ≡ b → eqb s 1 ≡ false
          go true q = absurd (true≢false (sym (rw (eqb-true s 1 q) at k)))
          go false q = q

  module _ (q : (is_same t e && is_open t) ≡ true) where
    answers_finish : e.status ≡ Done → (again_error t e ≡ 0) × (again_error (done_with t e.value) e ≡ 0)
    unfolding pick again_error
    answers_finish z = let b = both (is_same t e) (is_open t) q in (rw (b.0, z, eqb-true t.status opened b.1), rw (b.0, z))

    answers_fail : e.status ≡ Failed → (again_error t e ≡ 255) × (again_error (broken t) e ≡ 255)
    unfolding pick again_error
    answers_fail z = let b = both (is_same t e) (is_open t) q in (rw (b.0, z, eqb-true t.status opened b.1), rw (b.0, z))

  -- an answer that is neither 00 nor FF
  pub refused_same : eqb (again_error t e) 0x00 ≡ false → eqb (again_error t e) 0xFF ≡ false → step_after t e ≡ t
  refused_same a b =
      step_cases (λ u. u ≡ t) (λ _. refl)
      (λ q z. absurd (true≢false (sym (eq-eqb _ _ (answers_finish q z).0) ∙ a)))
      (λ q z. absurd (true≢false (sym (eq-eqb _ _ (answers_fail q z).0) ∙ b)))

  pub finish_error : (is_same t e && is_open t) ≡ true → e.status ≡ Done → again_error t e ≡ 0
  finish_error q z = (answers_finish q z).0

module _ (t : Taken) (e : Execution) where
  pub step_twice : step_after (step_after t e) e ≡ step_after t e
  step_twice =
      step_cases t e (λ u. step_after u e ≡ u) (λ u. u)
      (λ _ _. unchanged (done_with t e.value) e (and-false (is_same t e)))
      (λ _ _. unchanged (broken t) e (and-false (is_same t e)))

  pub error_twice : again_error (step_after t e) e ≡ again_error t e
  error_twice =
      step_cases t e (λ u. again_error u e ≡ again_error t e) (λ _. refl)
      (λ q z. (answers_finish t e q z).1 ∙ sym (answers_finish t e q z).0)
      (λ q z. (answers_fail t e q z).1 ∙ sym (answers_fail t e q z).0)

-- ---- a new step

module _ (r : Recording) (trigger : ℕ) (slot : ℕ) (e : Execution) where
  abbrev new : Taken
  new = new_step r trigger slot e

  by_ticks : eqb trigger 2 ≡ false → (by_distance new.step ≡ false) × (new.step.mark ≡ r.ticks)
  unfolding pick new_step
  by_ticks q = (rw q, rw q)

  by_millimetres : eqb trigger 2 ≡ true → (by_distance new.step ≡ true) × (new.step.mark ≡ r.distance)
  unfolding pick new_step
  by_millimetres q = (rw q, rw q)

  pub marked : (b : Bool) → eqb trigger 2 ≡ b → new.step.mark ≡ count_of r (by_distance new.step)
  unfolding pick
  marked true q = (by_millimetres q).1 ∙ rw (by_millimetres q).0
  marked false q = (by_ticks q).1 ∙ rw (by_ticks q).0

  pub new_slot : new.step.slot ≡ slot
  unfolding new_step
  new_slot = refl

  pub new_is_found : is_step_of slot e.tan new ≡ true
  unfolding new_step
  new_is_found = rw (eq-eqb slot slot refl, eq-eqb e.tan e.tan refl)

  pub single_new : (a : Taken) → is_step_of slot e.tan a ≡ false → is_step_of new.step.slot new.tan a ≡ false
  unfolding new_step
  single_new a h = h

  module _ (early : (eqb (status e) 2 || eqb (status e) 3) ≡ false) where
    -- the message that began a step changes nothing when it comes again
    pub new_same : step_after new e ≡ new
    new_same = go e.status refl
      where
        go : (x : Status) → e.status ≡ x → step_after new e ≡ new
        go AtOnce z = idle_at_once new e z
        go Started z = idle_started new e z
        go Done z = absurd (true≢false (rw z at early))
        go Failed z = absurd (true≢false (rw z at early))

    -- and is answered 00 again
    pub new_error : (x : Status) → e.status ≡ x → again_error new e ≡ 0
    unfolding pick new_step again_error
    new_error AtOnce z = rw (z, eq-eqb e.function e.function refl, eq-eqb e.state e.state refl)
    new_error Started z = rw (z, eq-eqb e.function e.function refl, eq-eqb e.state e.state refl)
    new_error Done z = absurd (true≢false (rw z at early))
    new_error Failed z = absurd (true≢false (rw z at early))

module _ (r : Recording) (slot : ℕ) (client : Client) (e : Execution) where
  value_at_once : e.status ≡ AtOnce → first_value (status e) e.value ≡ e.value
  unfolding pick first_value
  value_at_once z = rw z

  value_started : e.status ≡ Started → first_value (status e) e.value ≡ 0
  unfolding pick first_value
  value_started z = rw z

  abbrev step : Taken
  step = new_step r (trigger client.profile e.function) slot e

  pub is_begun : Begun r slot client e step
  unfolding new_step
  is_begun =
      record {
        sender = refl;
        function = refl;
        state = refl;
        tan = refl;
        at_once = λ z. (ap status_number z, value_at_once z);
        started = λ z. (ap status_number z, value_started z);
        in_ticks = by_ticks r (trigger client.profile e.function) slot e;
        in_millimetres = by_millimetres r (trigger client.profile e.function) slot e;
      }
