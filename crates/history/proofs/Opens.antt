-- Whether a step is open is what the log says, and by that a recording waits and ends, along every run.
use Prim.Native.Nat.{ℕ}
use mathlib.Core.Path.{◌≡◌, refl, sym, ap, subst, ◌∙◌}
use mathlib.Core.Bool.{Bool, true, false, not, ◌&&◌}
use mathlib.Core.List.{List, [], ◌∷◌, ◌++◌}
use native.Mathlib.Omega.{arith}
use borrow.Author.Tests.{eq-eqb, eqb-true, not-false}
use Rattle.octets.specs.Pick.{pick}
use Rattle.octets.proofs.Tests.{pick_true, pick_false}
use Rattle.recording.specs.Indication.{counted_recording, has_open}
use Rattle.recording.specs.declared.Recording.{Recording}
use Rattle.master.specs.declared.Master.{Master}
use Rattle.master.specs.Call.{slot_at, refusal}
use Rattle.master.specs.Messages.{execution_in}
use Rattle.master.specs.States as state
use Rattle.master.specs.States.{new_master, is_recording, is_playing, with_recording, ended}
use Rattle.master.specs.Recording.{recording_ended, stopped, recorded, interrupted, heard, Hearing, stop_call, indication_call}
use Rattle.master.proofs.Reading.{heard_recording}
use Rattle.events.specs.Events.{Event, stop, indication, Sort, stops, hears, ticks, answers, loads, other, sort_of, number_by, which_call, call_of, apply, run}
use Rattle.events.proofs.Calls.{number_is, after_is, either_way}
use Rattle.events.proofs.Choices.{chosen, chosen_by}
use Rattle.events.proofs.Changes.{heard_in, Change, rested, moved, dropped, broken, record_starts, record_waits, record_ends, record_hears, record_hears_last, record_ticks, play_starts, play_ticks, play_ticks_last, play_hears, play_hears_last, replaced, not_playing}
use Rattle.events.proofs.Invariant.{done_change}
use Rattle.history.specs.Runs.{Succeeds}
use Rattle.history.specs.Steps.{is_any_open}
use Rattle.history.specs.Log.{is_complete, log_of, log_with}
use Rattle.history.specs.Promises.{Opening}
use Rattle.history.proofs.Gather.{run_more, along}
use Rattle.history.proofs.States.{alike}
use Rattle.history.proofs.Answers.{open_is}
use Rattle.history.proofs.Next.{told_with}
use Rattle.history.proofs.Runs.{traces}

-- ---- stop

module _ (before : List Event) where
  abbrev m : Master
  m = run before

  open_now : has_open m.recording ≡ is_any_open (log_of before)
  open_now = open_is (log_of before) m.recording (traces before).good.told

  stops_done : m.state ≡ state.recording → (apply m stop).number ≡ 0
  unfolding pick refusal stop_call
  stops_done z = number_is m (call_of m stop) ∙ rw z

  state_of : (b : Bool) → has_open m.recording ≡ b → (stopped m).state ≡ pick b state.record_complete state.ready
  unfolding pick stopped recording_ended ended
  state_of true q = rw q
  state_of false q = rw q

  stop_state : m.state ≡ state.recording → (run (before ++ stop ∷ [])).state ≡ pick (is_any_open (log_of before)) state.record_complete state.ready
  unfolding stop_call
  stop_state z =
      ap (λ (k : Master). k.state) (run_more before stop ∙ after_is m (call_of m stop) (stops_done z))
      ∙ state_of (is_any_open (log_of before)) open_now

-- ---- E.4

module _ (before : List Event) (slot : ℕ) (msg out : List ℕ) (i : is_recording (run before) ≡ true) (d : Succeeds before (indication slot msg out)) where
  abbrev e : Event
  e = indication slot msg out

  abbrev next : Recording
  next = (heard_in (run before) slot msg).recording

  heard_is : (heard (run before) slot (slot_at (run before) slot) (execution_in msg)).master ≡ recorded (run before) next
  heard_is = sym (heard_recording (run before) slot slot slot (execution_in msg) refl refl (not_playing (run before) i)).0

  abbrev ends : Bool → Bool
  ends b = is_complete (run before) && not b

  recorded_state : (b : Bool) → has_open next ≡ b → (recorded (run before) next).state ≡ pick (ends b) state.ready (run before).state
  unfolding recorded recording_ended ended
  recorded_state b q =
      chosen_by (λ (k : Master). k.state ≡ pick (ends b) state.ready (run before).state) (ends (has_open next)) _ _
      (λ t. sym (pick_true (ends b) _ _ (ap ends (sym q) ∙ t)))
      (λ t. sym (pick_false (ends b) _ _ (ap ends (sym q) ∙ t)))

  heard_state :
      (run (before ++ e ∷ [])).state ≡ pick (is_complete (run before) && not (is_any_open (log_with before e))) state.ready (run before).state
  unfolding indication_call
  heard_state =
      ap (λ (k : Master). k.state) (run_more before e ∙ after_is (run before) (call_of (run before) e) d ∙ heard_is)
      ∙ recorded_state (is_any_open (log_with before e))
      (open_is (log_with before e) next (told_with before (log_of before) (traces before).good slot msg out i d))

-- ---- in record complete

-- a step is open
Waits : Master → Type 0
Waits m = m.state ≡ state.record_complete → has_open m.recording ≡ true

over : (k : Master) (s : ℕ) → (s ≡ 3 → ⊥) → Waits (ended k s)
unfolding Waits ended
over k s n z = absurd (n z)

kept_over : (k : Master) → Waits (recording_ended k)
unfolding recording_ended
kept_over k = over _ state.ready (λ z. omega arith)

counted_open : (r : Recording) (mm : ℕ) → has_open (counted_recording r mm) ≡ has_open r
unfolding has_open counted_recording
counted_open r mm = refl

module _ (k : Master) (w : Waits k) where
  in_play : {X : Type 0} → is_playing k ≡ true → k.state ≡ state.record_complete → X
  in_play p z = absurd (omega (arith, sym z ∙ eqb-true k.state 4 p))

  -- any call but stop and an E.4
  waits_still : (x : Event) (n : Master) → Change k x n → (which_call x ≡ 0 → ⊥) → (which_call x ≡ 1 → ⊥) → Waits n
  unfolding Waits
  waits_still x n (rested y f) a b z =
      let l = alike k n y in ap has_open l.recording ∙ w (sym l.state ∙ z)
  waits_still x n (moved y t r l) a b z = absurd (omega (arith, l, z))
  waits_still x n (dropped {k = j} y i f) a b z = over j state.ready (λ q. omega arith) z
  waits_still x n (broken {k = j} y p c) a b z = over j state.abort (λ q. omega arith) z
  waits_still x n (record_starts r) a b z = absurd (omega (arith, z))
  waits_still x n (record_waits i) a b z = absurd (a refl)
  waits_still x n (record_ends i) a b z = absurd (a refl)
  waits_still x n (record_hears slot msg out i l) a b z = absurd (b refl)
  waits_still x n (record_hears_last slot msg out i l) a b z = absurd (b refl)
  waits_still x n (record_ticks mm out i l t) a b z = counted_open k.recording mm ∙ w z
  waits_still x n (play_starts r) a b z = absurd (omega (arith, z))
  waits_still x n (play_ticks mm out p l t) a b z = in_play p z
  waits_still x n (play_ticks_last mm out p) a b z = over k state.abort (λ q. omega arith) z
  waits_still x n (play_hears slot msg out p) a b z = in_play p z
  waits_still x n (play_hears_last slot msg out s p r l) a b z = over k s r.1 z
  waits_still x n (replaced r y) a b z = w z

  waits_stopped : Waits (stopped k)
  unfolding Waits stopped
  waits_stopped = chosen_by Waits _ _ _ (λ t _. t) (λ _. kept_over k)

  waits_recorded : (r : Recording) → Waits (recorded k r)
  unfolding Waits recorded
  waits_recorded r =
      chosen_by Waits (is_complete k && not (has_open r)) _ _ (λ _. kept_over (with_recording k r))
      (λ f z. not-false (has_open r) (rw (eq-eqb k.state 3 z) at f))

  waits_heard : (slot : ℕ) (msg : List ℕ) → Waits (heard k slot (slot_at k slot) (execution_in msg)).master
  unfolding Waits heard interrupted
  waits_heard slot msg =
      let H : Hearing → Type 0 = λ h. Waits h.master in
      chosen H _ _ _ (chosen H _ _ _ (over k state.abort (λ q. omega arith)) w) (waits_recorded _)

  waits_by : (x : Event) (s : Sort x) → sort_of x ≡ s → Change k x (call_of k x).after → Waits (call_of k x).after
  unfolding stop_call indication_call
  waits_by x stops q c = waits_stopped
  waits_by x (hears slot msg out) q c = waits_heard slot msg
  waits_by x (ticks mm out) q c = waits_still x _ c (λ y. omega arith) (λ y. omega arith)
  waits_by x (answers slot msg out) q c = waits_still x _ c (λ y. omega arith) (λ y. omega arith)
  waits_by x (loads blocks) q c = waits_still x _ c (λ y. omega arith) (λ y. omega arith)
  waits_by x (other j) q c =
      waits_still x _ c (λ y. omega (arith, sym y ∙ ap (number_by {e = x}) q)) (λ y. omega (arith, sym y ∙ ap (number_by {e = x}) q))

  waits_more : (x : Event) → Waits (apply k x).master
  waits_more x = either_way k (call_of k x) Waits (λ _. w) (λ z. waits_by x (sort_of x) refl (done_change k x z))

none_yet : Waits (run [])
unfolding Waits new_master
none_yet z = absurd (omega (arith, z))

waits : (events : List Event) → (run events).state ≡ state.record_complete → has_open (run events).recording ≡ true
unfolding Waits
waits =
    along (λ events. Waits (run events)) none_yet
    (λ events x h. subst Waits (sym (run_more events x)) (waits_more (run events) h x))

pub opening : Opening
opening = record {
  has_an_open = λ events _. open_now events;
  at_stop = stop_state;
  at_indication = heard_state;
  waits = λ events z. sym (open_now events) ∙ waits events z;
}
