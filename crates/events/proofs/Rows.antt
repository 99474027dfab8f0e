-- What is proved of each call by its own rule: a row for each.
use Prim.Native.Nat.{ℕ, zero, suc, ◌+◌, ◌-◌, ◌≤◌}
use mathlib.Core.Path.{◌≡◌, refl, sym, subst}
use mathlib.Core.Bool.{Bool, true, false, not, ◌&&◌, true≢false}
use mathlib.Core.Logic.{◌⊎◌, inl, inr}
use mathlib.Core.List.{List}
use native.Mathlib.Omega.{arith}
use lib.Dec.{eqb, leb, ltb}
use lib.ListN.{length}
use borrow.Author.Tests.{eqb-true, eqb-false, ltb-false, not-false}
use Rattle.octets.specs.Pick.{pick}
use Rattle.octets.specs.Numbers.{too_short, wrong_state, wrong_slot, wrong_value, no_step, not_ready, no_match, not_stored}
use Rattle.octets.proofs.Tests.{pick_both}
use Rattle.client.specs.Clients.{is_enabled}
use Rattle.recording.proofs.Steps.{both}
use Rattle.sequence.specs.{Sequence.length_of, Editions.is_edition, declared.Sequence.Sequence}
use Rattle.playback.specs.Answer.{answered_of}
use Rattle.playback.specs.Verification.{verify_of}
use Rattle.playback.specs.Answer.{Answered}
use Rattle.playback.proofs.Verifies.{verifies}
use Rattle.store.specs.Loaded.{load_number}
use Rattle.master.specs.declared.Master.{Master}
use Rattle.master.specs.Call.{Call, refusal, number_of, slot_at}
use Rattle.master.specs.States as state
use Rattle.master.specs.States.{is_recording, is_playing}
use Rattle.master.specs.Clients.{awake, unfit, unexpected, on_call, off_call, attach_call, want_call, report_call, lost_call}
use Rattle.master.specs.Recording.{unready, untimely, record_call, stop_call, cancel_call, indication_call}
use Rattle.master.specs.Playback.{answered, unheeded, unmatched, start_call, abort_call, client_abort_call, answer_call}
use Rattle.master.specs.Tick.{tick_call}
use Rattle.master.specs.{Storing.unstored, Storing.store_call, Storing.load_call, Editions.unset, Editions.edition_call}
use Rattle.master.proofs.Calls.{Passed, below}
use Rattle.events.specs.Events.{Event, on, off, «record», stop, cancel, start, abort, attach, enable, disable, report, lost, indication, client_abort, tick, answer, store, load, edition, call_of}
use Rattle.events.specs.Demand1.{is_among}
use Rattle.events.proofs.Outside.{operator, client_aborts}
use Rattle.events.proofs.Choices.{chosen, chosen_by}
use Rattle.events.proofs.Changes.{Rests, low, passes, Change, itself, rested, moved, dropped, broken, record_starts, play_starts, loaded, in_edition, replaced, slot_change, stopped_change, lost_change, reported_change, heard_change, ticked_change, replied_change}

-- ---- numbers

-- one of those that its record names, and of the table
abbrev pub Named : Master → Event → ℕ → Type 0
Named m e n = (is_among n (call_of m e).numbers && leb n not_stored) ≡ true

never : {X : Type 0} → false ≡ true → X
never e = absurd (true≢false (sym e))

-- those of a start are the checks'
checked : (m : Master) (k : ℕ) → k ≤ 5 → Named m start (no_step + k)
unfolding start_call
checked m zero h = refl
checked m (suc zero) h = refl
checked m (suc (suc zero)) h = refl
checked m (suc (suc (suc zero))) h = refl
checked m (suc (suc (suc (suc zero)))) h = refl
checked m (suc (suc (suc (suc (suc zero))))) h = refl
checked m (suc (suc (suc (suc (suc (suc k)))))) h = absurd (omega arith)

verified : (m : Master) (n : ℕ) → (n ≡ 0) ⊎ ((no_step ≤ n) × (n ≤ not_ready)) → Named m start n
unfolding start_call
verified m n (inl e) = rw e refl
verified m n (inr h) =
    let q : no_step + (n - no_step) ≡ n = omega (arith, h.0) in
    subst (Named m start) q (checked m (n - no_step) (omega (arith, h.1)))

-- an answer is matched, or gives 15
answered_in : (m : Master) (slot : ℕ) (msg out : List ℕ) → Named m (answer slot msg out) (answered m slot msg).number
unfolding answer_call answered_of
answered_in m slot msg out =
    let I : Answered → Type 0 = λ x. Named m (answer slot msg out) x.number in
    chosen I _ _ _ refl (chosen I _ _ _ refl (chosen I _ _ _ refl (chosen I _ _ _ refl refl)))

-- ---- states

-- from inactive or ready
resting : (m : Master) (s : ℕ) → s ≤ state.ready → not (eqb m.state s) ≡ false → Rests m.state
resting m s l e = low m.state (omega (arith, eqb-true m.state s (not-false _ e)))

-- an E.7 that matches is in playback
pub plays : (m : Master) (number : ℕ) → unmatched m.state number ≡ 0 → is_playing m ≡ true
unfolding unmatched pick
plays m number e = go (is_playing m) e
  where
    go : (b : Bool) → pick b number no_match ≡ 0 → b ≡ true
    go true q = refl
    go false q = absurd (omega (arith, q))

is_recording_lem : (m : Master) → m.state ≡ state.recording → is_recording m ≡ true
is_recording_lem m e = rw e

-- an edition is set where there is a step and it is known
set : (q : Sequence) (n : ℕ) → unset q n ≡ 0 → (1 ≤ length_of q) × (is_edition n ≡ true)
unfolding unset pick
set q n e = go (eqb (length_of q) 0) refl (is_edition n) e
  where
    go : (a : Bool) → eqb (length_of q) 0 ≡ a → (b : Bool) → pick a no_step (pick b 0 not_stored) ≡ 0 → (1 ≤ length_of q) × (b ≡ true)
    go true f b e = absurd (omega (arith, e))
    go false f true e = (let z = eqb-false (length_of q) 0 f in omega arith, refl)
    go false f false e = absurd (omega (arith, e))

-- ---- the table

abbrev Passes : Call → Type 0
Passes c = Passed (ltb (length c.lent) c.needs) c.wrong c.absent c.barred c.own

pub record Row (m : Master) (e : Event) : Type 0 where
  -- while the master is inactive every call but on is barred
  pub inactive : m.state ≡ state.inactive → (e ≡ on → ⊥) → (call_of m e).barred ≡ true
  -- its number is named
  pub number : Named m e (number_of (call_of m e))
  -- where it passes its tests it is done
  pub change : Passes (call_of m e) → Change m e (call_of m e).after

-- barred while inactive; 1, 4, 3, 2 and its own numbers, each named where its test can hold; the change
is :
    (m : Master) (e : Event) →
    let c : Call = call_of m e in
    (m.state ≡ state.inactive → (e ≡ on → ⊥) → c.barred ≡ true)
    → (ltb (length c.lent) c.needs ≡ true → Named m e too_short) → (c.wrong ≡ true → Named m e wrong_value) → (c.absent ≡ true → Named m e wrong_slot)
    → Named m e wrong_state → Named m e c.own
    → (Passes c → Change m e c.after) → Row m e
unfolding refusal
is m e inactive short wrong absent barred own change =
    let I : ℕ → Type 0 = Named m e in
    record {
      inactive = inactive;
      number = chosen_by I _ too_short _ short (λ _. chosen_by I _ wrong_value _ wrong (λ _. chosen_by I _ wrong_slot _ absent (λ _. pick_both I _ barred own)));
      change = change;
    }

pub row : (m : Master) (e : Event) → Row m e
unfolding on_call off_call attach_call want_call report_call lost_call record_call stop_call cancel_call indication_call start_call abort_call client_abort_call answer_call tick_call store_call load_call edition_call load_number unstored unset awake unfit unready unexpected untimely unheeded unmatched
row m on =
    is m on (λ s h. absurd (h refl)) never never never refl refl
    (λ p. moved itself state.ready (resting m state.inactive (omega arith) p.allowed) (omega arith))
row m off =
    is m off (λ s h. rw s) never never never refl (pick_both (Named m off) _ refl refl)
    (λ p. moved itself state.inactive (resting m state.ready (omega arith) p.allowed) (omega arith))
row m «record» =
    is m «record» (λ s h. rw s) never never never refl (pick_both (Named m «record») _ refl (pick_both (Named m «record») _ refl refl))
    (λ p. record_starts (resting m state.ready (omega arith) p.allowed))
row m stop = is m stop (λ s h. rw s) never never never refl refl (λ p. stopped_change m (is_recording_lem m (eqb-true _ _ (not-false _ p.allowed))))
row m cancel = is m cancel (λ s h. rw s) never never never refl refl (λ p. dropped {e = cancel} itself (not-false _ p.allowed) (omega arith))
row m start =
    is m start (λ s h. rw s) never never never refl (verified m (verify_of m.slots m.sequence) (verifies.numbers m.sequence.edition m.slots m.sequence))
    (λ p. play_starts (resting m state.ready (omega arith) p.allowed))
row m abort = is m abort (λ s h. rw s) never never never refl refl (λ p. broken itself (not-false _ p.allowed) operator)
row m (attach slot name pool) =
    is m (attach slot name pool) (λ s h. rw s) never never (λ _. refl) refl (pick_both (Named m (attach slot name pool)) _ refl refl)
    (λ p. slot_change m (attach slot name pool) (omega arith) slot _)
row m (enable slot out) =
    is m (enable slot out) (λ s h. rw s) (λ _. refl) never (λ _. refl) refl refl
    (λ p. slot_change m (enable slot out) (omega arith) slot _)
row m (disable slot out) =
    is m (disable slot out) (λ s h. rw s) (λ _. refl) never (λ _. refl) refl refl
    (λ p. slot_change m (disable slot out) (omega arith) slot _)
row m (report slot number) =
    is m (report slot number) (λ s h. rw s) never (λ _. refl) (λ _. refl) refl (pick_both (Named m (report slot number)) _ refl refl)
    (λ p. reported_change m slot number)
row m (lost slot) = is m (lost slot) (λ s h. rw s) never never (λ _. refl) refl refl (λ p. lost_change m slot)
row m (indication slot msg out) =
    is m (indication slot msg out) (λ s h. rw s) (λ _. refl) (λ _. refl) (λ _. refl) refl (pick_both (Named m (indication slot msg out)) _ refl (pick_both (Named m (indication slot msg out)) _ refl refl))
    (λ p. heard_change m slot msg out (not-false _ p.right) (below slot _ p.here) p.goes)
row m (client_abort slot msg) =
    is m (client_abort slot msg) (λ s h. rw s) never (λ _. refl) (λ _. refl) refl (pick_both (Named m (client_abort slot msg)) _ refl refl)
    (λ p. let b = both (is_playing m) (is_enabled (slot_at m slot)) (passes _ p.goes) in broken itself b.0 (client_aborts slot msg (not-false _ p.right) b.1))
row m (tick mm out) = is m (tick mm out) (λ s h. rw s) (λ _. refl) (λ _. refl) never refl refl (λ p. ticked_change m mm out (ltb-false 65535 mm p.right))
row m (answer slot msg out) =
    is m (answer slot msg out) (λ s h. rw s) (λ _. refl) (λ _. refl) (λ _. refl) refl (pick_both (Named m (answer slot msg out)) _ (answered_in m slot msg out) refl)
    (λ p. replied_change m slot msg out (plays m _ p.goes))
row m (store out) =
    is m (store out) (λ s h. rw s) (λ _. refl) never never refl (pick_both (Named m (store out)) _ refl refl) (λ p. rested itself (λ _ z. omega arith))
row m (load blocks) =
    is m (load blocks) (λ s h. rw s) never never never refl (pick_both (Named m (load blocks)) _ refl (pick_both (Named m (load blocks)) _ refl refl))
    (λ p. replaced (eqb-true _ _ (not-false _ p.allowed)) (loaded blocks p.goes))
row m (edition n) =
    is m (edition n) (λ s h. rw s) never never never refl (pick_both (Named m (edition n)) _ refl (pick_both (Named m (edition n)) _ refl refl))
    (λ p. let b = set m.sequence n p.goes in replaced (eqb-true _ _ (not-false _ p.allowed)) (in_edition n b.0 b.1))
