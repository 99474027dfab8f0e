-- What every call keeps: that which each change of the master keeps.
use Prim.Native.Nat.{ℕ, ◌≤◌, ◌<◌}
use mathlib.Core.Path.{◌≡◌, refl, ap, subst, ◌∙◌}
use native.Mathlib.Omega.{arith}
use mathlib.Core.List.{List, [], ◌∷◌, ◌++◌}
use Rattle.client.specs.Clients.{slot_count}
use Rattle.client.specs.declared.Client.{Client}
use Rattle.sequence.specs.Sequence.{last_tick}
use Rattle.sequence.specs.declared.Sequence.{Sequence}
use Rattle.recording.specs.State.{blank_recording}
use Rattle.recording.specs.Indication.{counted_recording}
use Rattle.playback.specs.State.{goes_on, blank_playback}
use Rattle.master.specs.declared.Master.{Master}
use Rattle.master.specs.Call.{number_of}
use Rattle.master.specs.States as states
use Rattle.master.specs.States.{new_master, with_state, with_slot, with_sequence, with_recording, with_playback, ended}
use Rattle.master.specs.Recording.{recording_ended}
use Rattle.master.specs.Playback.{answered}
use Rattle.master.proofs.Calls.{passed}
use Rattle.events.specs.Events.{Event, call_of, apply, run_from, Given}
use Rattle.events.proofs.Calls.{either_way}
use Rattle.events.proofs.Changes.{Near, itself, slotted, heard_in, ticked_in, Replaces, Change, rested, moved, dropped, broken, record_starts, record_waits, record_ends, record_hears, record_hears_last, record_ticks, play_starts, play_ticks, play_ticks_last, play_hears, play_hears_last, replaced}
use Rattle.events.proofs.Rows.{row}

-- what a call that is done does to the master
pub done_change : (m : Master) (e : Event) → number_of (call_of m e) ≡ 0 → Change m e (call_of m e).after
done_change m e z = (row m e).change (passed _ _ _ _ _ z)

pub run_more : (events : List Event) (e : Event) (m : Master) → run_from m (events ++ e ∷ []) ≡ (apply (run_from m events) e).master
run_more [] e m = refl
run_more (x ∷ events) e m = run_more events e (apply m x).master

-- a call gives a master that calls give
pub given_next : (m : Master) (e : Event) → Given m → Given (apply m e).master
given_next m e g = (g.0 ++ e ∷ [], run_more g.0 e new_master ∙ ap (λ (k : Master). (apply k e).master) g.1)

-- what every call that is done keeps is so of every master that calls give
module _ (P : Master → Type 0) (keeps : (m : Master) (e : Event) → Given m → number_of (call_of m e) ≡ 0 → P m → P (call_of m e).after) where
  along : (events : List Event) (m : Master) → Given m → P m → P (run_from m events)
  along [] m g h = h
  along (e ∷ events) m g h = along events (apply m e).master (given_next m e g) (either_way m (call_of m e) P (λ _. h) (λ z. keeps m e g z h))

  pub given_by : P new_master → (m : Master) → Given m → P m
  given_by h m g = subst P g.1 (along g.0 new_master ([], refl) h)

pub record Invariant (P : Master → Type 0) : Type 0 where
  pub state : (m : Master) (s : ℕ) → s ≤ states.abort → P m → P (with_state m s)
  pub slot : (m : Master) (i : ℕ) (s : Client) → P m → P (with_slot m i s)
  -- a recording or a playback is over; what stays of a recording is the sequence
  pub over : (m : Master) (s : ℕ) → s ≤ states.abort → P m → P (ended m s)
  pub stays : (m : Master) → P m → P (recording_ended m)
  -- a recording starts, hears an E.4, counts a tick
  pub begins : (m : Master) → P m → P (with_recording m blank_recording)
  pub hears : (m : Master) (slot : ℕ) (msg : List ℕ) → slot < slot_count → P m → P (with_recording m (heard_in m slot msg).recording)
  pub counts :
      (m : Master) (mm : ℕ) → mm ≤ 65535 → (counted_recording m.recording mm).ticks < last_tick → P m → P (with_recording m (counted_recording m.recording mm))
  -- a playback starts, goes on at a tick, takes an answer
  pub starts : (m : Master) → P m → P (with_playback m m.tan blank_playback)
  pub ticks : (m : Master) (mm : ℕ) → mm ≤ 65535 → (ticked_in m mm).end ≡ goes_on → P m → P (with_playback m (ticked_in m mm).tan (ticked_in m mm).playback)
  pub answers : (m : Master) (slot : ℕ) (msg : List ℕ) → P m → P (with_playback m m.tan (answered m slot msg).playback)
  -- the sequence is replaced
  pub replaces : (m : Master) (e : Event) (q : Sequence) → Given m → m.state ≡ states.ready → Replaces m e q → P m → P (with_sequence m q)

module _ (P : Master → Type 0) (k : Invariant P) where
  near : (m n : Master) → Near m n → P m → P n
  near m n itself h = h
  near m n (slotted i s) h = k.slot m i s h

  changed : (m : Master) (e : Event) (n : Master) → Given m → Change m e n → P m → P n
  changed m e n g (rested x y) h = near m n x h
  changed m e n g (moved x s a b) h = k.state _ s (omega arith) (near m _ x h)
  changed m e n g (dropped x i y) h = k.over _ states.ready (omega arith) (near m _ x h)
  changed m e n g (broken x p c) h = k.over _ states.abort (omega arith) (near m _ x h)
  changed m e n g (record_starts r) h = k.state _ states.recording (omega arith) (k.begins m h)
  changed m e n g (record_waits i) h = k.state m states.record_complete (omega arith) h
  changed m e n g (record_ends i) h = k.stays m h
  changed m e n g (record_hears slot msg out i l) h = k.hears m slot msg l h
  changed m e n g (record_hears_last slot msg out i l) h = k.stays _ (k.hears m slot msg l h)
  changed m e n g (record_ticks mm out i l t) h = k.counts m mm l t h
  changed m e n g (play_starts r) h = k.state _ states.playback (omega arith) (k.starts m h)
  changed m e n g (play_ticks mm out p l t) h = k.ticks m mm l t h
  changed m e n g (play_ticks_last mm out p) h = k.over m states.abort (omega arith) h
  changed m e n g (play_hears slot msg out p) h = k.answers m slot msg h
  changed m e n g (play_hears_last slot msg out s p r l) h = k.over m s l h
  changed m e n g (replaced r x) h = k.replaces m e _ g r x h

  pub always : P new_master → (m : Master) → Given m → P m
  always = given_by P (λ m e g z h. changed m e _ g (done_change m e z) h)
