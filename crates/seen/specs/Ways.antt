-- 01, "Clients and states": every way from one state to another, and nothing else, but for the ends of a playback.
use Rattle.std.specs.Prelude.{ℕ, ◌+◌, ◌/◌, ◌%◌, ◌≤◌, ◌<◌, ◌≡◌, ◌↔◌, List, get_or}
use Rattle.sequence.specs.Editions.{with_edition}
use Rattle.recording.specs.{State.blank_taken, declared.Taken.Taken}
use Rattle.master.specs.{declared.Master.Master, Call.slot_at, States.with_sequence}
use Rattle.events.specs.Events.{Event, on, off, «record», stop, cancel, start, report, lost, indication, tick, store, load, edition, apply, Given}
use Rattle.seen.specs.Words.{Done, nth, Enabled, InRecording}

-- step i of the recording, counted from 0
abbrev pub held : Master → ℕ → Taken
held m i = get_or m.recording.steps i blank_taken

-- it is open: a status of 01 has started it, and neither 10 nor 11 has ended it
pub record Open (m : Master) (i : ℕ) : Type 0 where
  pub counted : i < m.recording.count
  pub started : (held m i).status ≡ 1

-- an E.4 of this client ends a step: it has its TAN, function and state, and status 10 or 11
pub record Closes (slot : ℕ) (msg : List ℕ) (t : Taken) : Type 0 where
  pub of_client : t.step.slot ≡ slot
  pub of_tan : t.tan ≡ nth 4 msg
  pub of_function : t.step.function ≡ nth 2 msg
  pub of_state : t.step.state ≡ nth 3 msg % 64
  pub ends : 2 ≤ nth 3 msg / 64

-- "every enabled client's last report is abort"
abbrev pub AllAbort : Master → Type 0
AllAbort m = (slot : ℕ) → Enabled (slot_at m slot) → (slot_at m slot).report ≡ 5

-- by which event the master goes to which state
pub data Way (m : Master) : Event → ℕ → Type 0 where
  -- "inactive to ready (on)"
  switches_on : m.state ≡ 0 → Way m on 1
  -- "ready to inactive (off; ..)"
  switches_off : m.state ≡ 1 → Way m off 0
  -- "Ready to record"
  records : m.state ≡ 1 → Way m «record» 2
  -- "Start, from ready"
  starts : m.state ≡ 1 → Way m start 4
  -- "Record: stop goes to record complete if a step is open, else ready"
  waits : (i : ℕ) → m.state ≡ 2 → Open m i → Way m stop 3
  stops : m.state ≡ 2 → ((i : ℕ) → Open m i → ⊥) → Way m stop 1
  -- "record complete goes to ready when none is open": at an E.4 that ends all that are
  completes : (slot : ℕ) (msg out : List ℕ) → m.state ≡ 3 → ((i : ℕ) → Open m i → Closes slot msg (held m i)) → Way m (indication slot msg out) 1
  -- "in both, cancel, the loss or disabling of an enabled client, or tick 36,000 goes to ready"
  cancels : InRecording m → Way m cancel 1
  loses : (slot : ℕ) → InRecording m → Enabled (slot_at m slot) → Way m (lost slot) 1
  disables : (slot : ℕ) → InRecording m → Enabled (slot_at m slot) → Way m (report slot 0) 1
  too_long : (mm : ℕ) (out : List ℕ) → InRecording m → 36000 ≤ m.recording.ticks + 1 → Way m (tick mm out) 1
  -- "Abort goes to ready at the first later report, loss or tick where every enabled client's last report is abort."
  settles_report : (slot number : ℕ) → m.state ≡ 5 → AllAbort (apply m (report slot number)).master → Way m (report slot number) 1
  settles_loss : (slot : ℕ) → m.state ≡ 5 → AllAbort (apply m (lost slot)).master → Way m (lost slot) 1
  settles_tick : (mm : ℕ) (out : List ℕ) → m.state ≡ 5 → AllAbort (apply m (tick mm out)).master → Way m (tick mm out) 1

-- all but the state is as it was
pub record SameRest (m n : Master) : Type 0 where
  pub tan : n.tan ≡ m.tan
  pub slots : n.slots ≡ m.slots
  pub sequence : n.sequence ≡ m.sequence
  pub recording : n.recording ≡ m.recording
  pub playback : n.playback ≡ m.playback

pub record Ways : Type 0 where
  -- the master comes to another state exactly by a call that is done and has this way
  pub exactly :
      (m : Master) → Given m → (m.state ≡ 4 → ⊥) → (e : Event) (s : ℕ)
      → (((apply m e).master.state ≡ s) × (s ≡ m.state → ⊥)) ↔ (Done m e × Way m e s)
  -- ".. and keeps the old sequence": only a stop, an E.4, a load and the setting of an edition can change the sequence
  pub keeps :
      (m : Master) (e : Event) → (e ≡ stop → ⊥) → ((slot : ℕ) (msg out : List ℕ) → e ≡ indication slot msg out → ⊥)
      → ((blocks : List ℕ) → e ≡ load blocks → ⊥) → ((n : ℕ) → e ≡ edition n → ⊥) → (apply m e).master.sequence ≡ m.sequence
  -- on and off: "Neither changes anything else."
  pub switching : (m : Master) → SameRest m (apply m on).master × SameRest m (apply m off).master
  -- 02, request 1: a store changes nothing, and a load nothing but the sequence
  pub storing : (m : Master) (out : List ℕ) → (apply m (store out)).master ≡ m
  pub loading : (m : Master) (blocks : List ℕ) → (apply m (load blocks)).master ≡ with_sequence m (apply m (load blocks)).master.sequence
  -- 02, request 11: setting an edition changes nothing but the sequence's edition
  pub setting :
      (m : Master) (n : ℕ) → (apply m (edition n)).master ≡ with_sequence m (with_edition m.sequence (apply m (edition n)).master.sequence.edition)
