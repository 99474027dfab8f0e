-- Recording, loading and editions over every run of calls, from the master as it is made: calls in, numbers, bytes, states and the sequence out.
use Rattle.std.specs.Prelude.{ℕ, ◌<◌, ◌≡◌, Bool, true, false, not, ◌&&◌, ◌⊎◌, List, [], ◌∷◌, ◌++◌, eqb, length, get_or}
use Rattle.octets.specs.Pick.{pick}
use Rattle.pool.specs.Pool.{verdict_of}
use Rattle.arrays.specs.Every.{Every}
use Rattle.client.specs.Clients.{is_taken, is_wanted}
use Rattle.message.specs.declared.Status.TheVariants.{AtOnce, Started, Done}
use Rattle.sequence.specs.{Sequence.steps_of, Editions.with_edition, declared.Step.Step}
use Rattle.recording.specs.Indication.{has_open}
use Rattle.sequence.specs.Sound.{SoundSequence}
use Rattle.store.specs.Blocks.{step_place}
use Rattle.store.specs.Loaded.{client_count, step_count, step_at, loaded_of}
use Rattle.recording.specs.Promises.{Sound}
use Rattle.playback.specs.Promises.{Tidy}
use Rattle.master.specs.{declared.Master.Master, Call.slot_at, Messages.execution_in, States.is_recording}
use Rattle.master.specs.States as state
use Rattle.events.specs.Events.{Event, stop, indication, tick, load, edition, Sort, stops, hears, ticks, answers, loads, other, sort_of, lent_after, run, Given}
use Rattle.history.specs.Runs.{Succeeds}
use Rattle.history.specs.Ticks.{ticks_since, sum}
use Rattle.history.specs.Seats.{seat_of, pool_in}
use Rattle.history.specs.Steps.{Entry, is_accepted, is_finish, FirstOf, Begins, is_any_open, kept_from}
use Rattle.history.specs.Answers.{error_from}
use Rattle.history.specs.Stored.{Stored}
use Rattle.history.specs.Log.{is_complete, entry_of, log_of, entries_in, log_with}

-- ---- ticks

pub record Counting : Type 0 where
  -- what is counted is the ticks since `record`, and their millimetres
  pub ticks : (events : List Event) → is_recording (run events) ≡ true → (run events).recording.ticks ≡ length (ticks_since events)
  pub distance : (events : List Event) → is_recording (run events) ≡ true → (run events).recording.distance ≡ sum (ticks_since events)
  -- "in both, .. tick 36,000 goes to ready and keeps the old sequence"
  pub below : (events : List Event) → is_recording (run events) ≡ true → length (ticks_since events) < 36000
  pub last :
      (before : List Event) (mm : ℕ) (out : List ℕ) → is_recording (run before) ≡ true → Succeeds before (tick mm out)
      → length (ticks_since (before ++ tick mm out ∷ [])) ≡ 36000
      → ((run (before ++ tick mm out ∷ [])).state ≡ state.ready) × ((run (before ++ tick mm out ∷ [])).sequence ≡ (run before).sequence)
  -- and no earlier one does
  pub earlier :
      (before : List Event) (mm : ℕ) (out : List ℕ) → is_recording (run before) ≡ true → Succeeds before (tick mm out)
      → (length (ticks_since (before ++ tick mm out ∷ [])) ≡ 36000 → ⊥)
      → (run (before ++ tick mm out ∷ [])).state ≡ (run before).state

-- ---- what a slot holds

pub record Attaching : Type 0 where
  -- whether it is taken, whether its client is wanted, and what it reported last
  pub taken : (events : List Event) (slot : ℕ) → is_taken (slot_at (run events) slot) ≡ (seat_of events slot).taken
  pub wanted : (events : List Event) (slot : ℕ) → is_wanted (slot_at (run events) slot) ≡ (seat_of events slot).wanted
  pub report : (events : List Event) (slot : ℕ) → (slot_at (run events) slot).report ≡ (seat_of events slot).report
  -- where it is taken, the NAME of the last attach, and what is kept of its pool
  pub name : (events : List Event) (slot : ℕ) → is_taken (slot_at (run events) slot) ≡ true → (slot_at (run events) slot).name ≡ (seat_of events slot).name
  pub pool : (events : List Event) (slot : ℕ) → is_taken (slot_at (run events) slot) ≡ true → (slot_at (run events) slot).profile ≡ pool_in events slot
  -- a pool without a fault
  pub accepted : (events : List Event) (slot : ℕ) → is_taken (slot_at (run events) slot) ≡ true → (verdict_of (seat_of events slot).pool).code ≡ 0

-- ---- the answer to an E.4

-- E.5: byte 4 is the error
abbrev pub Answering : Type 0
Answering =
    (before : List Event) (slot : ℕ) (msg out : List ℕ) → is_recording (run before) ≡ true → Succeeds before (indication slot msg out)
    → get_or (lent_after (run before) (indication slot msg out)) 3 0
    ≡ error_from (log_of before) (pool_in before slot) (is_complete (run before)) slot (execution_in msg)

-- ---- open steps

pub record Opening : Type 0 where
  -- a step is open where the log says so
  pub has_an_open : (events : List Event) → is_recording (run events) ≡ true → has_open (run events).recording ≡ is_any_open (log_of events)
  -- "Record: stop goes to record complete if a step is open, else ready"
  pub at_stop :
      (before : List Event) → (run before).state ≡ state.recording
      → (run (before ++ stop ∷ [])).state ≡ pick (is_any_open (log_of before)) state.record_complete state.ready
  -- "record complete goes to ready when none is open": an E.4 changes the state by that alone
  pub at_indication :
      (before : List Event) (slot : ℕ) (msg out : List ℕ) → is_recording (run before) ≡ true → Succeeds before (indication slot msg out)
      → (run (before ++ indication slot msg out ∷ [])).state
      ≡ pick (is_complete (run before) && not (is_any_open (log_with before (indication slot msg out)))) state.ready (run before).state
  -- so a step is open all the while
  pub waits : (events : List Event) → (run events).state ≡ state.record_complete → is_any_open (log_of events) ≡ true

-- ---- where the steps come from: "every step of a kept sequence has slot, function, state, trigger kind and mark of the indication that began it and the
-- 32-bit value of the indication that finished it"

-- an entry is of a call of the run: an E.4 that was not refused, in record or record complete
pub record Happened (events : List Event) (x : Entry) : Type 0 where
  pub before : List Event
  pub slot : ℕ
  pub msg : List ℕ
  pub out : List ℕ
  pub after : List Event
  pub all : events ≡ before ++ indication slot msg out ∷ after
  pub recording : is_recording (run before) ≡ true
  pub accepted : Succeeds before (indication slot msg out)
  pub entry : x ≡ entry_of before (log_of before) slot msg

pub record Recorded (events : List Event) (s : Step) : Type 0 where
  -- "the indication that began it", answered 00
  pub began : Entry
  pub began_in : Happened events began
  pub answered : began.error ≡ 0x00
  pub start : Begins began s
  -- "the indication that finished it": of the same step
  pub finished : Entry
  pub finished_in : Happened events finished
  pub slot : finished.slot ≡ began.slot
  pub tan : finished.message.tan ≡ began.message.tan
  pub function : finished.message.function ≡ began.message.function
  pub state : finished.message.state ≡ began.message.state
  pub status :
      ((began.message.status ≡ AtOnce) × (finished ≡ began)) ⊎ ((began.message.status ≡ Started) × (finished.message.status ≡ Done))
  -- "the 32-bit value", untouched
  pub value : s.value ≡ finished.message.value

-- 02, request 1: "A loaded sequence passes verification before it plays; demands 2 and 3 then read for it as for a recorded one.": the step is of a load of
-- the run that was not refused, as its blocks say it
pub record LoadedStep (events : List Event) (s : Step) : Type 0 where
  pub before : List Event
  pub blocks : List ℕ
  pub after : List Event
  pub all : events ≡ before ++ load blocks ∷ after
  pub accepted : Succeeds before (load blocks)
  -- which of its steps it is, counted from 0
  pub number : ℕ
  pub counted : number < step_count blocks
  pub step : s ≡ step_at blocks (step_place (client_count blocks) number)

-- from a recording of the run, or from a load of the run
abbrev pub HasOrigin : List Event → Step → Type 0
HasOrigin events s = Recorded events s ⊎ LoadedStep events s

-- ---- from the log

pub record Traced (log : List Entry) (s : Step) : Type 0 where
  -- the indication that began it is the first of its client and TAN that was answered 00: a repeated start is no second step
  pub began : Entry
  pub first : FirstOf (is_accepted began.slot began.message.tan) log began
  pub start : Begins began s
  -- the indication that finished it is the same, of status 00, or, after a start, the first of the step that says done
  pub finished : Entry
  pub finish :
      ((began.message.status ≡ AtOnce) × (finished ≡ began))
      ⊎ ((began.message.status ≡ Started) × FirstOf (is_finish began) log finished)
  -- its value, untouched
  pub value : s.value ≡ finished.message.value

-- "Record: stop goes to record complete if a step is open, else ready; record complete goes to ready when none is open": the calls by which a recording
-- ends and is kept; "cancel, the loss or disabling of an enabled client, or tick 36,000 goes to ready and keeps the old sequence"
abbrev pub does_keep_by : (e : Event) → Sort e → Bool
does_keep_by e stops = true
does_keep_by e (hears slot msg out) = true
does_keep_by e (ticks mm out) = false
does_keep_by e (answers slot msg out) = false
does_keep_by e (loads blocks) = false
does_keep_by e (other n) = false

abbrev pub does_keep : Event → Bool
does_keep e = does_keep_by e (sort_of e)

-- the run up to the call that ended the recording, that call, which may be its last indication, and the calls after it: at their end the sequence is
-- the one that it kept, in the edition that it has then
pub record KeptBy (events : List Event) : Type 0 where
  pub before : List Event
  pub last : Event
  pub after : List Event
  pub all : events ≡ before ++ last ∷ after
  pub recording : is_recording (run before) ≡ true
  pub keeps : does_keep last ≡ true
  pub ended : (run (before ++ last ∷ [])).state ≡ state.ready
  pub sequence : (run events).sequence ≡ with_edition (run (before ++ last ∷ [])).sequence (run events).sequence.edition
  pub steps : Every (Traced (log_with before last)) (steps_of (run events).sequence)

-- the run up to a load that was not refused, its blocks, and the calls after it: at their end the sequence is this one, in the edition that it has then
pub record LoadedBy (events : List Event) : Type 0 where
  pub before : List Event
  pub blocks : List ℕ
  pub after : List Event
  pub all : events ≡ before ++ load blocks ∷ after
  pub accepted : Succeeds before (load blocks)
  pub sequence : (run events).sequence ≡ with_edition (loaded_of blocks).sequence (run events).sequence.edition

-- a sequence has no step, or one recording kept it, or one load brought it
abbrev pub Origin : List Event → Type 0
Origin events = (steps_of (run events).sequence ≡ []) ⊎ (KeptBy events ⊎ LoadedBy events)

-- ---- all of it

pub record Promises : Type 0 where
  pub counted : Counting
  pub attached : Attaching
  pub answered : Answering
  pub opened : Opening
  -- each step of the sequence is from a recording of the run, or from a load of the run
  pub recorded : (events : List Event) → Every (HasOrigin events) (steps_of (run events).sequence)
  -- the same in the words of the log, which say which of the indications those two are: each step is traced to one recording, or all are those of one load
  pub kept : (events : List Event) → Origin events
  -- where a recording ends and is kept, the sequence is what its log gives: each step once and in their order, the clients that have one, and no other
  pub exact :
      (before : List Event) (last : Event) → is_recording (run before) ≡ true → does_keep last ≡ true → (run (before ++ last ∷ [])).state ≡ state.ready
      → (run (before ++ last ∷ [])).sequence ≡ kept_from (log_with before last) (run before).sequence
  -- where a load is not refused, the sequence is what its blocks say
  pub loaded : (before : List Event) (blocks : List ℕ) → Succeeds before (load blocks) → (run (before ++ load blocks ∷ [])).sequence ≡ (loaded_of blocks).sequence
  -- where an edition is set, the sequence is the same in this edition
  pub set : (before : List Event) (n : ℕ) → Succeeds before (edition n) → (run (before ++ edition n ∷ [])).sequence ≡ with_edition (run before).sequence n
  -- and no other call changes the sequence
  pub others :
      (before : List Event) (last : Event)
      → (is_recording (run before) && does_keep last && eqb (run (before ++ last ∷ [])).state state.ready) ≡ false
      → ((blocks : List ℕ) → last ≡ load blocks → Succeeds before last → ⊥) → ((n : ℕ) → last ≡ edition n → Succeeds before last → ⊥)
      → (run (before ++ last ∷ [])).sequence ≡ (run before).sequence
  -- 02, request 1: what is stored is loaded again, and a change inside one word is found
  pub stored : Stored
  -- the log is of the run
  pub happened : (events : List Event) → Every (Happened events) (log_of events)
  pub happened_last : (before : List Event) (e : Event) → Every (Happened (before ++ e ∷ [])) (entries_in before e)
  -- what crates recording and playback say of a sound recording, a sound sequence and a tidy playback holds of every master that calls give
  pub sound : (m : Master) → Given m → Sound m.recording
  pub sound_sequence : (m : Master) → Given m → SoundSequence m.sequence
  pub tidy : (m : Master) → Given m → Tidy m.playback
