-- Everything that can happen to a master: each call with its inputs, what it gives back, the bytes lent to it, and the master after any calls.
use Rattle.std.specs.Prelude.{ℕ, ◌+◌, ◌≡◌, List, [], ◌∷◌, get_or}
use Rattle.client.specs.{Records.blank_record, declared.ClientRecord.ClientRecord}
use Rattle.master.specs.{declared.Master.Master, declared.Outcome.Outcome, States.new_master, Tick.tick_call}
use Rattle.master.specs.Call.{Call, outcome_of, leaves_of}
use Rattle.master.specs.Clients.{on_call, off_call, attach_call, want_call, report_call, lost_call}
use Rattle.master.specs.Recording.{record_call, stop_call, cancel_call, indication_call}
use Rattle.master.specs.Playback.{start_call, abort_call, client_abort_call, answer_call}
use Rattle.master.specs.{Storing.store_call, Storing.load_call, Editions.edition_call}

-- a call and its inputs. attach: slot, NAME, pool; enable, disable: slot, lent bytes; report: slot, number; lost: slot; indication (E.4) and answer
-- (E.7): slot, message, lent bytes; client_abort (E.3): slot, message; tick: millimetres, lent bytes; store: lent bytes; load: blocks; edition: its
-- number
pub data Event : Type 0 where
  on off «record» stop cancel start abort : Event
  attach : ℕ → ℕ → List ℕ → Event
  enable disable : ℕ → List ℕ → Event
  report : ℕ → ℕ → Event
  lost : ℕ → Event
  indication : ℕ → List ℕ → List ℕ → Event
  client_abort : ℕ → List ℕ → Event
  tick : ℕ → List ℕ → Event
  answer : ℕ → List ℕ → List ℕ → Event
  store load : List ℕ → Event
  edition : ℕ → Event

-- the call, as its contract has it
abbrev pub call_of : Master → Event → Call
call_of m on = on_call m
call_of m off = off_call m
call_of m «record» = record_call m
call_of m stop = stop_call m
call_of m cancel = cancel_call m
call_of m start = start_call m
call_of m abort = abort_call m
call_of m (attach slot name pool) = attach_call m slot name pool
call_of m (enable slot out) = want_call 1 m slot out
call_of m (disable slot out) = want_call 0 m slot out
call_of m (report slot number) = report_call m slot number
call_of m (lost slot) = lost_call m slot
call_of m (indication slot msg out) = indication_call m slot msg out
call_of m (client_abort slot msg) = client_abort_call m slot msg
call_of m (tick mm out) = tick_call m mm out
call_of m (answer slot msg out) = answer_call m slot msg out
call_of m (store out) = store_call m out
call_of m (load blocks) = load_call m blocks
call_of m (edition n) = edition_call m n

-- which call it is: one that a recording or a playback takes something from, a load, or any other, with a number of its own
pub data Sort : Event → Type 0 where
  stops : Sort stop
  hears : (slot : ℕ) (msg out : List ℕ) → Sort (indication slot msg out)
  ticks : (mm : ℕ) (out : List ℕ) → Sort (tick mm out)
  answers : (slot : ℕ) (msg out : List ℕ) → Sort (answer slot msg out)
  loads : (blocks : List ℕ) → Sort (load blocks)
  other : {e : Event} → ℕ → Sort e

abbrev pub sort_of : (e : Event) → Sort e
sort_of on = other 0
sort_of off = other 1
sort_of «record» = other 2
sort_of stop = stops
sort_of cancel = other 3
sort_of start = other 4
sort_of abort = other 5
sort_of (attach slot name pool) = other 6
sort_of (enable slot out) = other 7
sort_of (disable slot out) = other 8
sort_of (report slot number) = other 9
sort_of (lost slot) = other 10
sort_of (indication slot msg out) = hears slot msg out
sort_of (client_abort slot msg) = other 11
sort_of (tick mm out) = ticks mm out
sort_of (answer slot msg out) = answers slot msg out
sort_of (store out) = other 12
sort_of (load blocks) = loads blocks
sort_of (edition n) = other 13

-- the call's number, whatever its inputs
abbrev pub number_by : {e : Event} → Sort e → ℕ
number_by stops = 0
number_by (hears slot msg out) = 1
number_by (ticks mm out) = 2
number_by (answers slot msg out) = 3
number_by (loads blocks) = 4
number_by (other n) = 5 + n

abbrev pub which_call : Event → ℕ
which_call e = number_by (sort_of e)

-- what it gives back
abbrev pub apply : Master → Event → Outcome
apply m e = outcome_of m (call_of m e)

-- the bytes lent to it to write in; most calls are lent none
abbrev pub lent : Master → Event → List ℕ
lent m e = (call_of m e).lent

-- the same bytes after it
abbrev pub lent_after : Master → Event → List ℕ
lent_after m e = leaves_of (call_of m e)

-- the master after these calls, one after the other
abbrev pub run_from : Master → List Event → Master
run_from m [] = m
run_from m (e ∷ events) = run_from (apply m e).master events

-- the same, from the master as it is made
abbrev pub run : List Event → Master
run events = run_from new_master events

-- a master that calls give
abbrev pub Given : Master → Type 0
Given m = (events : List Event) × (run events ≡ m)

-- the record that its sequence has of the client in this slot
abbrev pub record_at : Master → ℕ → ClientRecord
record_at m slot = get_or m.sequence.records slot blank_record
