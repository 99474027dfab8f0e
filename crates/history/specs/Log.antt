-- The indications (E.4) of a recording, in the order in which they came: 01, "An E.4 counts if its client is enabled and last reported record, in
-- record or record complete". The log of a run is that of the recording which is on at its end.
use Rattle.std.specs.Prelude.{ℕ, Bool, ◌&&◌, List, [], ◌∷◌, ◌++◌, eqb, length}
use Rattle.octets.specs.Pick.{pick}
use Rattle.profile.specs.Profile as profile
use Rattle.master.specs.{declared.Master.Master, Messages.execution_in, States.is_recording}
use Rattle.master.specs.States as state
use Rattle.events.specs.Events.{Event, indication, Sort, stops, hears, ticks, answers, loads, other, sort_of, apply, run}
use Rattle.history.specs.Runs.{gather, is_done}
use Rattle.history.specs.Ticks.{ticks_since, sum}
use Rattle.history.specs.Seats.{pool_in, client_in}
use Rattle.history.specs.Steps.{Entry}
use Rattle.history.specs.Answers.{error_from}

abbrev pub is_complete : Master → Bool
is_complete m = eqb m.state state.record_complete

-- what an E.4 that comes after these calls is, by them and by the log so far
abbrev pub entry_of : List Event → List Entry → ℕ → List ℕ → Entry
entry_of before log slot msg = record {
  slot = slot;
  message = execution_in msg;
  error = error_from log (pool_in before slot) (is_complete (run before)) slot (execution_in msg);
  ticks = length (ticks_since before);
  distance = sum (ticks_since before);
  trigger = profile.trigger (pool_in before slot) (execution_in msg).function;
  client = client_in before slot;
}

-- what a call brings: an E.4 that is not refused, in record or record complete, its entry; any other call, none
abbrev pub entries_by : List Event → List Entry → (e : Event) → Sort e → List Entry
entries_by before log e stops = []
entries_by before log e (hears slot msg out) =
    pick (is_recording (run before) && is_done before (indication slot msg out)) (entry_of before log slot msg ∷ []) []
entries_by before log e (ticks mm out) = []
entries_by before log e (answers slot msg out) = []
entries_by before log e (loads blocks) = []
entries_by before log e (other n) = []

-- the log after a call: none where no recording is on
abbrev pub log_after : List Event → Event → List Entry → List Entry
log_after before e log = pick (is_recording (apply (run before) e).master) (log ++ entries_by before log e (sort_of e)) []

abbrev pub log_of : List Event → List Entry
log_of events = gather log_after [] events

-- what a call after these brings, and the log with it, whether or not the call ends the recording
abbrev pub entries_in : List Event → Event → List Entry
entries_in before e = entries_by before (log_of before) e (sort_of e)

abbrev pub log_with : List Event → Event → List Entry
log_with before e = log_of before ++ entries_in before e
