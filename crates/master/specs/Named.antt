-- 01, "Clients and states", the master's states: their numbers.
use Rattle.std.specs.Prelude.{ℕ}
use Rattle.master.specs.declared.State.{State}
use Rattle.master.specs.declared.State.TheVariants.{Inactive, Ready, Record, RecordComplete, Playback, Abort}
use Rattle.master.specs.States.{inactive, ready, recording, record_complete, playback, abort}

abbrev pub state_number : State → ℕ
state_number Inactive = inactive
state_number Ready = ready
state_number Record = recording
state_number RecordComplete = record_complete
state_number Playback = playback
state_number Abort = abort
