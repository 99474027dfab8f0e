-- 01, "Recording": "At most 64 steps, in order of start"; "NAME, master NAME and both labels are kept with each client".
use Rattle.std.specs.Prelude.{ℕ, min, Bool, not, List, eqb, take, replicate}
use Rattle.client.specs.{Clients.slot_count, Records.blank_record}
use Rattle.sequence.specs.{declared.Step.Step, declared.Sequence.Sequence}

-- "At most 64 steps"
abbrev pub most_steps : ℕ
most_steps = 64

-- the last tick of a recording and of a playback: "tick 36,000 goes to ready", "at tick 36,000 abort"
abbrev pub last_tick : ℕ
last_tick = 36000

abbrev pub blank_step : Step
blank_step = record { slot = 0; function = 0; state = 0; distance = 0; value = 0; mark = 0 }

-- the mark is in millimetres, not in ticks
abbrev pub by_distance : Step → Bool
by_distance s = not (eqb s.distance 0)

-- no sequence yet, and no edition
unfoldable pub blank_sequence : Sequence
blank_sequence = record { count = 0; edition = 0; steps = replicate most_steps blank_step; records = replicate slot_count blank_record }

abbrev pub length_of : Sequence → ℕ
length_of q = min q.count most_steps

-- the steps, in order of start, or of their blocks
unfoldable pub steps_of : Sequence → List Step
steps_of q = take q.count q.steps
