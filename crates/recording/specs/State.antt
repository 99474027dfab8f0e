-- A recording, before anything is recorded.
use Rattle.std.specs.Prelude.{replicate}
use Rattle.client.specs.{Clients.slot_count, Records.blank_record}
use Rattle.sequence.specs.Sequence.{most_steps, blank_step}
use Rattle.recording.specs.{declared.Taken.Taken, declared.Recording.Recording}

abbrev pub blank_taken : Taken
blank_taken = record { step = blank_step; tan = 0; status = 0 }

unfoldable pub blank_recording : Recording
blank_recording = record { ticks = 0; distance = 0; count = 0; steps = replicate most_steps blank_taken; records = replicate slot_count blank_record }
