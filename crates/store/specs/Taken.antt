-- What the loops of loading ask of each client record and of each step, as they come.
use Rattle.std.specs.Prelude.{ℕ, Bool, not, ◌&&◌, List, get_or, Option}
use Rattle.std.specs.Bool.{then_some}
use Rattle.arrays.specs.Arrays.{pad_to}
use Rattle.client.specs.Records.{is_used, blank_record}
use Rattle.client.specs.declared.ClientRecord.{ClientRecord}
use Rattle.sequence.specs.{declared.Step.Step, Sequence.most_steps, Sequence.blank_step}
use Rattle.store.specs.Below.{every_below}
use Rattle.store.specs.Blocks.{client_place, step_place}
use Rattle.store.specs.Fields.{step_right}
use Rattle.store.specs.Loaded.{byte_at, client_right, client_blank, step_at, step_blank, client_slot, records_to, steps_to}

-- its fields, its fill, and that none of the client records before it has its slot
abbrev pub client_taken : List ℕ → ℕ → Bool
client_taken s k =
    (client_right s (client_place k) && client_blank s (client_place k)) && not (is_used (get_or (records_to s k) (client_slot s k) blank_record))

-- the client records, each in its slot, where every one of them is taken
abbrev pub records_read : List ℕ → ℕ → Option (List ClientRecord)
records_read s c = then_some (every_below c (client_taken s)) (records_to s c)

-- its fields, its fill, and that there is a record of its client
abbrev pub step_taken : List ℕ → List ClientRecord → ℕ → Bool
step_taken s records p = (step_right (step_at s p) && step_blank s p) && is_used (get_or records (byte_at s p) blank_record)

-- the steps, where every one of them is taken; the cells after them are blank
abbrev pub steps_read : List ℕ → ℕ → ℕ → List ClientRecord → Option (List Step)
steps_read s c n records = then_some (every_below n (λ k. step_taken s records (step_place c k))) (pad_to blank_step most_steps (steps_to s c n))
