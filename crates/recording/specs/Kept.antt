-- 01, "Recording": "When it ends, only one-shot and done steps stay. NAME, master NAME and both labels are kept with each client as its first step is
-- stored, and dropped if none of its steps stays." "Clients and states": "A recording that keeps no step also keeps the old one."
use Rattle.std.specs.Prelude.{ℕ, suc, Bool, ◌||◌, List, [], ◌∷◌, map, eqb, length}
use Rattle.octets.specs.Pick.{pick}
use Rattle.arrays.specs.Arrays.{some, those, pad_to}
use Rattle.client.specs.{Records.blank_record, declared.ClientRecord.ClientRecord}
use Rattle.sequence.specs.{Sequence.most_steps, Sequence.blank_step, declared.Step.Step, declared.Sequence.Sequence}
use Rattle.sequence.specs.{Editions.first_edition, Sound.is_of}
use Rattle.recording.specs.Indication.{one_shot, done, held_of}
use Rattle.recording.specs.{declared.Taken.Taken, declared.Recording.Recording}

-- "only one-shot and done steps stay"
abbrev pub stays : Taken → Bool
stays t = eqb t.status one_shot || eqb t.status done

abbrev pub step_in : Taken → Step
step_in t = t.step

-- in their order
abbrev pub stayed : List Taken → List Step
stayed l = map step_in (those stays l)

-- "dropped if none of its steps stays"
unfoldable pub record_kept : List Step → ℕ → ClientRecord → ClientRecord
record_kept l slot client = pick (some (is_of slot) l) client blank_record

-- of the clients from this slot on
abbrev pub records_from : List Step → ℕ → List ClientRecord → List ClientRecord
records_from l slot [] = []
records_from l slot (client ∷ records) = record_kept l slot client ∷ records_from l (suc slot) records

-- a recording gives edition 1
abbrev pub sequence_of : List Step → List ClientRecord → Sequence
sequence_of l records = record { count = length l; edition = first_edition; steps = pad_to blank_step most_steps l; records = records_from l 0 records }

-- "A recording that keeps no step also keeps the old one."
unfoldable pub kept_sequence : Recording → Sequence → Sequence
kept_sequence r old =
    let l = stayed (held_of r) in
    pick (eqb (length l) 0) old (sequence_of l r.records)
