-- What a sequence is that blocks may say: each field in its range, the edition too, and exactly the slots of which there is a step have a record.
use Rattle.std.specs.Prelude.{ℕ, ◌≤◌, ◌<◌, ◌^◌, ◌≡◌, true, get_or}
use Rattle.octets.specs.declared.label.Label.{Label}
use Rattle.pool.specs.{Ranges.label_right, StageTwo.label_bytes, StageTwo.character_right}
use Rattle.arrays.specs.{Arrays.some, Arrays.pad_to, Every.Every}
use Rattle.client.specs.{Clients.slot_count, Records.blank_record, declared.ClientRecord.ClientRecord}
use Rattle.sequence.specs.Sequence.{steps_of}
use Rattle.sequence.specs.Sound.{is_of, SoundSequence}
use Rattle.sequence.specs.declared.Step.{Step}
use Rattle.sequence.specs.declared.Sequence.{Sequence}
use Rattle.store.specs.Fields.{step_right}

-- a label of 1 to 63 bytes; the cells after them are 0
pub record RightLabel (l : Label) : Type 0 where
  pub length : label_right l.length ≡ true
  pub cells : l.bytes ≡ pad_to 0 63 (label_bytes l)

pub record RightRecord (r : ClientRecord) : Type 0 where
  pub used : r.used ≡ 1
  pub version : RightLabel r.version
  pub configuration : RightLabel r.configuration
  -- as in a pool that is accepted
  pub characters : Every (λ c. character_right c ≡ true) (label_bytes r.version)

-- a step in its ranges, in words of its own: "Eight slots."; "state ID at most 63"; a mark that a recording can have, in ticks or in millimetres
pub record RightStep (s : Step) : Type 0 where
  pub slot : s.slot ≤ 7
  pub state : s.state ≤ 63
  pub kind : s.distance ≤ 1
  pub ticks : s.distance ≡ 0 → s.mark ≤ 35999
  pub millimetres : s.distance ≡ 1 → s.mark ≤ 2359194465

pub record Legal (q : Sequence) : Type 0 where
  -- "1 to 64 steps", cells after them blank; a record for exactly the slots of which there is a step; edition 1 or 2
  pub some_step : 1 ≤ q.count
  pub sound : SoundSequence q
  pub steps : Every (λ s. step_right s ≡ true) (steps_of q)
  pub records : (slot : ℕ) → slot < slot_count → some (is_of slot) (steps_of q) ≡ true → RightRecord (get_or q.records slot blank_record)

-- each number fits its field, as in every sequence that is held in memory
pub record FitsStep (s : Step) : Type 0 where
  pub function : s.function < 256
  pub value : s.value < 2 ^ 32

abbrev pub IsByte : ℕ → Type 0
IsByte b = b < 256

pub record FitsRecord (r : ClientRecord) : Type 0 where
  pub name : r.name < 2 ^ 64
  pub master : r.master < 2 ^ 64
  pub version : Every IsByte r.version.bytes
  pub configuration : Every IsByte r.configuration.bytes

pub record Fits (q : Sequence) : Type 0 where
  pub steps : Every FitsStep (steps_of q)
  pub records : Every FitsRecord q.records
