-- What is always so of a sequence, recorded, loaded or none: its cells after the steps are blank, exactly the slots of which there is a step have a record,
-- and its edition is 1 or 2, and 0 where there is none.
use Rattle.std.specs.Prelude.{ℕ, ◌≤◌, ◌<◌, ◌≡◌, Bool, true, false, eqb, length, get_or}
use Rattle.arrays.specs.{Arrays.some, Arrays.pad_to, Every.Every}
use Rattle.client.specs.Clients.{slot_count}
use Rattle.client.specs.Records.{is_used, blank_record}
use Rattle.sequence.specs.{declared.Step.Step, declared.Sequence.Sequence}
use Rattle.sequence.specs.Sequence.{most_steps, blank_step, steps_of}
use Rattle.sequence.specs.Editions.{is_edition}

-- a step of the client in this slot
abbrev pub is_of : ℕ → Step → Bool
is_of slot s = eqb s.slot slot

pub record SoundSequence (q : Sequence) : Type 0 where
  pub few : q.count ≤ most_steps
  pub blank : q.steps ≡ pad_to blank_step most_steps (steps_of q)
  pub within : Every (λ s. s.slot < slot_count) (steps_of q)
  -- the records are there for exactly the slots of which there is a step
  pub slots : length q.records ≡ slot_count
  pub recorded : (slot : ℕ) → slot < slot_count → is_used (get_or q.records slot blank_record) ≡ some (is_of slot) (steps_of q)
  pub unrecorded : (slot : ℕ) → slot < slot_count → some (is_of slot) (steps_of q) ≡ false → get_or q.records slot blank_record ≡ blank_record
  -- 1 or 2, and 0 with no sequence
  pub edition : 1 ≤ q.count → is_edition q.edition ≡ true
  pub no_edition : q.count ≡ 0 → q.edition ≡ 0
