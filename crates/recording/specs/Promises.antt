-- What holds of the definitions that the contracts cite: what is always so of a recording, what a message does to each step, what is kept at the end.
use Rattle.std.specs.Prelude.{ℕ, ◌≤◌, ◌<◌, ◌≡◌, Bool, true, false, List, [], ◌∷◌, ◌++◌, eqb, length, get_or, set}
use Rattle.octets.specs.Pick.{pick}
use Rattle.profile.specs.Profile.{trigger}
use Rattle.message.specs.declared.Execution.{Execution}
use Rattle.message.specs.declared.Status.TheVariants.{AtOnce, Started, Done}
use Rattle.arrays.specs.{Arrays.some, Arrays.pad_to, Every.Every, Every.EveryTwo}
use Rattle.client.specs.{Clients.slot_count, declared.Client.Client, declared.ClientRecord.ClientRecord}
use Rattle.client.specs.Records.{is_used, blank_record, record_of}
use Rattle.sequence.specs.Sequence.{most_steps, by_distance, blank_sequence, steps_of}
use Rattle.sequence.specs.Sound.{is_of, SoundSequence}
use Rattle.sequence.specs.{declared.Step.Step, declared.Sequence.Sequence}
use Rattle.recording.specs.{State.blank_taken, State.blank_recording, declared.Taken.Taken, declared.Recording.Recording}
use Rattle.recording.specs.Indication.{one_shot, opened, is_open, counted_recording, held_of, step_at, is_step_of, is_same, done_with, records_after, Heard, heard_of}
use Rattle.recording.specs.Kept.{stays, stayed, kept_sequence}

-- ---- what is always so

-- what 32 bits have room for
abbrev pub most : ℕ
most = 4294967295

-- what is counted so far: millimetres or ticks
abbrev pub count_of : Recording → Bool → ℕ
count_of r distance = pick distance r.distance r.ticks

-- of two steps that count alike, in ticks or in millimetres, the later has no smaller mark
abbrev pub InOrder : Step → Step → Type 0
InOrder a b = by_distance a ≡ by_distance b → a.mark ≤ b.mark

abbrev pub is_taken_of : ℕ → Taken → Bool
is_taken_of slot t = is_of slot t.step

pub record Sound (r : Recording) : Type 0 where
  -- "At most 64 steps"; the cells after them are blank
  pub few : r.count ≤ most_steps
  pub blank : r.steps ≡ pad_to blank_taken most_steps (held_of r)
  -- "in order of start": no mark is ahead of what is counted, and no later step has a smaller mark
  pub ticks : r.ticks ≤ most
  pub distance : r.distance ≤ most
  pub passed : Every (λ t. t.step.mark ≤ count_of r (by_distance t.step)) (held_of r)
  pub ordered : EveryTwo (λ a b. InOrder a.step b.step) (held_of r)
  -- a client's TAN names one step
  pub single : EveryTwo (λ a b. is_step_of b.step.slot b.tan a ≡ false) (held_of r)
  -- each is a step of one of the eight slots
  pub within : Every (λ t. t.step.slot < slot_count) (held_of r)
  -- a client has its record from its first step on, and none before
  pub slots : length r.records ≡ slot_count
  pub recorded : (slot : ℕ) → slot < slot_count → is_used (get_or r.records slot blank_record) ≡ some (is_taken_of slot) (held_of r)
  pub unrecorded : (slot : ℕ) → slot < slot_count → some (is_taken_of slot) (held_of r) ≡ false → get_or r.records slot blank_record ≡ blank_record

pub record Always : Type 0 where
  pub blank : Sound blank_recording
  pub none : SoundSequence blank_sequence
  pub counted : (r : Recording) (mm : ℕ) → Sound r → Sound (counted_recording r mm)
  pub heard :
      (r : Recording) (slot : ℕ) (client : Client) (complete : Bool) (e : Execution) → Sound r → slot < slot_count
      → Sound (heard_of r slot client complete e).recording
  pub kept : (r : Recording) (old : Sequence) → Sound r → SoundSequence old → SoundSequence (kept_sequence r old)
  -- the steps that a recording keeps are in order of start
  pub kept_ordered : (r : Recording) (old : Sequence) → Sound r → some stays (held_of r) ≡ true → EveryTwo InOrder (steps_of (kept_sequence r old))
  -- the bound that a step's slot is held against, which 01 does not have, never decides
  pub bound :
      (records : List ClientRecord) (slot : ℕ) (client : Client) → slot < slot_count
      → records_after records slot client ≡ pick (is_used (get_or records slot blank_record)) records (set records slot (record_of client))

-- ---- what a message does to each step

-- a step but for its value and its status: what its start settles
abbrev pub start_of : Taken → Taken
start_of t =
    record {
      step = record {
        slot = t.step.slot;
        function = t.step.function;
        state = t.step.state;
        distance = t.step.distance;
        value = 0;
        mark = t.step.mark;
      };
      tan = t.tan;
      status = 0;
    }

-- the step that a message begins
pub record Begun (r : Recording) (slot : ℕ) (client : Client) (e : Execution) (t : Taken) : Type 0 where
  pub sender : t.step.slot ≡ slot
  pub function : t.step.function ≡ e.function
  pub state : t.step.state ≡ e.state
  pub tan : t.tan ≡ e.tan
  pub at_once : e.status ≡ AtOnce → (t.status ≡ one_shot) × (t.step.value ≡ e.value)
  pub started : e.status ≡ Started → (t.status ≡ opened) × (t.step.value ≡ 0)
  pub in_ticks : eqb (trigger client.profile e.function) 2 ≡ false → (by_distance t.step ≡ false) × (t.step.mark ≡ r.ticks)
  pub in_millimetres : eqb (trigger client.profile e.function) 2 ≡ true → (by_distance t.step ≡ true) × (t.step.mark ≡ r.distance)

pub record Hears (r : Recording) (slot : ℕ) (client : Client) (complete : Bool) (e : Execution) (h : Heard) : Type 0 where
  -- a message of a step that is not held, answered 00: the step stands after the others, which stay as they are
  pub begins :
      some (is_step_of slot e.tan) (held_of r) ≡ false → h.error ≡ 0
      → (t : Taken) × Begun r slot client e t × (held_of h.recording ≡ held_of r ++ t ∷ [])
  -- "10 (done, this message's value kept)": and all else is the same
  pub finishes :
      (i : ℕ) → i < r.count → is_step_of slot e.tan (step_at r i) ≡ true → is_same (step_at r i) e ≡ true → is_open (step_at r i) ≡ true → e.status ≡ Done
      → (h.error ≡ 0) × (step_at h.recording i ≡ done_with (step_at r i) e.value)
  -- no message changes a step of another client or TAN
  pub others : (i : ℕ) → i < r.count → is_step_of slot e.tan (step_at r i) ≡ false → step_at h.recording i ≡ step_at r i
  -- no message changes a one-shot or done step
  pub final : (i : ℕ) → i < r.count → stays (step_at r i) ≡ true → step_at h.recording i ≡ step_at r i
  -- no message changes the slot, function, state, mark, kind of mark or TAN of a step
  pub lasting : (i : ℕ) → i < r.count → start_of (step_at h.recording i) ≡ start_of (step_at r i)
  -- "kept with each client as its first step is stored": and not changed after
  pub records : (s : ℕ) → s < slot_count → some (is_taken_of s) (held_of r) ≡ true → get_or h.recording.records s blank_record ≡ get_or r.records s blank_record
  pub record_first :
      slot < slot_count → some (is_taken_of slot) (held_of r) ≡ false → some (is_taken_of slot) (held_of h.recording) ≡ true
      → get_or h.recording.records slot blank_record ≡ record_of client
  -- "only the changes named here are made": an answer other than 00 and FF changes nothing
  pub refuses : eqb h.error 0x00 ≡ false → eqb h.error 0xFF ≡ false → h.recording ≡ r
  -- the same message again changes nothing and gets the same answer: a repeated start is no second step
  pub again : heard_of h.recording slot client complete e ≡ h

-- ---- what is kept at the end

pub record Keeps (r : Recording) (old : Sequence) : Type 0 where
  -- exactly the one-shot and done steps, each with its value, in order
  pub steps : some stays (held_of r) ≡ true → steps_of (kept_sequence r old) ≡ stayed (held_of r)
  pub none : some stays (held_of r) ≡ false → kept_sequence r old ≡ old
  -- "dropped if none of its steps stays", and kept as it was else
  pub records :
      (slot : ℕ) → slot < slot_count → some stays (held_of r) ≡ true
      → get_or (kept_sequence r old).records slot blank_record ≡ pick (some (is_of slot) (stayed (held_of r))) (get_or r.records slot blank_record) blank_record

pub record Promises : Type 0 where
  pub always : Always
  pub hears :
      (r : Recording) (slot : ℕ) (client : Client) (complete : Bool) (e : Execution) → Sound r
      → Hears r slot client complete e (heard_of r slot client complete e)
  pub keeps : (r : Recording) (old : Sequence) → Sound r → Keeps r old
