-- The slot and the step that are named with the first check that does not hold are its own. Crate events says so of every master that calls give.
use Rattle.std.specs.Prelude.{ℕ, ◌≤◌, ◌<◌, ◌≡◌, true, false, List, length, get_or}
use Rattle.octets.specs.Numbers.{completed, not_enabled, label_differs, not_in_pool, not_ready}
use Rattle.client.specs.{Clients.slot_count, Clients.blank_slot, Records.blank_record, declared.Client.Client, declared.ClientRecord.ClientRecord}
use Rattle.sequence.specs.Sequence.{most_steps, blank_step, length_of}
use Rattle.sequence.specs.declared.Sequence.{Sequence}
use Rattle.playback.specs.Verification.{Check, first_failing, rule_of, is_in_pool, client_checks, ready_checks, verify_of}
use Rattle.playback.specs.Named.{named_of}

-- as many cells as the types have
pub record Cells (slots : List Client) (q : Sequence) : Type 0 where
  pub in_slots : length slots ≡ slot_count
  pub in_records : length q.records ≡ slot_count
  pub in_steps : length q.steps ≡ most_steps

-- "for each slot of the sequence, lowest first": the checks of this slot give the number, and those of every lower slot hold
pub record LowestFails (checks : Client × ClientRecord → List Check) (slots : List Client) (records : List ClientRecord) (slot number : ℕ) : Type 0 where
  pub one : slot < slot_count
  pub gives : first_failing (checks (get_or slots slot blank_slot, get_or records slot blank_record)) ≡ number
  pub lower : (i : ℕ) → i < slot → first_failing (checks (get_or slots i blank_slot, get_or records i blank_record)) ≡ completed

-- "by step": this step is not in the pool of its slot, and every earlier one is
pub record FirstMissing (slots : List Client) (q : Sequence) (slot step : ℕ) : Type 0 where
  pub one : step < length_of q
  pub missing : is_in_pool slots (get_or q.steps step blank_step) ≡ false
  pub earlier : (i : ℕ) → i < step → is_in_pool slots (get_or q.steps i blank_step) ≡ true
  pub its_slot : slot ≡ (get_or q.steps step blank_step).slot

pub record Places : Type 0 where
  pub number : (slots : List Client) (q : Sequence) → (named_of slots q).number ≡ verify_of slots q
  -- 8, 9 and 10
  pub client :
      (slots : List Client) (q : Sequence) → Cells slots q → not_enabled ≤ (named_of slots q).number → (named_of slots q).number ≤ label_differs
      → LowestFails (client_checks (rule_of q.edition)) slots q.records (named_of slots q).slot (named_of slots q).number
  -- 11
  pub step : (slots : List Client) (q : Sequence) → Cells slots q → (named_of slots q).number ≡ not_in_pool → FirstMissing slots q (named_of slots q).slot (named_of slots q).step
  -- 12
  pub report : (slots : List Client) (q : Sequence) → Cells slots q → (named_of slots q).number ≡ not_ready → LowestFails ready_checks slots q.records (named_of slots q).slot not_ready
  -- any other number than 11 has no step, and 0 and 7 have no slot
  pub without_step : (slots : List Client) (q : Sequence) → ((named_of slots q).number ≡ not_in_pool → ⊥) → (named_of slots q).step ≡ 0
  pub no_slot : (slots : List Client) (q : Sequence) → (named_of slots q).number < not_enabled → (named_of slots q).slot ≡ 0
