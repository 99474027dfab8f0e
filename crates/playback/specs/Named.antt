-- Demand 2: "otherwise the first check that does not hold is named", to the screen: its number, with its slot and its step.
use Rattle.std.specs.Prelude.{ℕ, Bool, not, List, eqb, leb, get_or}
use Rattle.octets.specs.Pick.{pick}
use Rattle.octets.specs.Numbers.{completed, not_enabled, not_in_pool, not_ready}
use Rattle.arrays.specs.Arrays.{first_from}
use Rattle.client.specs.{Clients.slot_count, declared.Client.Client, declared.ClientRecord.ClientRecord}
use Rattle.sequence.specs.Sequence.{most_steps, blank_step, steps_of}
use Rattle.sequence.specs.{declared.Step.Step, declared.Sequence.Sequence}
use Rattle.playback.specs.{declared.named.Named.Named, Pairs.pairs}
use Rattle.playback.specs.Verification.{Check, first_failing, rule_of, is_in_pool, client_checks, ready_checks, verify_of}

-- some check of a client does not hold
abbrev pub fails : (Client × ClientRecord → List Check) → Client × ClientRecord → Bool
fails checks x = not (eqb (first_failing (checks x)) completed)

-- "for each slot of the sequence, lowest first": the lowest slot of which a check does not hold, 8 where there is none
unfoldable pub lowest_slot : (Client × ClientRecord → List Check) → List Client → List ClientRecord → ℕ
lowest_slot checks slots records = first_from slot_count (fails checks) 0 (pairs slots records)

-- "by step": the first step that is not in the loaded pool, 64 where there is none
unfoldable pub first_missing : List Client → List Step → ℕ
first_missing slots steps = first_from most_steps (λ s. not (is_in_pool slots s)) 0 steps

-- the step with 11; the slot with 11 the step's, with 12 and with 8, 9 and 10 the client's; 0 where a number that a start gives has none
unfoldable pub named_by : ℕ → List Client → Sequence → Named
named_by number slots q =
    let step : ℕ = pick (eqb number not_in_pool) (first_missing slots (steps_of q)) 0 in
    record {
      number = number;
      slot =
          pick (eqb number not_in_pool) (get_or q.steps step blank_step).slot
          (pick (eqb number not_ready) (lowest_slot ready_checks slots q.records)
          (pick (leb not_enabled number) (lowest_slot (client_checks (rule_of q.edition)) slots q.records)
          0));
      step = step;
    }

-- of the number that a start gives
unfoldable pub named_of : List Client → Sequence → Named
named_of slots q = named_by (verify_of slots q) slots q
