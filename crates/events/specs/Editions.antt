-- 02, request 11, "Two rules for who may replay": "Prove once, over both editions, .. that a sequence passing under 2 would pass under 1", and whom edition 2
-- refuses.
use Rattle.std.specs.Prelude.{ℕ, ◌%◌, ◌^◌, ◌<◌, ◌≡◌, true}
use Rattle.octets.specs.Numbers.{completed, name_differs}
use Rattle.client.specs.{Clients.slot_count, Records.is_used}
use Rattle.playback.specs.Verification.{verify_by}
use Rattle.master.specs.{declared.Master.Master, Call.slot_at}
use Rattle.master.specs.States as state
use Rattle.events.specs.Events.{start, edition, apply, Given, record_at}

-- what a start from ready gives in this edition
abbrev pub number_in : ℕ → Master → ℕ
number_in n m = verify_by n m.slots m.sequence

-- "the lowest 21 bits of the client's NAME, its identity number in ISO 11783-5", attached and stored
abbrev pub SameIdentity : Master → ℕ → Type 0
SameIdentity m slot = (slot_at m slot).name % 2 ^ 21 ≡ (record_at m slot).name % 2 ^ 21

-- one of the sequence's clients, whose slot this is, has another identity number
pub record Another (m : Master) : Type 0 where
  pub slot : ℕ
  pub one_of_eight : slot < slot_count
  pub of_sequence : is_used (record_at m slot) ≡ true
  pub differs : SameIdentity m slot → ⊥

pub record TwoRules : Type 0 where
  -- a start goes by the sequence's edition
  pub by_edition : (m : Master) → m.state ≡ state.ready → (apply m start).number ≡ number_in m.sequence.edition m
  -- which is the one that was set
  pub set : (m : Master) (n : ℕ) → (apply m (edition n)).number ≡ completed → (apply (apply m (edition n)).master start).number ≡ number_in n m
  -- "a sequence passing under 2 would pass under 1"
  pub passes : (m : Master) → number_in 2 m ≡ completed → number_in 1 m ≡ completed
  -- whoever gets another number under 2 gets 9, and has a client whose identity number differs
  pub who_loses : (m : Master) → Given m → (number_in 2 m ≡ number_in 1 m → ⊥) → (number_in 2 m ≡ name_differs) × Another m
  -- "an identity number that differs gives 9": under 2 nobody passes with one, and whoever passes under 1 with one gets 9
  pub same_drill :
      (m : Master) → Given m → number_in 2 m ≡ completed → (slot : ℕ) → slot < slot_count → is_used (record_at m slot) ≡ true → SameIdentity m slot
  pub other_drill : (m : Master) → Given m → number_in 1 m ≡ completed → Another m → number_in 2 m ≡ name_differs
