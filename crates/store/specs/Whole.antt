-- What loading accepts is, byte for byte, the blocks of the sequence that it gives: each count, the edition, each fill byte, each check and how many blocks
-- there are. Only the order of the client records is free: they are stored lowest slot first, and read in any order.
use Rattle.std.specs.Prelude.{ℕ, ◌≡◌, true, List, ◌∷◌, ◌++◌, map, eqb, length}
use Rattle.octets.specs.Label.{row_of}
use Rattle.octets.specs.Numbers.{completed}
use Rattle.octets.proofs.Laws.{Bytes}
use Rattle.arrays.specs.{Arrays.some, Every.Every, Every.EveryTwo}
use Rattle.sequence.specs.Sequence.{steps_of}
use Rattle.sequence.specs.declared.Sequence.{Sequence}
use Rattle.store.specs.Blocks.{client_blocks, step_blocks}
use Rattle.store.specs.Stored.{clients_at, step_bytes, slots_in, head_of, groups, sealed_from, stored_of}
use Rattle.store.specs.Loaded.{client_count, client_slot, loaded_of}
use Rattle.store.specs.Legal.{Legal, Fits}

-- the slots of the first k client records, as they stand
abbrev pub slots_read : List ℕ → ℕ → List ℕ
slots_read s k = row_of k (client_slot s)

-- the client records of a sequence, in this order of slots
abbrev pub clients_by : List ℕ → Sequence → List (List ℕ)
clients_by slots q = clients_at slots q.records

-- its blocks, with them in this order
unfoldable pub stored_by : List ℕ → Sequence → List ℕ
stored_by slots q =
    sealed_from 1
    (head_of (length slots) (length (steps_of q)) q.edition
    ∷ groups (client_blocks (length slots)) 3 (clients_by slots q)
    ++ groups (step_blocks (length (steps_of q))) 31 (map step_bytes (steps_of q)))

-- slots is an order of all: it has as many, each of all stands in it, each that stands in it is one of all, and none stands there twice
pub record Orders (slots all : List ℕ) : Type 0 where
  pub as_many : length slots ≡ length all
  pub each : Every (λ slot. some (eqb slot) slots ≡ true) all
  pub only : Every (λ slot. some (eqb slot) all ≡ true) slots
  pub once : EveryTwo (λ a b. a ≡ b → ⊥) slots

pub record Whole : Type 0 where
  -- so accepted bytes that differ say two sequences, or one with its client records in two orders
  pub exactly : (s : List ℕ) → Bytes s → (loaded_of s).number ≡ completed → stored_by (slots_read s (client_count s)) (loaded_of s).sequence ≡ s
  -- the order in which storing writes them
  pub lowest_first : (q : Sequence) → stored_by (slots_in q.records) q ≡ stored_of q
  -- and they are read in any order
  pub any_order :
      (q : Sequence) (slots : List ℕ) → Legal q → Fits q → Orders slots (slots_in q.records)
      → loaded_of (stored_by slots q) ≡ record { number = completed; sequence = q }
