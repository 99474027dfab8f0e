-- 02, request 1: "Drivers want September's plot end in March. .. Loading gives back exactly what was stored, and any change inside one word is found."
-- Of what a store leaves in the lent bytes, on every master that calls give, and of a load into any master in ready.
use Rattle.std.specs.Prelude.{ℕ, ◌*◌, ◌≤◌, ◌<◌, ◌≡◌, List, length, take}
use Rattle.octets.specs.Numbers.{completed, check_wrong}
use Rattle.store.specs.{Legal.Legal, Legal.Fits, Promises.Altered}
use Rattle.master.specs.declared.Master.{Master}
use Rattle.master.specs.States as state
use Rattle.master.specs.States.{with_sequence}
use Rattle.events.specs.Events.{store, load, apply, lent_after, Given}

-- the blocks that a store wrote: so many bytes as it says, from the first on
abbrev pub blocks_from : Master → List ℕ → List ℕ
blocks_from m out = take (apply m (store out)).count (lent_after m (store out))

-- a store into these bytes that is not refused, on a master that calls give, whose numbers fit their fields as in every sequence that is held in memory
pub record Stores (m : Master) (out : List ℕ) : Type 0 where
  pub given : Given m
  pub fits : Fits m.sequence
  pub accepted : (apply m (store out)).number ≡ completed

pub record Stored : Type 0 where
  -- a sequence that calls give has each field in the range that blocks are held to
  pub legal : (m : Master) → Given m → 1 ≤ m.sequence.count → Legal m.sequence
  -- "Loading gives back exactly what was stored": it is accepted, the sequence is the stored one, and nothing else changes
  pub again :
      (m n : Master) (out : List ℕ) → Stores m out → n.state ≡ state.ready
      → ((apply n (load (blocks_from m out))).number ≡ completed) × ((apply n (load (blocks_from m out))).master ≡ with_sequence n m.sequence)
  -- "any change inside one word is found": whatever comes in the place of one word, a check word too
  pub found :
      (m n : Master) (out t : List ℕ) (i : ℕ) → Stores m out → n.state ≡ state.ready → 4 * i < length (blocks_from m out)
      → Altered (blocks_from m out) t i → (apply n (load t)).number ≡ check_wrong
  -- the same blocks are those of one sequence
  pub differ : (m n : Master) (out out' : List ℕ) → Stores m out → Stores n out' → blocks_from m out ≡ blocks_from n out' → m.sequence ≡ n.sequence
