-- 02, request 1: "Loading gives back exactly what was stored, and any change inside one word is found." Request 11: "Edition 1 files keep the rule they
-- have."
use Rattle.std.specs.Prelude.{ℕ, ◌*◌, ◌/◌, ◌<◌, ◌≡◌, List, ◌∷◌, ◌++◌, length, drop}
use Rattle.octets.specs.Octets.{number_at, bytes_of}
use Rattle.octets.specs.Numbers.{completed, check_wrong}
use Rattle.octets.proofs.Laws.{Bytes}
use Rattle.arrays.specs.Every.{Every}
use Rattle.sequence.specs.Sequence.{length_of, steps_of}
use Rattle.sequence.specs.Editions.{first_edition}
use Rattle.sequence.specs.declared.Sequence.{Sequence}
use Rattle.store.specs.Blocks.{block_bytes}
use Rattle.store.specs.Stored.{slots_in, contents_of, sealed_from, stored_of, store_bytes}
use Rattle.store.specs.Loaded.{client_count, step_count, edition_in, loaded_of}
use Rattle.store.specs.Legal.{RightStep, Legal, Fits}
use Rattle.store.specs.{Whole.Whole, Example.Layout}

-- word i of the bytes, counted from 0 through all blocks
abbrev pub word : List ℕ → ℕ → ℕ
word s i = number_at 4 s (4 * i)

-- t is s with word i altered, a check word too
pub record Altered (s t : List ℕ) (i : ℕ) : Type 0 where
  pub bytes : Bytes t
  pub same_length : length t ≡ length s
  pub others : (j : ℕ) → (j ≡ i → ⊥) → word t j ≡ word s j
  pub differs : word t i ≡ word s i → ⊥

-- what accepted bytes say: the counts and the edition of the first block, exactly their blocks, each field in its range
pub record Accepted (s : List ℕ) (q : Sequence) : Type 0 where
  pub legal : Legal q
  pub fields : Every RightStep (steps_of q)
  pub clients : length (slots_in q.records) ≡ client_count s
  pub steps : length_of q ≡ step_count s
  pub edition : q.edition ≡ edition_in s
  pub blocks : length s ≡ store_bytes q

-- the blocks as they were before there were editions: the first held the counts alone
abbrev pub stored_before : Sequence → List ℕ
stored_before q = sealed_from 1 ((bytes_of 4 (length (slots_in q.records)) ++ bytes_of 4 (length (steps_of q))) ∷ drop 1 (contents_of q))

pub record Promises : Type 0 where
  -- "Loading gives back exactly what was stored"
  pub again : (q : Sequence) → Legal q → Fits q → loaded_of (stored_of q) ≡ record { number = completed; sequence = q }
  -- so two sequences that differ have blocks that differ
  pub differ : (q r : Sequence) → Legal q → Fits q → Legal r → Fits r → stored_of q ≡ stored_of r → q ≡ r
  -- "any change inside one word is found": of blocks whose checks are right, so of all that are stored
  pub altered : (s t : List ℕ) (i : ℕ) → Bytes s → ((loaded_of s).number ≡ check_wrong → ⊥) → 4 * i / block_bytes < length s / block_bytes → Altered s t i → (loaded_of t).number ≡ check_wrong
  pub accepted : (s : List ℕ) → (loaded_of s).number ≡ completed → Accepted s (loaded_of s).sequence
  -- the length of what is stored
  pub length_stored : (q : Sequence) → Legal q → length (stored_of q) ≡ store_bytes q
  -- what is stored is bytes, each below 256, as `altered` asks
  pub bytes : (q : Sequence) → Legal q → Fits q → Bytes (stored_of q)
  -- "Edition 1 files keep the rule they have.": what was stored before is, byte for byte, what is stored in edition 1
  pub before : (q : Sequence) → q.edition ≡ first_edition → stored_before q ≡ stored_of q
  -- what is accepted is, byte for byte, what storing writes, but for the order of its client records
  pub whole : Whole
  -- which byte is which field, and the check of a block
  pub layout : Layout
