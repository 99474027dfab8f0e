-- 02, request 1, loading: the sequence that blocks say, and the numbers. "Refusals: 16 the check of a whole lent block, 17 counts or fields out of range
-- (1 to 8 clients, 1 to 64 steps, fields as in document 01), fill not zero, a slot twice, blocks missing or left over, a step without its client's record
-- or a record without a step". Request 11: "an unknown edition gives 17".
use Rattle.std.specs.Prelude.{ℕ, zero, suc, ◌+◌, ◌-◌, ◌*◌, Result, Ok, Err, Bool, not, ◌&&◌, List, [], ◌∷◌, ◌++◌, eqb, leb, ltb, length, get_or, set, replicate}
use Rattle.std.specs.List.{list_all, range_with_len}
use Rattle.octets.specs.{Pick.pick, Octets.number_at, Label.label_at}
use Rattle.octets.specs.Numbers.{completed, check_wrong, not_stored}
use Rattle.octets.specs.Refusals.{refusal_number}
use Rattle.octets.specs.declared.numbers.Refusal.{Refusal}
use Rattle.pool.specs.{Ranges.label_right, StageTwo.character_right}
use Rattle.arrays.specs.Arrays.{some, pad_to}
use Rattle.client.specs.{Clients.slot_count, Records.blank_record, declared.ClientRecord.ClientRecord}
use Rattle.sequence.specs.Sequence.{most_steps, blank_step, blank_sequence}
use Rattle.sequence.specs.Editions.{is_edition}
use Rattle.sequence.specs.{declared.Step.Step, declared.Sequence.Sequence}
use Rattle.store.specs.Below.{every_below, some_below}
use Rattle.store.specs.Blocks.{block_bytes, content_bytes, is_damaged, blocks_for, used_bytes, client_place, step_place}
use Rattle.store.specs.Fields.{step_right}

-- what blocks say: number is 0, 16 or 17, and the sequence is blank where it is not 0
pub record Loaded : Type 0 where
  pub number : ℕ
  pub sequence : Sequence

-- the answer of loading, in these words
abbrev pub loaded_by : Result Sequence Refusal → Loaded
loaded_by (Ok q) = record { number = completed; sequence = q }
loaded_by (Err why) = record { number = refusal_number why; sequence = blank_sequence }

abbrev pub byte_at : List ℕ → ℕ → ℕ
byte_at s i = get_or s i 0

-- zeros from place i up to place j, not counted
abbrev pub is_blank : List ℕ → ℕ → ℕ → Bool
is_blank s i j = list_all (λ at. eqb (byte_at s at) 0) (range_with_len i (j - i))

-- ---- a client record at place p

unfoldable pub client_at : List ℕ → ℕ → ClientRecord
client_at s p = record {
  used = 1;
  name = number_at 8 s (p + 4);
  master = number_at 8 s (p + 12);
  version = label_at s (p + 20) (byte_at s (p + 1));
  configuration = label_at s (p + 84) (byte_at s (p + 2));
}

-- "Eight slots."; labels of 1 to 63 bytes; "a version label byte outside 20–7E and A0–FF or one of the eleven characters that A.3 forbids, 0A"
unfoldable pub client_right : List ℕ → ℕ → Bool
client_right s p =
    ltb (byte_at s p) slot_count && label_right (byte_at s (p + 1)) && label_right (byte_at s (p + 2))
    && every_below (byte_at s (p + 1)) (λ k. character_right (byte_at s (p + 20 + k)))

-- byte 3, and after each label
unfoldable pub client_blank : List ℕ → ℕ → Bool
client_blank s p =
    eqb (byte_at s (p + 3)) 0
    && is_blank s (p + 20 + byte_at s (p + 1)) (p + 84)
    && is_blank s (p + 84 + byte_at s (p + 2)) (p + 148)

-- ---- a step at place p

unfoldable pub step_at : List ℕ → ℕ → Step
step_at s p = record {
  slot = byte_at s p;
  function = byte_at s (p + 1);
  state = byte_at s (p + 2);
  distance = byte_at s (p + 3);
  value = number_at 4 s (p + 8);
  mark = number_at 4 s (p + 4);
}

abbrev pub step_blank : List ℕ → ℕ → Bool
step_blank s p = is_blank s (p + 12) (p + 16)

-- ---- all of them

abbrev pub client_count : List ℕ → ℕ
client_count s = number_at 4 s 0

abbrev pub step_count : List ℕ → ℕ
step_count s = number_at 4 s 4

-- what stands in the block is the edition less one
abbrev pub edition_in : List ℕ → ℕ
edition_in s = number_at 4 s 8 + 1

-- the slot of client record k, and that of step k of as many clients
abbrev pub client_slot : List ℕ → ℕ → ℕ
client_slot s k = byte_at s (client_place k)

abbrev pub step_slot : List ℕ → ℕ → ℕ → ℕ
step_slot s c k = byte_at s (step_place c k)

-- the first k client records, each in its slot: "read in any order"
abbrev pub records_to : List ℕ → ℕ → List ClientRecord
records_to s zero = replicate slot_count blank_record
records_to s (suc k) = set (records_to s k) (client_slot s k) (client_at s (client_place k))

-- the first k steps, in their order
abbrev pub steps_to : List ℕ → ℕ → ℕ → List Step
steps_to s c zero = []
steps_to s c (suc k) = steps_to s c k ++ step_at s (step_place c k) ∷ []

unfoldable pub sequence_in : List ℕ → Sequence
sequence_in s = record {
  count = step_count s;
  edition = edition_in s;
  steps = pad_to blank_step most_steps (steps_to s (client_count s) (step_count s));
  records = records_to s (client_count s);
}

-- ---- "17"

-- "1 to 8 clients, 1 to 64 steps"
abbrev pub counts_right : ℕ → ℕ → Bool
counts_right c n = leb 1 c && leb c slot_count && leb 1 n && leb n most_steps

-- after what a block holds, up to its check
abbrev pub rest_blank : List ℕ → ℕ → ℕ → ℕ → Bool
rest_blank s c n b = is_blank s (block_bytes * b + used_bytes c n b) (block_bytes * b + content_bytes)

module _ (s : List ℕ) (c n : ℕ) where
  abbrev pub are_clients_right : Bool
  are_clients_right = every_below c (λ k. client_right s (client_place k))

  abbrev pub are_steps_right : Bool
  are_steps_right = every_below n (λ k. step_right (step_at s (step_place c k)))

  -- "fill not zero": in client records, in steps, and in each block after them
  abbrev pub is_fill_blank : Bool
  is_fill_blank =
      every_below c (λ k. client_blank s (client_place k)) && every_below n (λ k. step_blank s (step_place c k))
      && every_below (blocks_for c n) (λ b. rest_blank s c n b)

  -- "a slot twice": that of a record before it
  abbrev pub is_no_slot_twice : Bool
  is_no_slot_twice = every_below c (λ k. not (some_below k (λ j. eqb (client_slot s j) (client_slot s k))))

  -- "a step without its client's record"
  abbrev pub has_each_record : Bool
  has_each_record = every_below n (λ k. some_below c (λ j. eqb (client_slot s j) (step_slot s c k)))

  -- "a record without a step"
  abbrev pub has_each_step : Bool
  has_each_step = every_below c (λ j. some_below n (λ k. eqb (step_slot s c k) (client_slot s j)))

  -- the reasons for 17
  abbrev pub reasons_for : List Bool
  reasons_for =
      -- "counts .. out of range (1 to 8 clients, 1 to 64 steps"
      not (counts_right c n)
      -- "an unknown edition"
      ∷ not (is_edition (edition_in s))
      -- "blocks missing or left over", none at all and a part of one among them
      ∷ not (eqb (length s) (block_bytes * blocks_for c n))
      -- ".. or fields out of range (.. fields as in document 01)"
      ∷ not are_clients_right
      ∷ not are_steps_right
      -- "fill not zero"
      ∷ not is_fill_blank
      -- "a slot twice"
      ∷ not is_no_slot_twice
      -- "a step without its client's record or a record without a step"
      ∷ not has_each_record
      ∷ not has_each_step
      ∷ []

unfoldable pub is_faulty : List ℕ → Bool
is_faulty s = some (λ reason. reason) (reasons_for s (client_count s) (step_count s))

-- "in that order"
unfoldable pub load_number : List ℕ → ℕ
load_number s = pick (is_damaged s) check_wrong (pick (is_faulty s) not_stored completed)

-- no sequence where the blocks are refused
unfoldable pub loaded_of : List ℕ → Loaded
loaded_of s = record { number = load_number s; sequence = pick (eqb (load_number s) completed) (sequence_in s) blank_sequence }
