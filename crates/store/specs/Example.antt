-- Which byte is which field: the contents of a sequence's blocks in which no two fields of the first block, of a client record or of a step are alike, and
-- a block with its check.
use Rattle.std.specs.Prelude.{ℕ, ◌≡◌, List, [], ◌∷◌, ◌++◌, replicate}
use Rattle.client.specs.Records.{blank_record}
use Rattle.client.specs.declared.ClientRecord.{ClientRecord}
use Rattle.sequence.specs.Sequence.{blank_step}
use Rattle.sequence.specs.declared.Step.{Step}
use Rattle.sequence.specs.declared.Sequence.{Sequence}
use Rattle.store.specs.Stored.{contents_of, sealed}

-- a client with labels "AB" and "CDE"
abbrev pub sample_client : ClientRecord
sample_client = record {
  used = 1;
  name = 0x0807060504030201;
  master = 0x1817161514131211;
  version = record { length = 2; bytes = 0x41 ∷ 0x42 ∷ replicate 61 0 };
  configuration = record { length = 3; bytes = 0x43 ∷ 0x44 ∷ 0x45 ∷ replicate 60 0 };
}

abbrev pub sample_step : Step
sample_step = record { slot = 5; function = 0x21; state = 0x22; distance = 1; value = 0x34333231; mark = 0x44434241 }

abbrev pub sample_sequence : Sequence
sample_sequence = record {
  count = 4;
  edition = 2;
  steps = sample_step ∷ sample_step ∷ sample_step ∷ sample_step ∷ replicate 60 blank_step;
  records = replicate 5 blank_record ++ sample_client ∷ sample_client ∷ blank_record ∷ [];
}

-- slot, lengths of both labels, zero; NAME; master NAME; version label and zero; configuration label and zero
abbrev pub record_bytes : ℕ → List ℕ
record_bytes slot =
    slot ∷ 2 ∷ 3 ∷ 0 ∷ []
    ++ 0x01 ∷ 0x02 ∷ 0x03 ∷ 0x04 ∷ 0x05 ∷ 0x06 ∷ 0x07 ∷ 0x08 ∷ []
    ++ 0x11 ∷ 0x12 ∷ 0x13 ∷ 0x14 ∷ 0x15 ∷ 0x16 ∷ 0x17 ∷ 0x18 ∷ []
    ++ 0x41 ∷ 0x42 ∷ replicate 62 0
    ++ 0x43 ∷ 0x44 ∷ 0x45 ∷ replicate 61 0

-- slot, function, state, 1 for millimetres; mark; value; four zeros
abbrev pub sample_bytes : List ℕ
sample_bytes =
    5 ∷ 0x21 ∷ 0x22 ∷ 1 ∷ []
    ++ 0x41 ∷ 0x42 ∷ 0x43 ∷ 0x44 ∷ []
    ++ 0x31 ∷ 0x32 ∷ 0x33 ∷ 0x34 ∷ []
    ++ 0 ∷ 0 ∷ 0 ∷ 0 ∷ []

pub record Layout : Type 0 where
  -- "the first holds the client records' count and the step count, then client records, then steps"; "The edition stands in the first block."
  pub contents : contents_of sample_sequence ≡
      -- counts of client records and of steps, the edition less one
      (2 ∷ 0 ∷ 0 ∷ 0 ∷ 4 ∷ 0 ∷ 0 ∷ 0 ∷ 1 ∷ 0 ∷ 0 ∷ 0 ∷ [])
      -- the client records, lowest slot first
      ∷ (record_bytes 5 ++ record_bytes 6)
      -- the steps, one after the other
      ∷ (sample_bytes ++ sample_bytes ++ sample_bytes ++ sample_bytes)
      ∷ []
  -- "each block filled with zeros. The last four bytes are the wrapping sum of the block's 127 leading 32-bit words and its number from 1.": the words
  -- 04030201 and FFFFFFFF, and block 5
  pub block :
      sealed 5 (0x01 ∷ 0x02 ∷ 0x03 ∷ 0x04 ∷ 0xFF ∷ 0xFF ∷ 0xFF ∷ 0xFF ∷ [])
      ≡ 0x01 ∷ 0x02 ∷ 0x03 ∷ 0x04 ∷ 0xFF ∷ 0xFF ∷ 0xFF ∷ 0xFF ∷ replicate 500 0 ++ 0x05 ∷ 0x02 ∷ 0x03 ∷ 0x04 ∷ []
