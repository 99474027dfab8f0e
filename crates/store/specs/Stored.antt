-- 02, request 1, storing: the bytes of a sequence's blocks, with the edition of request 11.
use Rattle.std.specs.Prelude.{ℕ, zero, suc, ◌+◌, ◌-◌, ◌*◌, List, [], ◌∷◌, ◌++◌, map, length, take, drop, get_or, eqb}
use Rattle.std.proofs.lemmas.List.Edits.{sets}
use Rattle.octets.specs.{Pick.pick, Octets.bytes_of}
use Rattle.arrays.specs.Arrays.{those, pad_to}
use Rattle.client.specs.Records.{is_used, blank_record}
use Rattle.client.specs.declared.ClientRecord.{ClientRecord}
use Rattle.sequence.specs.Sequence.{length_of, steps_of}
use Rattle.sequence.specs.declared.Step.{Step}
use Rattle.sequence.specs.declared.Sequence.{Sequence}
use Rattle.store.specs.Blocks.{block_bytes, content_bytes, check_at, client_blocks, step_blocks, blocks_for}

-- a client record: slot, lengths of the version label and of the configuration label, zero, NAME, master NAME, version label, zero, configuration
-- label, zero. A label has its 63 cells, of which those after its length are 0
unfoldable pub client_bytes : ℕ → ClientRecord → List ℕ
client_bytes slot r =
    slot ∷ r.version.length ∷ r.configuration.length ∷ 0 ∷ []
    ++ bytes_of 8 r.name ++ bytes_of 8 r.master
    ++ r.version.bytes ++ 0 ∷ []
    ++ r.configuration.bytes ++ 0 ∷ []

-- a step: slot, function, state, kind of mark (0 ticks, 1 millimetres), mark, value, and four zeros
unfoldable pub step_bytes : Step → List ℕ
step_bytes s =
    s.slot ∷ s.function ∷ s.state ∷ s.distance ∷ []
    ++ bytes_of 4 s.mark ++ bytes_of 4 s.value
    ++ 0 ∷ 0 ∷ 0 ∷ 0 ∷ []

-- the slots of which there is a client record, lowest first
unfoldable pub slots_in : List ClientRecord → List ℕ
slots_in records = those (λ slot. is_used (get_or records slot blank_record)) (0 ∷ 1 ∷ 2 ∷ 3 ∷ 4 ∷ 5 ∷ 6 ∷ 7 ∷ [])

-- the client records of these slots
abbrev pub clients_at : List ℕ → List ClientRecord → List (List ℕ)
clients_at slots records = map (λ slot. client_bytes slot (get_or records slot blank_record)) slots

abbrev pub clients_in : List ClientRecord → List (List ℕ)
clients_in records = clients_at (slots_in records) records

-- "the first holds the client records' count and the step count"; "The edition stands in the first block": the edition less one, so that in edition 1 the
-- block is what it was before there were editions
abbrev pub head_of : ℕ → ℕ → ℕ → List ℕ
head_of c n edition = bytes_of 4 c ++ bytes_of 4 n ++ bytes_of 4 (edition - 1)

-- ---- blocks

abbrev pub joined : List (List ℕ) → List ℕ
joined [] = []
joined (x ∷ l) = x ++ joined l

-- n of them to a block
abbrev pub groups : ℕ → ℕ → List (List ℕ) → List (List ℕ)
groups zero n l = []
groups (suc blocks) n l = joined (take n l) ∷ groups blocks n (drop n l)

-- "then client records, then steps": steps begin in a new block
unfoldable pub contents_of : Sequence → List (List ℕ)
contents_of q =
    head_of (length (slots_in q.records)) (length (steps_of q)) q.edition
    ∷ groups (client_blocks (length (slots_in q.records))) 3 (clients_in q.records)
    ++ groups (step_blocks (length (steps_of q))) 31 (map step_bytes (steps_of q))

-- "each block filled with zeros", and its check
abbrev pub filled : List ℕ → List ℕ
filled content = pad_to 0 content_bytes content

unfoldable pub sealed : ℕ → List ℕ → List ℕ
sealed number content = filled content ++ bytes_of 4 (check_at (filled content) 0 number)

abbrev pub sealed_from : ℕ → List (List ℕ) → List ℕ
sealed_from number [] = []
sealed_from number (content ∷ contents) = sealed number content ++ sealed_from (number + 1) contents

-- "its number from 1"
unfoldable pub stored_of : Sequence → List ℕ
stored_of q = sealed_from 1 (contents_of q)

-- how many bytes they are, "none for no sequence"
unfoldable pub store_bytes : Sequence → ℕ
store_bytes q = pick (eqb (length_of q) 0) 0 (block_bytes * blocks_for (length (slots_in q.records)) (length_of q))

-- from the start of the lent bytes on; bytes past the blocks stay
unfoldable pub stored_in : Sequence → List ℕ → List ℕ
stored_in q out = sets out 0 (stored_of q)
