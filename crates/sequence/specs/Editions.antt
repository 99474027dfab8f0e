-- 02, request 11, "Two rules for who may replay": a sequence has an edition, 1 or 2, which says by which rule its clients' NAMEs are verified.
use Rattle.std.specs.Prelude.{ℕ, Bool, ◌||◌, eqb}
use Rattle.octets.specs.Pick.{pick}
use Rattle.sequence.specs.declared.Sequence.{Sequence}
use Rattle.sequence.specs.Sequence.{length_of}

-- "Edition 1 files keep the rule they have."; a recording gives 1
abbrev pub first_edition : ℕ
first_edition = 1

-- "Stored sequences of edition 2 demand that the lowest 21 bits of the client's NAME .. agree too"
abbrev pub second_edition : ℕ
second_edition = 2

-- "an unknown edition" is any other number
abbrev pub is_edition : ℕ → Bool
is_edition edition = eqb edition first_edition || eqb edition second_edition

-- nothing else of the sequence changes
abbrev pub with_edition : Sequence → ℕ → Sequence
with_edition q edition = record { count = q.count; edition = edition; steps = q.steps; records = q.records }

-- the edition that is read, 0 with no sequence
unfoldable pub edition_of : Sequence → ℕ
edition_of q = pick (eqb (length_of q) 0) 0 q.edition
