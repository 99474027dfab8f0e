-- 02, request 1: "Store one sequence as blocks of 512 bytes, each with its own check: the first holds the client records' count and the step count, then
-- client records, then steps, each block filled with zeros. The last four bytes are the wrapping sum of the block's 127 leading 32-bit words and its
-- number from 1." Request 11: "The edition stands in the first block." Three client records of 148 bytes stand in a block, and 31 steps of 16 bytes;
-- numbers are least significant byte first.
use Rattle.std.specs.Prelude.{ℕ, zero, suc, ◌+◌, ◌-◌, ◌*◌, ◌/◌, ◌%◌, min, Bool, not, List, eqb, leb, length, take, drop}
use Rattle.octets.specs.{Pick.pick, Octets.number_at}
use Rattle.store.specs.Below.{some_below}

-- ---- a block and its check

-- "blocks of 512 bytes"
abbrev pub block_bytes : ℕ
block_bytes = 512

-- all of a block but its check
abbrev pub content_bytes : ℕ
content_bytes = 508

-- block b of the bytes s, counted from 0
abbrev pub block_at : List ℕ → ℕ → List ℕ
block_at s b = take block_bytes (drop (block_bytes * b) s)

-- "32-bit words": word k of the block that stands at place p, counted from 0
abbrev pub word_at : List ℕ → ℕ → ℕ → ℕ
word_at s p k = number_at 4 s (p + 4 * k)

-- its first n words together
unfoldable pub sum_at : List ℕ → ℕ → ℕ → ℕ
sum_at s p zero = 0
sum_at s p (suc n) = sum_at s p n + word_at s p n

-- "the wrapping sum of the block's 127 leading 32-bit words and its number from 1"
unfoldable pub check_at : List ℕ → ℕ → ℕ → ℕ
check_at s p number = (sum_at s p 127 + number) % 4294967296

-- "the last four bytes": word 127
abbrev pub is_intact : ℕ → List ℕ → Bool
is_intact number block = eqb (word_at block 0 127) (check_at block 0 number)

-- "16 the check of a whole lent block": of one of them, also of one that is left over
unfoldable pub is_damaged : List ℕ → Bool
is_damaged s = some_below (length s / block_bytes) (λ b. not (is_intact (b + 1) (block_at s b)))

-- ---- which blocks there are, of c clients and n steps

-- three client records to a block
abbrev pub client_blocks : ℕ → ℕ
client_blocks c = (c + 2) / 3

-- 31 steps to a block
abbrev pub step_blocks : ℕ → ℕ
step_blocks n = (n + 30) / 31

-- the first block, those of the client records, those of the steps
abbrev pub blocks_for : ℕ → ℕ → ℕ
blocks_for c n = 1 + client_blocks c + step_blocks n

-- how much of block b, counted from 0, is not fill
unfoldable pub used_bytes : ℕ → ℕ → ℕ → ℕ
used_bytes c n b =
    pick (eqb b 0) 12
    (pick (leb b (client_blocks c)) (148 * min 3 (c - 3 * (b - 1)))
    (16 * min 31 (n - 31 * (b - 1 - client_blocks c))))

-- where client record k stands, counted from 0
abbrev pub client_place : ℕ → ℕ
client_place k = 512 + 512 * (k / 3) + 148 * (k % 3)

-- where step k stands, counted from 0
abbrev pub step_place : ℕ → ℕ → ℕ
step_place c k = 512 * (1 + client_blocks c) + 512 * (k / 31) + 16 * (k % 31)
