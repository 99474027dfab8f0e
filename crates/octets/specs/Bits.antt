-- A set of small numbers, as the bits of a number.
use Rattle.std.specs.Prelude.{Bool, List, [], ◌∷◌, ℕ, ◌/◌, ◌%◌, ◌^◌, eqb, ltb}
use Rattle.std.specs.Int.Bits.{bit_or}
use Rattle.octets.specs.Pick.{pick}

-- k is in the set x
unfoldable pub has_bit : ℕ → ℕ → Bool
has_bit x k = eqb (x / 2 ^ k % 2) 1

-- the set x with k in it
unfoldable pub with_bit : ℕ → ℕ → ℕ
with_bit x k = bit_or x (2 ^ k)

-- the set of those numbers of a list that are below 64
unfoldable pub bits_of : List ℕ → ℕ
bits_of [] = 0
bits_of (k ∷ ks) = pick (ltb k 64) (with_bit (bits_of ks) k) (bits_of ks)
