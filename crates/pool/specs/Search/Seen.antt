-- The keys of a list, each below 65,536, as bits: 64 of them in a word.
use Rattle.std.specs.Prelude.{ℕ, ◌/◌, ◌%◌, ◌<◌, ◌≡◌, List, get_or}
use Rattle.octets.specs.Bits.{has_bit}
use Rattle.pool.specs.StageTwo.{is_in}

abbrev pub Holds : List ℕ → List ℕ → Type 0
Holds words keys = (n : ℕ) → n < 65536 → has_bit (get_or words (n / 64) 0) (n % 64) ≡ is_in n keys
