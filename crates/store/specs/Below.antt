-- What holds of every number below n, and of some of them.
use Rattle.std.specs.Prelude.{ℕ, Bool}
use Rattle.std.specs.List.{list_all, list_any, range_with_len}

abbrev pub every_below : ℕ → (ℕ → Bool) → Bool
every_below n p = list_all p (range_with_len 0 n)

abbrev pub some_below : ℕ → (ℕ → Bool) → Bool
some_below n p = list_any p (range_with_len 0 n)
