-- `printed::digits::scaled` meets its contract. The loop's invariant: what is done and the digits of what is left are the digits of the whole, and what is
-- carried stays small.
use mathlib.Core.Path.{◌≡◌}
use mathlib.Core.List.{◌++◌}
use Prim.Native.Nat.{◌+◌, ◌-◌, ◌*◌, ◌^◌, ◌<◌, ◌≤◌}
use lib.ListN.{length, take, drop}
use Rattle.printed.specs.Steps.{low_digits, number_in}
use Rattle.printed.proofs.digits.scaled.Given as goal

abbrev pub invariant-loop-k : goal.invariant-loop-k
invariant-loop-k l =
    (l.k ≤ 56) × (l.carry < 2 ^ 57) × (length l.r ≡ 56)
    × (low_digits 56 (number_in l.digits * l.times + l.plus) ≡ take l.k l.r ++ low_digits (56 - l.k) (number_in (drop l.k l.digits) * l.times + l.carry))
