-- `pool::stage_two::bits_of` meets its contract. The loop's invariant: the bits are the set of the IDs from here on.
use mathlib.Core.Path.{◌≡◌}
use lib.ListN.{drop}
use Rattle.octets.specs.Bits.{bits_of}
use Rattle.pool.proofs.stage_two.bits_of.Given as goal

abbrev pub invariant-loop-k : goal.invariant-loop-k
invariant-loop-k l = l.bits ≡ bits_of (drop l.k l.ids)
