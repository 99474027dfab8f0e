-- `store::sum_of` meets its contract. The loop's invariant: the sum is that of the words passed, each of them below 2 ^ 32.
use Rattle.std.proofs.Common.{◌≡◌, ◌*◌, ◌≤◌}
use Rattle.store.specs.Blocks.{sum_at}
use Rattle.store.proofs.sum_of.Given as goal

abbrev pub invariant-loop-k : goal.invariant-loop-k
invariant-loop-k l = (l.sum ≤ 4294967295 * l.k) × (l.sum ≡ sum_at l.block 0 l.k)
