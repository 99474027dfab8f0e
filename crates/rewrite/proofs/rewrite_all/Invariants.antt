-- `rewrite::rewrite_all` meets its contract. The loop's invariant is Turn; the measure is what is left of the pool.
use Prim.Native.Nat.{◌-◌}
use lib.ListN.{length}
use Rattle.rewrite.proofs.Turn.{Turn}
use Rattle.rewrite.proofs.rewrite_all.Given as goal

abbrev pub invariant-loop-at : goal.invariant-loop-at
invariant-loop-at l = Turn l.pool l.initial.out l.out l.at

abbrev pub decreases-loop-at : goal.decreases-loop-at
decreases-loop-at l = length l.pool - l.at
