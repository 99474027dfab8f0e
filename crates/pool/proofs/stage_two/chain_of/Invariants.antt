-- `pool::stage_two::chain_of` meets its contract. The loop's invariant: the chains of the objects from place k on are built.
use mathlib.Core.Path.{◌≡◌}
use lib.ListN.{length}
use Rattle.pool.specs.Search.Index.{Heads, Links, Unused}
use Rattle.pool.proofs.stage_two.chain_of.Given as goal

abbrev pub invariant-loop-k : goal.invariant-loop-k
invariant-loop-k l =
    record {
      heads : Heads l.s l.ps l.chain l.k;
      links : Links l.s l.ps l.chain l.k;
      long : length l.chain ≡ 18432;
      unused : Unused l.ps l.chain;
    }
