-- `pool::stage_two::first_repeat` meets its contract. The loop's invariant: no key stood before so far, and the bits are the keys seen.
use Prim.Native.Nat.{◌+◌}
use mathlib.Core.Path.{◌≡◌}
use mathlib.Core.List.{[]}
use lib.ListN.{take, drop}
use Rattle.pool.specs.StageTwo.{first_repeat}
use Rattle.pool.specs.Search.Seen.{Holds}
use Rattle.pool.proofs.stage_two.first_repeat.Given as goal

abbrev pub invariant-loop-k : goal.invariant-loop-k
invariant-loop-k l =
    record {
      first : first_repeat [] l.keys ≡ l.k + first_repeat (take l.k l.keys) (drop l.k l.keys);
      seen : Holds l.seen.words (take l.k l.keys);
    }
