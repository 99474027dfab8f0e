-- `pool::stage_two::numbers_fault` meets its contract. The loop's invariant: no number stood before so far, and the bits are the numbers seen.
use Prim.Native.Nat.{◌+◌}
use mathlib.Core.Path.{◌≡◌}
use mathlib.Core.List.{[], map}
use lib.ListN.{take, drop}
use Rattle.pool.specs.Fields.{object_number}
use Rattle.pool.specs.StageTwo.{first_repeat}
use Rattle.pool.specs.Search.Seen.{Holds}
use Rattle.pool.proofs.stage_two.numbers_fault.Given as goal

abbrev pub invariant-loop-p : goal.invariant-loop-p
invariant-loop-p l =
    record {
      first : first_repeat [] (map (object_number l.s) l.ps) ≡ l.p-index + first_repeat (take l.p-index (map (object_number l.s) l.ps)) (drop l.p-index (map (object_number l.s) l.ps));
      seen : Holds l.seen.words (take l.p-index (map (object_number l.s) l.ps));
    }
