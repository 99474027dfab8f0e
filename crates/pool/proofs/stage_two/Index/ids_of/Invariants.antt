-- `pool::stage_two::Index::ids_of` meets its contract. The loop's invariant: the IDs of the numbers passed stand at the front.
use Prim.Native.Nat.{◌-◌}
use mathlib.Core.Path.{◌≡◌}
use mathlib.Core.List.{map}
use lib.ListN.{length, take, drop, replicate}
use Rattle.pool.specs.Types.{type_number}
use Rattle.pool.specs.Fields.{numbers_at}
use Rattle.pool.specs.StageTwo.{id_of}
use Rattle.pool.proofs.stage_two.Index.ids_of.Given as goal

abbrev pub invariant-loop-k : goal.invariant-loop-k
invariant-loop-k l =
    record {
      front : take l.k l.ids ≡ take l.k (map (id_of l.self.pool.now l.self.places.now (type_number l.kind)) (numbers_at 2 l.self.pool.now l.list.at l.list.count));
      long : length l.ids ≡ 255;
      blank : drop l.k l.ids ≡ replicate (255 - l.k) 0;
    }
