-- `objects::write::put_list` meets its contract. The loop's invariant: what is to be stored from the start is what is to be stored from here.
use Prim.Native.Nat.{◌+◌, ◌*◌}
use mathlib.Core.Path.{◌≡◌}
use mathlib.Core.List.{map}
use lib.ListN.{drop}
use lib.Seq.{sets}
use Rattle.objects.specs.Objects.{field, bytes_of_fields}
use Rattle.objects.proofs.write.put_list.Given as goal

abbrev pub invariant-loop-number : goal.invariant-loop-number
invariant-loop-number l = record {
  stored : sets l.initial.out l.i (bytes_of_fields (map (field 2) l.list)) ≡ sets l.out l.at (bytes_of_fields (map (field 2) (drop l.number-index l.list)));
  place : l.at ≡ l.i + 2 * l.number-index;
}
