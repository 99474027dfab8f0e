-- `objects::read::list_at` meets its contract. The loop's invariant: the cells filled from the start are the cells filled from here.
use Prim.Native.Nat.{◌≤◌}
use mathlib.Core.Path.{◌≡◌}
use lib.ListN.{drop}
use lib.Seq.{sets}
use Rattle.pool.specs.Fields.{numbers_at}
use Rattle.objects.specs.Objects.{cells}
use Rattle.objects.proofs.read.list_at.Given as goal

abbrev pub invariant-loop-k : goal.invariant-loop-k
invariant-loop-k l = (cells 255 (numbers_at 2 l.s l.i l.n) ≡ sets l.list l.k (drop l.k (numbers_at 2 l.s l.i l.n))) × (l.k ≤ l.n)
