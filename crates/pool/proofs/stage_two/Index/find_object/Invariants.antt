-- `pool::stage_two::Index::find_object` meets its contract. The loop's invariant: the first such object is the first from here, and here is in its
-- number's chain. The measure is what is left of the places.
use Prim.Native.Nat.{◌-◌, ◌%◌, ◌<◌}
use mathlib.Core.Path.{◌≡◌}
use mathlib.Core.Bool.{true}
use lib.ListN.{length, get_or, drop}
use Rattle.pool.specs.Search.Index.{in_chain}
use Rattle.pool.specs.StageTwo.{find, is_object}
use Rattle.pool.proofs.stage_two.Index.find_object.Given as goal

abbrev pub invariant-loop-i : goal.invariant-loop-i
invariant-loop-i l =
    (find (is_object l.self.pool.now l.kind l.n) l.self.places.now (length l.self.pool.now) ≡ find (is_object l.self.pool.now l.kind l.n) (drop l.i l.self.places.now) (length l.self.pool.now)) × (l.i < length l.self.places.now → in_chain l.self.pool.now (l.n % 16384) (get_or l.self.places.now l.i 0) ≡ true)

abbrev pub decreases-loop-i : goal.decreases-loop-i
decreases-loop-i l = length l.self.places.now - l.i
