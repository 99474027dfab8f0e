-- `octets::label::label_at` meets its contract: the bytes that there are stand in the first cells, and the others are 0.
use Prim.Native.Nat.{min}
use native.Mathlib.Omega.{arith}
use Rattle.octets.specs.Label.{label_at}
use Rattle.octets.proofs.Cells.{part_of_cells}
use Rattle.octets.proofs.label.label_at.Goals as goal

pub returns : goal.returns
unfolding label_at
returns c =
    let a = c.args in
    rw (c.copy_from_slice.ensures.after, c.part-named.ensures, c.min-count.ensures, part_of_cells 63 (min a.n 63) a.s.now a.i (omega arith))
