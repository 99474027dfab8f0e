-- `flat::read` meets its contract: what its callees ensure.
use Rattle.flat.specs.Flat.{reading_of}
use Rattle.flat.proofs.read.Goals as goal

pub returns-in-Ok : goal.returns-in-Ok
unfolding reading_of
returns-in-Ok c = rw (← c.in-Ok.ensures, c.from.ensures)

pub returns-in-Err : goal.returns-in-Err
unfolding reading_of
returns-in-Err c = rw (← c.in-Err.ensures, c.bare_flat.ensures, c.number.ensures, c.blank.ensures)
