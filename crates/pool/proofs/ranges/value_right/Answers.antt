-- `pool::ranges::value_right` meets its contract: the attribute says which of the three cases holds.
use mathlib.Core.Bool.{or-false}
use borrow.Author.Tests.{ne_eqb}
use Rattle.pool.proofs.ranges.value_right.Goals as goal

pub returns-then-h-eq0 : goal.returns-then-h-eq0
returns-then-h-eq0 c = rw (c.if-h-eq0.true, or-false, or-false) c.unshown_right.ensures

pub returns-then-h-eq1 : goal.returns-then-h-eq1
returns-then-h-eq1 c = rw (c.if-h-eq1.true, or-false, c.shown_right.ensures)

pub returns : goal.returns
returns c =
    rw (ne_eqb _ _ c.if-h-eq0.false, ne_eqb _ _ c.if-h-eq1.false, c.shown_right-2.ensures)
