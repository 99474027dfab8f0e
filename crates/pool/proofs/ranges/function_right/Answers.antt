-- `pool::ranges::function_right` meets its contract: where one of the other fields is not right, the value does not count.
use Rattle.pool.proofs.ranges.function_right.Goals as goal

pub returns-then-not-others : goal.returns-then-not-others
returns-then-not-others c =
    rw (← c.number_right.ensures, ← c.trigger_right.ensures, ← c.names_right.ensures, c.if-not-others.true)

pub returns : goal.returns
returns c =
    rw (← c.number_right.ensures, ← c.trigger_right.ensures, ← c.names_right.ensures, c.if-not-others.false)
    c.value_right.ensures
