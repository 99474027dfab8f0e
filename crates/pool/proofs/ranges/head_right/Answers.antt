-- `pool::ranges::head_right` meets its contract: its result is what the definition makes of what the callees return.
use Rattle.pool.proofs.ranges.head_right.Goals as goal

pub returns-in-Base : goal.returns-in-Base
returns-in-Base c = rw c.in-Base.is c.base_right.ensures

pub returns-in-Function : goal.returns-in-Function
returns-in-Function c = rw c.in-Function.is c.function_right.ensures

pub returns-in-State : goal.returns-in-State
returns-in-State c = rw c.in-State.is c.state_right.ensures
