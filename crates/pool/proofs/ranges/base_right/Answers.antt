-- `pool::ranges::base_right` meets its contract: its result is what the definition makes of what the callees return.
use Rattle.pool.proofs.ranges.base_right.Goals as goal

pub returns : goal.returns
returns c = cc
