-- `pool::ranges::shown_right` meets its contract: its result is what the definition makes of what the callees return.
use Rattle.pool.proofs.ranges.shown_right.Goals as goal

pub returns : goal.returns
returns c = cc
