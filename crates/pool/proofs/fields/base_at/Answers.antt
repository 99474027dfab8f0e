-- `pool::fields::base_at` meets its contract: its result is what the definition makes of what the callees return.
use Rattle.pool.proofs.fields.base_at.Goals as goal

pub returns : goal.returns
returns c = cc
