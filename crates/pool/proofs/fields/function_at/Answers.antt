-- `pool::fields::function_at` meets its contract: its result is what the definition makes of what the callees return.
use Rattle.pool.proofs.fields.function_at.Goals as goal

pub returns : goal.returns
returns c = cc
