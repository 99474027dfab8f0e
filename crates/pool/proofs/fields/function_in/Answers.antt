-- `pool::fields::function_in` meets its contract: its result is what the definition makes of what the callees return.
use Rattle.pool.proofs.fields.function_in.Goals as goal

pub returns : goal.returns
returns c = cc
