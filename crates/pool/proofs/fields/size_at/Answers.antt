-- `pool::fields::size_at` meets its contract: its result is what the definition makes of what the callees return.
use borrow.Author.Rules.{rules}
use Rattle.pool.proofs.fields.size_at.Goals as goal

pub returns : goal.returns
returns c = record { value = cc; upper_bound = search rules }
