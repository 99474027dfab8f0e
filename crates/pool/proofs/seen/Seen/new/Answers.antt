-- `pool::seen::Seen::new` meets its contract: no bit is set.
use Rattle.pool.proofs.Repeats.{seen_none}
use Rattle.pool.proofs.seen.Seen.new.Goals as goal

pub returns : goal.returns
returns c = seen_none
