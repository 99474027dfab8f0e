-- `pool::stage_two::is_forbidden` meets its contract: the list is the definition's.
use borrow.Author.Rules.{rules}
use Rattle.pool.specs.StageTwo.{is_in}
use Rattle.pool.proofs.stage_two.is_forbidden.Goals as goal

pub returns : goal.returns
unfolding is_in
returns c = search rules
