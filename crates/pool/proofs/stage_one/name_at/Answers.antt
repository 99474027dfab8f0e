-- `pool::stage_one::name_at` meets its contract: the tests that led to a return say which case of the definition holds.
use borrow.Author.Tests.{lt-ltb, le-ltb}
use Rattle.octets.specs.Pick.{pick}
use Rattle.pool.specs.StageOne.{name_at}
use Rattle.pool.proofs.stage_one.name_at.Goals as goal

pub returns-then-s-at-lt3 : goal.returns-then-s-at-lt3
unfolding name_at pick
returns-then-s-at-lt3 c = simp (lt-ltb _ _ c.if-s-at-lt3.true)

pub returns : goal.returns
unfolding name_at pick
returns c = simp (le-ltb _ _ c.if-s-at-lt3.false) c.object_number.ensures
