-- `pool::stage_one::base_from` meets its contract: the tests say which case of the definition holds.
use mathlib.Core.Path.{sym}
use Rattle.pool.specs.StageTwo.{is_object}
use Rattle.pool.proofs.Base.{met_before, met_here, met_not_here}
use Rattle.pool.proofs.stage_one.base_from.Goals as goal

pub returns-then-is_some-clause-place : goal.returns-then-is_some-clause-place
returns-then-is_some-clause-place c = met_before c.args.s.now c.args.at c.args.base (sym c.if-is_some.ensures) c.requires.base_in

pub returns-then-number-kind-clause-place : goal.returns-then-number-kind-clause-place
unfolding is_object
returns-then-number-kind-clause-place c =
    met_here c.args.s.now c.args.at c.args.base (sym c.if-is_some.ensures) (rw (← c.object_number-number.ensures, ← c.kind_at-kind.ensures) c.if-number-kind.true)

pub returns-else-number-kind-clause-place : goal.returns-else-number-kind-clause-place
unfolding is_object
returns-else-number-kind-clause-place c =
    met_not_here c.args.s.now c.args.at c.args.base (sym c.if-is_some.ensures) (rw (← c.object_number-number.ensures, ← c.kind_at-kind.ensures) c.if-number-kind.false)
