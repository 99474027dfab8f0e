-- `pool::fields::head_at` meets its contract: the tests that led to a return say which case of the definition holds.
use borrow.Author.Tests.{eq-eqb, ne_eqb}
use Rattle.octets.specs.Pick.{pick}
use Rattle.pool.specs.Fields.{head_at}
use Rattle.pool.proofs.fields.head_at.Goals as goal

pub returns-then-kind-eq-BASE_TYPE : goal.returns-then-kind-eq-BASE_TYPE
unfolding head_at pick
returns-then-kind-eq-BASE_TYPE c = simp (← c.kind_at-kind.ensures, eq-eqb _ _ c.if-kind-eq-BASE_TYPE.true, c.base_at.ensures)

pub returns-then-kind-eq-FUNCTION_TYPE : goal.returns-then-kind-eq-FUNCTION_TYPE
unfolding head_at pick
returns-then-kind-eq-FUNCTION_TYPE c = simp (← c.kind_at-kind.ensures, ne_eqb _ _ c.if-kind-eq-BASE_TYPE.false, eq-eqb _ _ c.if-kind-eq-FUNCTION_TYPE.true, c.function_at.ensures)

pub returns : goal.returns
unfolding head_at pick
returns c = simp (← c.kind_at-kind.ensures, ne_eqb _ _ c.if-kind-eq-BASE_TYPE.false, ne_eqb _ _ c.if-kind-eq-FUNCTION_TYPE.false, c.state_at.ensures)
