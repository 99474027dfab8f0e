-- `pool::fields::rest_at` meets its contract: the tests that led to a return say which case of the definition holds.
use borrow.Author.Rules.{rules}
use borrow.Author.Tests.{eq-eqb, ne_eqb}
use Rattle.octets.specs.Pick.{pick}
use Rattle.pool.specs.Fields.{rest_at}
use Rattle.pool.proofs.fields.rest_at.Goals as goal

pub returns-then-kind-eq-BASE_TYPE : goal.returns-then-kind-eq-BASE_TYPE
unfolding rest_at pick
returns-then-kind-eq-BASE_TYPE c =
    record { value = simp (← c.kind_at-kind.ensures, eq-eqb _ _ c.if-kind-eq-BASE_TYPE.true) (cc); upper_bound = search rules }

pub returns-then-kind-eq-FUNCTION_TYPE : goal.returns-then-kind-eq-FUNCTION_TYPE
unfolding rest_at pick
returns-then-kind-eq-FUNCTION_TYPE c =
    record { value = simp (← c.kind_at-kind.ensures, ne_eqb _ _ c.if-kind-eq-BASE_TYPE.false, eq-eqb _ _ c.if-kind-eq-FUNCTION_TYPE.true) (cc); upper_bound = search rules }

pub returns : goal.returns
unfolding rest_at pick
returns c = record { value = simp (← c.kind_at-kind.ensures, ne_eqb _ _ c.if-kind-eq-BASE_TYPE.false, ne_eqb _ _ c.if-kind-eq-FUNCTION_TYPE.false); upper_bound = search rules }
