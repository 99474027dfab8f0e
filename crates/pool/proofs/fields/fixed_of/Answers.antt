-- `pool::fields::fixed_of` meets its contract: the tests that led to a return say which case of the definition holds.
use borrow.Author.Rules.{rules}
use Rattle.octets.proofs.Tests.{tests}
use Rattle.pool.specs.Fields.{fixed_of}
use Rattle.pool.proofs.fields.fixed_of.Goals as goal

pub returns-then-kind-eq-BASE_TYPE : goal.returns-then-kind-eq-BASE_TYPE
unfolding fixed_of
returns-then-kind-eq-BASE_TYPE c = record { value = search tests; upper_bound = search rules }

pub returns-then-kind-eq-FUNCTION_TYPE : goal.returns-then-kind-eq-FUNCTION_TYPE
unfolding fixed_of
returns-then-kind-eq-FUNCTION_TYPE c = record { value = search tests; upper_bound = search rules }

pub returns : goal.returns
unfolding fixed_of
returns c = record { value = search tests; upper_bound = search rules }
