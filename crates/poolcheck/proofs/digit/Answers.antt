-- `poolcheck::digit` meets its contract: the test says which case of the definition holds.
use Rattle.poolcheck.specs.Line.{digit_of}
use Rattle.octets.proofs.Tests.{tests}
use Rattle.poolcheck.proofs.digit.Goals as goal

pub returns-then-n-lt10 : goal.returns-then-n-lt10
unfolding digit_of
returns-then-n-lt10 c = search tests

pub returns-else-n-lt10 : goal.returns-else-n-lt10
unfolding digit_of
returns-else-n-lt10 c = search tests
