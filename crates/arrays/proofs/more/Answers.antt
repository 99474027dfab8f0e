-- `arrays::more` meets its contract: the library's sum is the definition's.
use Rattle.std.proofs.Common.{rules}
use Rattle.arrays.specs.Arrays.{more}
use Rattle.arrays.proofs.more.Goals as goal

pub returns : goal.returns
unfolding more
returns c = search rules
