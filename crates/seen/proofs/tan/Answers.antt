-- `seen::tan` meets its contract, by the theorems.
use Rattle.seen.proofs.Counting.{tan}
use Rattle.seen.proofs.tan.Goals as goal

pub returns : goal.returns
returns c = tan
