-- `seen::ways` meets its contract, by the theorems.
use Rattle.seen.proofs.Leaving.{ways}
use Rattle.seen.proofs.ways.Goals as goal

pub returns : goal.returns
returns c = ways
