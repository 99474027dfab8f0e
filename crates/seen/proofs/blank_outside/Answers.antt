-- `seen::blank_outside` meets its contract, by the theorems.
use Rattle.seen.proofs.Rest.{blank_outside}
use Rattle.seen.proofs.blank_outside.Goals as goal

pub returns : goal.returns
returns c = blank_outside
