-- `seen::all_enabled` meets its contract, by the theorems.
use Rattle.seen.proofs.Serving.{all_enabled}
use Rattle.seen.proofs.all_enabled.Goals as goal

pub returns : goal.returns
returns c = all_enabled
