-- `seen::written` meets its contract, by the theorems.
use Rattle.seen.proofs.Bytes.{written}
use Rattle.seen.proofs.written.Goals as goal

pub returns : goal.returns
returns c = written
