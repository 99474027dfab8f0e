-- `seen::numbers` meets its contract, by the theorems.
use Rattle.seen.proofs.Telling.{numbers}
use Rattle.seen.proofs.numbers.Goals as goal

pub returns : goal.returns
returns c = numbers
