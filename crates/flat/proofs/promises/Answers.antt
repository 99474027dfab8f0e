-- `flat::promises` meets its contract, by the theorem.
use Rattle.flat.proofs.Again.{back_again}
use Rattle.flat.proofs.promises.Goals as goal

pub returns : goal.returns
returns c = back_again
