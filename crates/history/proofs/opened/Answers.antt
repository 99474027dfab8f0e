-- `history::opened` meets its contract, by the theorem.
use Rattle.history.proofs.Opens.{opening}
use Rattle.history.proofs.opened.Goals as goal

pub returns : goal.returns
returns c = opening
