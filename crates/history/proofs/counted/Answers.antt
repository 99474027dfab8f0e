-- `history::counted` meets its contract, by the theorem.
use Rattle.history.proofs.Ticks.{counting}
use Rattle.history.proofs.counted.Goals as goal

pub returns : goal.returns
returns c = counting
