-- `history::attached` meets its contract, by the theorem.
use Rattle.history.proofs.Slots.{attaching}
use Rattle.history.proofs.attached.Goals as goal

pub returns : goal.returns
returns c = attaching
