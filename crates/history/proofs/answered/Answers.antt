-- `history::answered` meets its contract, by the theorem.
use Rattle.history.proofs.Responses.{answering}
use Rattle.history.proofs.answered.Goals as goal

pub returns : goal.returns
returns c = answering
