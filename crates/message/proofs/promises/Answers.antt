-- `message::promises` meets its contract, by the theorems.
use Rattle.message.proofs.Back.{comes_back}
use Rattle.message.proofs.Refuses.{refuses}
use Rattle.message.proofs.Cases.{cases}
use Rattle.message.proofs.promises.Goals as goal

pub returns : goal.returns
returns c = record { comes_back = comes_back; refuses = refuses; message_cases = cases }
