-- `plays::five_a_second` meets its contract, by the theorem.
use Rattle.plays.proofs.FiveASecond.{five_a_second}
use Rattle.plays.proofs.five_a_second.Goals as goal

pub returns : goal.returns
returns c = five_a_second
