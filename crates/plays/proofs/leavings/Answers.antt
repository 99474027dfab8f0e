-- `plays::leavings` meets its contract, by the theorems.
use Rattle.plays.proofs.Runs.{given_whole}
use Rattle.plays.proofs.Theorems.{starts, fixed, leaves_exactly, not_yet_due, calls_do_not_move, tans}
use Rattle.plays.proofs.leavings.Goals as goal

pub returns : goal.returns
returns c = record {
  whole = given_whole;
  begins = starts;
  fixed = fixed;
  exactly = leaves_exactly;
  not_yet_due = not_yet_due;
  unmoved = calls_do_not_move;
  tans = tans;
}
