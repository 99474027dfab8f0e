-- `replay::promises` meets its contract, by the theorems.
use Rattle.replay.proofs.Tans.{raised_tans}
use Rattle.replay.proofs.Theorems.{leaves_exactly, not_yet_due, messages_do_not_move, sixteen}
use Rattle.replay.proofs.Why.{ends_in_time, over_for_a_cause, all_done}
use Rattle.replay.proofs.promises.Goals as goal

pub returns : goal.returns
returns c = record {
  exactly = leaves_exactly;
  waits = not_yet_due;
  tans = λ sequence whole tan. raised_tans tan sequence whole;
  unmoved = messages_do_not_move;
  sixteen = sixteen;
  in_time = ends_in_time;
  cause = over_for_a_cause;
  all_done = all_done;
}
