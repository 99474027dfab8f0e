-- `ticks::promises` meets its contract, by the theorems.
use Rattle.ticks.proofs.Theorems.{leaves_exactly, leaves_next, waits_for_each, messages_do_not_move, sixteen, ends_in_time}
use Rattle.ticks.proofs.When.{leaves_when}
use Rattle.ticks.proofs.Why.{over_for_a_cause}
use Rattle.ticks.proofs.promises.Goals as goal

pub returns : goal.returns
returns c = record {
  exactly = leaves_exactly;
  when = leaves_when;
  next = leaves_next;
  waits = waits_for_each;
  unmoved = messages_do_not_move;
  sixteen = sixteen;
  in_time = ends_in_time;
  cause = over_for_a_cause;
}
