-- The reader `verify` names the check by which a start is refused, by what crate playback proves of its place.
use mathlib.Core.Path.{sym, ◌∙◌}
use Rattle.playback.specs.Places.{Cells}
use Rattle.playback.proofs.Placed.{places}
use Rattle.master.specs.{declared.Master.Master, Readers.verify_view}
use Rattle.events.specs.{Events.Given, Named.NamedCheck}
use Rattle.events.proofs.Playable.{given_eight}
use Rattle.events.proofs.Regular.{given_regular, length_steps}
use Rattle.events.proofs.Starts.{ready_number}

cells : (m : Master) → Given m → Cells m.slots m.sequence
cells m g =
    let q = (given_regular m g).sequence in
    record { in_slots = given_eight m g; in_records = q.slots; in_steps = length_steps m.sequence q }

pub named : NamedCheck
unfolding verify_view
named = record {
  number = λ m s. ready_number m s ∙ sym (places.number m.slots m.sequence);
  client = λ m g. places.client m.slots m.sequence (cells m g);
  step = λ m g. places.step m.slots m.sequence (cells m g);
  report = λ m g. places.report m.slots m.sequence (cells m g);
  without_step = λ m. places.without_step m.slots m.sequence;
  no_slot = λ m. places.no_slot m.slots m.sequence;
}
