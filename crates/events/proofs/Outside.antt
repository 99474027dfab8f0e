-- What ends a playback from outside, as the calls have it: any call but a tick and an answer. Crate plays says why a playback ends, in the words of what is
-- seen.
use Prim.Native.Nat.{ℕ}
use mathlib.Core.Path.{◌≡◌}
use mathlib.Core.Bool.{true}
use mathlib.Core.Logic.{◌⊎◌}
use mathlib.Core.List.{List}
use Rattle.message.specs.Fields.{status_number}
use Rattle.client.specs.Clients as client
use Rattle.client.specs.Clients.{is_enabled}
use Rattle.playback.specs.Answer.{has_function}
use Rattle.master.specs.{declared.Master.Master, Call.slot_at}
use Rattle.master.specs.Messages.{is_abort, is_indication, execution_in}
use Rattle.events.specs.Events.{Event, abort, report, lost, indication, client_abort}

-- why a call ends the playback of m from outside
pub data Outside (m : Master) : Event → Type 0 where
  -- "the operator's word"
  operator : Outside m abort
  -- "E.3 from an enabled client"
  client_aborts : (slot : ℕ) (msg : List ℕ) → is_abort msg ≡ true → is_enabled (slot_at m slot) ≡ true → Outside m (client_abort slot msg)
  -- "an enabled client lost"
  client_lost : (slot : ℕ) → is_enabled (slot_at m slot) ≡ true → Outside m (lost slot)
  -- "disabled, or reporting record or abort"
  client_reports : (slot number : ℕ) → is_enabled (slot_at m slot) ≡ true
      → ((number ≡ client.disabled_report) ⊎ ((number ≡ client.record_report) ⊎ (number ≡ client.abort_report))) → Outside m (report slot number)
  -- "an E.4 as below": of status 11 from an enabled client, if its function is a step of the sequence
  interrupts : (slot : ℕ) (msg out : List ℕ) → is_indication msg ≡ true → is_enabled (slot_at m slot) ≡ true → status_number (execution_in msg).status ≡ 0b11
      → has_function m.sequence slot (execution_in msg).function ≡ true → Outside m (indication slot msg out)
