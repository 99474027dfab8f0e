-- 01, "Clients and states" and "Recording": the way into a recording and out of it, and E.4, in recordings and in playback.
use Rattle.std.specs.Prelude.{ℕ, Bool, not, ◌&&◌, ◌||◌, List, [], ◌∷◌, eqb}
use Rattle.octets.specs.Pick.{pick}
use Rattle.octets.specs.Numbers.{completed, too_short, wrong_state, wrong_slot, wrong_value, not_expected, not_ready, none_enabled}
use Rattle.arrays.specs.Arrays.{some}
use Rattle.message.specs.{Fields.status_number, declared.Execution.Execution}
use Rattle.client.specs.Clients as client
use Rattle.client.specs.{Clients.is_enabled, Clients.is_other, declared.Client.Client}
use Rattle.recording.specs.{State.blank_recording, Indication.has_open, Indication.heard_of, Kept.kept_sequence, declared.Recording.Recording}
use Rattle.recording.specs.Indication.{Heard}
use Rattle.playback.specs.Answer.{has_function}
use Rattle.master.specs.declared.Master.{Master}
use Rattle.master.specs.Call.{Call, bare, slot_at, is_absent}
use Rattle.master.specs.Messages.{is_indication, execution_in, response_out}
use Rattle.master.specs.States.{ready, recording, record_complete, playback, abort, is_inactive, is_ready, is_recording, is_playing, with_state, with_sequence, with_recording, ended}

-- "Ready to record: 14, then 12.": "14 no enabled client", "12 a client is not reporting ready"
unfoldable pub unready : Bool → Bool → ℕ
unready enabled other = pick (not enabled) none_enabled (pick other not_ready completed)

unfoldable pub record_call : Master → Call
record_call m =
    bare (completed ∷ wrong_state ∷ none_enabled ∷ not_ready ∷ []) (not (is_ready m)) (unready (some is_enabled m.slots) (some (is_other client.ready_report) m.slots))
    (with_state (with_recording m blank_recording) recording)

-- the recording ends: what stays of it is the sequence
unfoldable pub recording_ended : Master → Master
recording_ended m = ended (with_sequence m (kept_sequence m.recording m.sequence)) ready

-- "Record: stop goes to record complete if a step is open, else ready"
unfoldable pub stopped : Master → Master
stopped m = pick (has_open m.recording) (with_state m record_complete) (recording_ended m)

unfoldable pub stop_call : Master → Call
stop_call m = bare (completed ∷ wrong_state ∷ []) (not (eqb m.state recording)) completed (stopped m)

-- "in both, cancel .. goes to ready and keeps the old sequence"
unfoldable pub cancel_call : Master → Call
cancel_call m = bare (completed ∷ wrong_state ∷ []) (not (is_recording m)) completed (ended m ready)

-- ---- E.4

-- "An E.4 counts if its client is enabled and last reported record, in record or record complete"
abbrev pub is_counted : ℕ → Client → Bool
is_counted state s = (eqb state recording || eqb state record_complete) && is_enabled s && eqb s.report client.record_report

-- "In playback an E.4 of status 11 from an enabled client"
abbrev pub is_interruption : ℕ → Client → Execution → Bool
is_interruption state s e = eqb state playback && is_enabled s && eqb (status_number e.status) 0b11

-- "else 5, but for status 11 in playback"
unfoldable pub untimely : ℕ → Client → Execution → ℕ
untimely state s e = pick (is_counted state s) completed (pick (is_interruption state s e) completed not_expected)

-- "record complete goes to ready when none is open"
unfoldable pub recorded : Master → Recording → Master
recorded m r =
    let heard : Master = with_recording m r in
    pick (eqb m.state record_complete && not (has_open r)) (recording_ended heard) heard

-- what an E.4 that is not refused does: the error of E.5, and the master after it
pub record Hearing : Type 0 where
  pub error : ℕ
  pub master : Master

-- "is answered with error 06 and aborts if that client's function is a step of the sequence; if not, it is answered FF and changes nothing"
unfoldable pub interrupted : Master → ℕ → ℕ → Hearing
interrupted m slot function =
    pick (has_function m.sequence slot function)
    (record { error = 0x06; master = ended m abort })
    (record { error = 0xFF; master = m })

abbrev pub recording_heard : Master → ℕ → Client → Execution → Heard
recording_heard m slot s e = heard_of m.recording slot s (eqb m.state record_complete) e

unfoldable pub heard : Master → ℕ → Client → Execution → Hearing
heard m slot s e =
    pick (is_playing m) (interrupted m slot e.function)
    (record { error = (recording_heard m slot s e).error; master = recorded m (recording_heard m slot s e).recording })

unfoldable pub indication_call : Master → ℕ → List ℕ → List ℕ → Call
indication_call m slot msg out = record {
  numbers = completed ∷ too_short ∷ wrong_value ∷ wrong_slot ∷ wrong_state ∷ not_expected ∷ [];
  lent = out;
  needs = 8;
  wrong = not (is_indication msg);
  absent = is_absent m slot;
  barred = is_inactive m;
  own = untimely m.state (slot_at m slot) (execution_in msg);
  code = 0;
  object = 0;
  after = (heard m slot (slot_at m slot) (execution_in msg)).master;
  count = 0;
  written = response_out (execution_in msg) (heard m slot (slot_at m slot) (execution_in msg)).error out;
}
