-- 01, "Clients and states" and "Verification and playback": the way into a playback and out of it, E.3 and E.7.
use Rattle.std.specs.Prelude.{ℕ, not, ◌&&◌, List, [], ◌∷◌, eqb}
use Rattle.octets.specs.Pick.{pick}
use Rattle.octets.specs.Numbers.{completed, too_short, wrong_state, wrong_slot, wrong_value, not_expected, no_step, not_enabled, name_differs, label_differs, not_in_pool, not_ready, no_match}
use Rattle.client.specs.{Clients.is_enabled, declared.Client.Client}
use Rattle.playback.specs.State.{to_ready, to_abort, same_end, blank_playback}
use Rattle.playback.specs.{Verification.verify_of, Answer.answered_of, Answer.Answered}
use Rattle.master.specs.declared.Master.{Master}
use Rattle.master.specs.Call.{Call, bare, slot_at, is_absent}
use Rattle.master.specs.Messages.{is_abort, is_answer, reply_in, receipt_out}
use Rattle.master.specs.States.{ready, playback, abort, is_inactive, is_ready, is_playing, with_state, with_playback, ended}

-- "Start, from ready: 7; then .."
unfoldable pub start_call : Master → Call
start_call m =
    bare (completed ∷ wrong_state ∷ no_step ∷ not_enabled ∷ name_differs ∷ label_differs ∷ not_in_pool ∷ not_ready ∷ []) (not (is_ready m)) (verify_of m.slots m.sequence) (with_state (with_playback m m.tan blank_playback) playback)

-- "Playback goes .. to abort on the operator's word"
unfoldable pub abort_call : Master → Call
abort_call m = bare (completed ∷ wrong_state ∷ []) (not (is_playing m)) completed (ended m abort)

-- "to abort on .. E.3 from an enabled client"; "E.3 otherwise gives 5."
unfoldable pub unheeded : ℕ → Client → ℕ
unheeded state s = pick (eqb state playback && is_enabled s) completed not_expected

unfoldable pub client_abort_call : Master → ℕ → List ℕ → Call
client_abort_call m slot msg = record {
  numbers = completed ∷ wrong_value ∷ wrong_slot ∷ wrong_state ∷ not_expected ∷ [];
  lent = [];
  needs = 0;
  wrong = not (is_abort msg);
  absent = is_absent m slot;
  barred = is_inactive m;
  own = unheeded m.state (slot_at m slot);
  code = 0;
  object = 0;
  after = ended m abort;
  count = 0;
  written = [];
}

-- ---- E.7

abbrev pub answered : Master → ℕ → List ℕ → Answered
answered m slot msg = answered_of m.playback m.sequence slot (reply_in msg)

-- "An E.7 must match slot, TAN, function and state of a sent step, else 15; outside playback no step counts as sent."
unfoldable pub unmatched : ℕ → ℕ → ℕ
unmatched state number = pick (eqb state playback) number no_match

-- "Playback goes to ready when all steps are done; to abort on .. an error answer"
unfoldable pub replied : Master → Answered → Master
replied m a =
    pick (same_end a.end to_ready) (ended m ready)
    (pick (same_end a.end to_abort) (ended m abort)
    (with_playback m m.tan a.playback))

unfoldable pub answer_call : Master → ℕ → List ℕ → List ℕ → Call
answer_call m slot msg out = record {
  numbers = completed ∷ too_short ∷ wrong_value ∷ wrong_slot ∷ wrong_state ∷ no_match ∷ [];
  lent = out;
  needs = 8;
  wrong = not (is_answer msg);
  absent = is_absent m slot;
  barred = is_inactive m;
  own = unmatched m.state (answered m slot msg).number;
  code = 0;
  object = 0;
  after = replied m (answered m slot msg);
  count = 0;
  -- "It is acknowledged with E.8."
  written = receipt_out (reply_in msg) out;
}
