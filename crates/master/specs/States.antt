-- 01, "Clients and states", the master's states: inactive, ready, record, record complete, playback, abort.
use Rattle.std.specs.Prelude.{ℕ, Bool, not, ◌&&◌, ◌||◌, eqb, leb, set, replicate}
use Rattle.octets.specs.Pick.{pick}
use Rattle.arrays.specs.Arrays.{some}
use Rattle.client.specs.Clients.{is_other, abort_report, blank_slot}
use Rattle.client.specs.declared.Client.{Client}
use Rattle.sequence.specs.{Sequence.blank_sequence, declared.Sequence.Sequence}
use Rattle.recording.specs.{State.blank_recording, declared.Recording.Recording}
use Rattle.playback.specs.{State.blank_playback, declared.Playback.Playback}
use Rattle.master.specs.declared.Master.{Master}

-- a state; the numbering is the library's own; a number above 5, which no call gives, counts as abort
abbrev pub inactive : ℕ
inactive = 0

abbrev pub ready : ℕ
ready = 1

abbrev pub recording : ℕ
recording = 2

abbrev pub record_complete : ℕ
record_complete = 3

abbrev pub playback : ℕ
playback = 4

abbrev pub abort : ℕ
abort = 5

abbrev pub is_inactive : Master → Bool
is_inactive m = eqb m.state inactive

abbrev pub is_ready : Master → Bool
is_ready m = eqb m.state ready

-- record or record complete
abbrev pub is_recording : Master → Bool
is_recording m = eqb m.state recording || eqb m.state record_complete

abbrev pub is_playing : Master → Bool
is_playing m = eqb m.state playback

abbrev pub is_aborting : Master → Bool
is_aborting m = leb abort m.state

-- ---- one part of the master replaced

abbrev pub with_state : Master → ℕ → Master
with_state m state = record { state = state; tan = m.tan; slots = m.slots; sequence = m.sequence; recording = m.recording; playback = m.playback }

abbrev pub with_slot : Master → ℕ → Client → Master
with_slot m slot s =
    record { state = m.state; tan = m.tan; slots = set m.slots slot s; sequence = m.sequence; recording = m.recording; playback = m.playback }

abbrev pub with_sequence : Master → Sequence → Master
with_sequence m q = record { state = m.state; tan = m.tan; slots = m.slots; sequence = q; recording = m.recording; playback = m.playback }

abbrev pub with_recording : Master → Recording → Master
with_recording m r = record { state = m.state; tan = m.tan; slots = m.slots; sequence = m.sequence; recording = r; playback = m.playback }

abbrev pub with_playback : Master → ℕ → Playback → Master
with_playback m tan p = record { state = m.state; tan = tan; slots = m.slots; sequence = m.sequence; recording = m.recording; playback = p }

-- ---- transitions

-- the master as it is made: "The TAN starts at 0 when the master is made"
unfoldable pub new_master : Master
new_master = record {
  state = inactive;
  tan = 0;
  slots = replicate 8 blank_slot;
  sequence = blank_sequence;
  recording = blank_recording;
  playback = blank_playback;
}

-- a recording or a playback is over, and nothing of it is left; the sequence is kept
unfoldable pub ended : Master → ℕ → Master
ended m state =
    record { state = state; tan = m.tan; slots = m.slots; sequence = m.sequence; recording = blank_recording; playback = blank_playback }

-- "Abort goes to ready at the first later report, loss or tick where every enabled client's last report is abort."
unfoldable pub settled : Master → Master
settled m = pick (is_aborting m && not (some (is_other abort_report) m.slots)) (with_state m ready) m
