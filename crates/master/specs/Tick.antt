-- 01, "Recording" and "Verification and playback": a tick.
use Rattle.std.specs.Prelude.{ℕ, false, List, [], ◌∷◌, ◌++◌, leb, ltb, drop, replicate}
use Rattle.octets.specs.Pick.{pick}
use Rattle.octets.specs.Numbers.{completed, too_short, wrong_state, wrong_value}
use Rattle.sequence.specs.Sequence.{last_tick}
use Rattle.recording.specs.Indication as recording
use Rattle.recording.specs.declared.Recording.{Recording}
use Rattle.playback.specs.Tick as playback
use Rattle.playback.specs.{Frames.frames_of, Frames.frame_count_of, Tick.Ticked, State.goes_on, State.same_end}
use Rattle.master.specs.{declared.Master.Master, Call.Call}
use Rattle.master.specs.States.{ready, abort, is_inactive, is_recording, is_playing, with_recording, with_playback, ended, settled}

-- "in both, .. tick 36,000 goes to ready and keeps the old sequence"
unfoldable pub recording_ticked : Master → ℕ → Master
recording_ticked m mm =
    let r : Recording = recording.counted_recording m.recording mm in
    pick (leb last_tick r.ticks) (ended m ready) (with_recording m r)

-- "or by the tick rules"
unfoldable pub playback_ticked : Master → ℕ → Master
playback_ticked m mm =
    let t : Ticked = playback.tick_of m.playback m.sequence m.tan mm in
    pick (same_end t.end goes_on) (with_playback m t.tan t.playback) (ended m abort)

-- "Abort goes to ready at the first later .. tick where every enabled client's last report is abort."
unfoldable pub ticked : Master → ℕ → Master
ticked m mm = pick (is_recording m) (recording_ticked m mm) (pick (is_playing m) (playback_ticked m mm) (settled m))

-- "An aborting tick, or one in another active state, writes 576 zero bytes, count 0.": of the master after the tick
unfoldable pub no_frames : List ℕ
no_frames = replicate 576 0

unfoldable pub frames_in : Master → List ℕ
frames_in m = pick (is_playing m) (frames_of m.playback m.sequence.steps) no_frames

-- 02, 6: "The frame count becomes the frames really written": those of the playback's tick
unfoldable pub count_in : Master → ℕ
count_in m = pick (is_playing m) (frame_count_of m.playback.ticks m.playback.sent m.playback.commands) 0

unfoldable pub tick_call : Master → ℕ → List ℕ → Call
tick_call m mm out = record {
  numbers = completed ∷ too_short ∷ wrong_value ∷ wrong_state ∷ [];
  lent = out;
  needs = 576;
  -- "4 .. a tick of more than 65,535 mm"
  wrong = ltb 65535 mm;
  absent = false;
  -- "While the master is inactive, every call on it but "on" gives 2"
  barred = is_inactive m;
  own = completed;
  code = 0;
  object = 0;
  after = ticked m mm;
  count = count_in (ticked m mm);
  -- "A tick fills a frame buffer of 576 bytes .. Bytes past 576 stay."
  written = frames_in (ticked m mm) ++ drop 576 out;
}
