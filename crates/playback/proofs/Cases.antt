-- The cases, closed by computation.
use mathlib.Core.Path.{refl}
use Rattle.octets.specs.Pick.{pick}
use Rattle.arrays.specs.Arrays.{more}
use Rattle.client.specs.Records.{blank_record}
use Rattle.playback.specs.State.{blank_playback}
use Rattle.playback.specs.Tick.{counted_playback, some_late, does_stop, does_leave, next_tan, after_leaving, tick_of}
use Rattle.playback.specs.Frames.{frame_count_of}
use Rattle.playback.specs.Answer.{find_answered, answer_from, with_answer, some_undone, is_all_done, answered_of}
use Rattle.playback.specs.Cases.{Cases}

pub cases : Cases
unfolding pick more blank_record blank_playback counted_playback some_late does_stop does_leave next_tan after_leaving tick_of frame_count_of find_answered answer_from with_answer some_undone is_all_done answered_of
cases = record { time = refl; distance = refl; in_time = refl; too_late = refl; keeps_on = refl; repeated = refl; in_turn = refl; together = refl }
