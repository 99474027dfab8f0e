-- A playback in which nothing has left has no frames.
use mathlib.Core.Path.{◌≡◌, refl, sym}
use mathlib.Core.List.{List}
use Rattle.arrays.proofs.Fill.{pad_none}
use Rattle.sequence.specs.declared.Step.{Step}
use Rattle.playback.specs.State.{blank_playback}
use Rattle.playback.specs.Frames.{frames_of, filled_of, frame_count_of}
use Rattle.master.specs.Tick.{no_frames}

pub without_frames : (steps : List Step) → frames_of blank_playback steps ≡ no_frames
unfolding frames_of filled_of blank_playback no_frames
without_frames steps = sym (pad_none 0 576)

pub none_counted : frame_count_of blank_playback.ticks blank_playback.sent blank_playback.commands ≡ 0
unfolding frame_count_of blank_playback
none_counted = refl

pub ruleset without = (without_frames, none_counted)
