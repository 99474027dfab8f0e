-- `playback::frames` meets its contract: the whole buffer is copied.
use mathlib.Core.Path.{◌∙◌}
use Rattle.playback.specs.Frames.{filled_of, frame_count_of, frames_of}
use Rattle.playback.proofs.Fill.{length_filled, copied}
use Rattle.playback.proofs.frames.Goals as goal

pub returns-clause-value : goal.returns-clause-value
unfolding frame_count_of
returns-clause-value c = rw (c.fill-count.ensures.value, c.left.ensures)

pub returns-clause-out_after : goal.returns-clause-out_after
unfolding filled_of frames_of
returns-clause-out_after c =
    let p = c.args.playback.now in
    c.put_bytes.ensures
    ∙ copied _ _ _ 576 (rw c.left.ensures at c.fill-count.ensures.out_after) (length_filled p.ticks p.sent c.args.sequence.now.steps p.commands) c.requires
