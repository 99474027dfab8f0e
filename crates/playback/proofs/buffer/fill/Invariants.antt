-- `playback::buffer::fill` meets its contract: the buffer holds the frames so far, and zeros after them.
use Rattle.std.specs.Slice.Iter.{iter_rest}
use Rattle.std.specs.Iterator.Adapters.{zip_first, zip_second}
use Rattle.playback.specs.Frames.{is_written}
use Rattle.playback.proofs.Fill.{Filling}
use Rattle.playback.proofs.buffer.fill.Given as goal

abbrev pub invariant-loop-step : goal.invariant-loop-step
invariant-loop-step l =
    Filling (is_written l.ticks) l.steps l.left (iter_rest (zip_first l.step-iterator)) (iter_rest (zip_second l.step-iterator)) l.out l.count
