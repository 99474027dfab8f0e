-- `playback::buffer::fill` meets its contract: the buffer holds the frames so far, and zeros after them.
use mathlib.Core.Path.{◌≡◌, sym, ap, ◌∙◌}
use Prim.Native.Nat.{ℕ}
use native.Mathlib.Omega.{arith}
use borrow.Author.Rules.{rules}
use lib.ListN.{replicate}
use Rattle.std.specs.Slice.Iter.{iter_rest}
use Rattle.std.specs.Iterator.Adapters.{zip_first, zip_second}
use Rattle.std.proofs.lemmas.Slice.Zip.{Zip-more}
use Rattle.playback.specs.Frames.{is_written}
use Rattle.playback.proofs.Fill.{starts, stores}
use Rattle.playback.proofs.buffer.fill.Goals as goal

pub loop-step-init : goal.loop-step-init
loop-step-init c =
    let a = c.args in
    let h = c.requires in
    let x : iter_rest (zip_first c.into_iter-step-iterator.result) ≡ a.steps.now = search rules in
    let y : iter_rest (zip_second c.into_iter-step-iterator.result) ≡ a.left.now = search rules in
    rw (x, y) (starts (is_written a.ticks) a.steps.now a.left.now _ h.zeros h.few (omega arith))

pub loop-step-preserved-then-is_written : goal.loop-step-preserved-then-is_written
loop-step-preserved-then-is_written c =
    let a = c.args in
    let z = Zip-more c.loop-step.step-iterator c.next.new.self c.next.result (c.in-Some.step, c.in-Some.sent) c.in-Some.is c.next.ensures.steps in
    rw (c.put_bytes.ensures, c.frame_of.ensures)
    (stores (is_written a.ticks) a.steps.now a.left.now _ _ _ _ _ _ (rw (z.0, z.1) at c.loop-step.invariant) (sym c.is_written.ensures ∙ c.if-is_written.true))
