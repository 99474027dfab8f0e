-- `recording::Recording::kept` meets its contract: the steps that stay are the first cells of the array that holds them.
use Prim.Native.Nat.{◌≤◌}
use mathlib.Core.Path.{◌≡◌, ◌∙◌, ap}
use native.Mathlib.Omega.{arith}
use mathlib.Core.List.{List}
use lib.ListN.{length}
use borrow.Author.Tests.{ne_eqb}
use Rattle.octets.specs.Pick.{pick}
use Rattle.arrays.proofs.Pad.{pad_take}
use Rattle.sequence.specs.Sequence.{blank_step}
use Rattle.recording.specs.Indication.{held_of}
use Rattle.recording.specs.declared.Taken.{Taken}
use Rattle.recording.specs.Kept.{stayed, kept_sequence}
use Rattle.recording.proofs.Recording.kept.Goals as goal

pub returns : goal.returns
unfolding pick kept_sequence
returns c =
    let k = c.kept_steps-kept.ensures in
    let l = stayed (held_of c.args.self.now) in
    let n : c.kept_steps-kept.result.count ≡ length l = k.count ∙ ap (λ (l : List Taken). length (stayed l)) c.used.ensures in
    let few : length l ≤ 64 = omega (arith, k.few) in
    λ old. rw (
      c.drop_records.ensures,
      n,
      k.steps,
      c.used.ensures,
      ne_eqb _ _ (rw n at c.if-kept-eq0.false),
      pad_take blank_step 64 l few,
    )
