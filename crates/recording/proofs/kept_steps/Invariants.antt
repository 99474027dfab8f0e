-- `recording::kept_steps` meets its contract: of the steps up to here those that stay are copied, and the cells after them are blank.
use Prim.Native.Nat.{◌≤◌}
use mathlib.Core.Path.{◌≡◌}
use lib.ListN.{length, take}
use Rattle.arrays.specs.Arrays.{pad_to}
use Rattle.sequence.specs.Sequence.{blank_step}
use Rattle.recording.specs.Kept.{stayed}
use Rattle.recording.proofs.kept_steps.Given as goal

abbrev pub invariant-loop-t : goal.invariant-loop-t
invariant-loop-t l = record {
  few : l.kept.count ≤ l.t-index;
  number : l.kept.count ≡ length (stayed (take l.t-index l.taken));
  out : l.kept.steps ≡ pad_to blank_step 64 (stayed (take l.t-index l.taken));
}
