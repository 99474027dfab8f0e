-- `store::loading::Blocks::steps` meets its contract. The loop's invariant: each step before k is taken, and the cells after them are blank.
use Rattle.std.proofs.Common.{◌≡◌, true}
use Rattle.arrays.specs.Arrays.{pad_to}
use Rattle.sequence.specs.Sequence.{blank_step}
use Rattle.store.specs.Below.{every_below}
use Rattle.store.specs.Blocks.{step_place}
use Rattle.store.specs.Loaded.{steps_to}
use Rattle.store.specs.Taken.{step_taken}
use Rattle.store.proofs.loading.Blocks.steps.Given as goal

abbrev pub invariant-loop-k : goal.invariant-loop-k
invariant-loop-k l =
    (every_below l.k (λ j. step_taken l.self.bytes.now l.records (step_place l.self.counts.clients j)) ≡ true)
    × (l.steps ≡ pad_to blank_step 64 (steps_to l.self.bytes.now l.self.counts.clients l.k))
