-- `store::loading::Blocks::records` meets its contract. The loop's invariant: each record before k is taken, and stands in its slot.
use Rattle.std.proofs.Common.{◌≡◌, true}
use Rattle.store.specs.Below.{every_below}
use Rattle.store.specs.Loaded.{records_to}
use Rattle.store.specs.Taken.{client_taken}
use Rattle.store.proofs.loading.Blocks.records.Given as goal

abbrev pub invariant-loop-k : goal.invariant-loop-k
invariant-loop-k l = (every_below l.k (client_taken l.self.bytes.now) ≡ true) × (l.records ≡ records_to l.self.bytes.now l.k)
