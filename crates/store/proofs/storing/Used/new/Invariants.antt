-- `store::storing::Used::new` meets its contract. The loop's invariant: of the slots looked at, those that have a record are noted.
use Rattle.std.proofs.Common.{◌≡◌, ◌≤◌, length, take}
use Rattle.store.proofs.Slots.{slots_to}
use Rattle.store.proofs.storing.Used.new.Given as goal

abbrev pub invariant-loop-slot : goal.invariant-loop-slot
invariant-loop-slot l = (length l.cells ≡ 8) × (l.count ≤ l.slot) × (take l.count l.cells ≡ slots_to l.records l.slot)
