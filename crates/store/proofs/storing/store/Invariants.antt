-- `store::storing::store` meets its contract. The loop's invariant: the blocks so far are stored.
use Rattle.std.proofs.Common.{◌≡◌, take}
use Rattle.std.proofs.lemmas.List.Edits.{sets}
use Rattle.store.specs.Stored.{contents_of, sealed_from}
use Rattle.store.proofs.storing.store.Given as goal

abbrev pub invariant-loop-b : goal.invariant-loop-b
invariant-loop-b l = l.out ≡ sets l.initial.out 0 (sealed_from 1 (take l.b (contents_of l.q)))
