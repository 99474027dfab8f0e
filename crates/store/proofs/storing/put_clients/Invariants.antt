-- `store::storing::put_clients` meets its contract. The loop's invariant: what is to be stored from the start is what is to be stored from here, and each
-- client record so far has 148 bytes.
use Rattle.std.proofs.Common.{◌≡◌, ◌*◌, length, take, drop}
use Rattle.std.proofs.lemmas.List.Edits.{sets}
use Rattle.store.specs.Stored.{clients_at, joined}
use Rattle.store.proofs.storing.put_clients.Given as goal

abbrev pub invariant-loop-j : goal.invariant-loop-j
invariant-loop-j l =
    (sets l.initial.block 0 (joined (clients_at l.slots l.records)) ≡ sets l.block (148 * l.j) (joined (drop l.j (clients_at l.slots l.records))))
    × (length (joined (take l.j (clients_at l.slots l.records))) ≡ 148 * l.j)
