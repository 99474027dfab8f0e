-- `store::storing::put_steps` meets its contract. The loop's invariant: what is to be stored from the start is what is to be stored from here.
use Rattle.std.proofs.Common.{◌≡◌, ◌*◌, map, drop}
use Rattle.std.proofs.lemmas.List.Edits.{sets}
use Rattle.store.specs.Stored.{step_bytes, joined}
use Rattle.store.proofs.storing.put_steps.Given as goal

abbrev pub invariant-loop-j : goal.invariant-loop-j
invariant-loop-j l = sets l.initial.block 0 (joined (map step_bytes l.steps)) ≡ sets l.block (16 * l.j) (joined (drop l.j (map step_bytes l.steps)))
