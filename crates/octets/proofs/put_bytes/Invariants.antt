-- `octets::put_bytes` meets its contract. The loop's invariant: what is to be stored from the start is what is to be stored from here.
use Prim.Native.Nat.{◌+◌}
use mathlib.Core.Path.{◌≡◌}
use lib.ListN.{length, drop}
use lib.Seq.{sets}
use Rattle.octets.proofs.put_bytes.Given as goal

abbrev pub invariant-loop-k : goal.invariant-loop-k
invariant-loop-k l =
    (sets l.initial.out l.i l.bytes ≡ sets l.out (l.i + l.k) (drop l.k l.bytes)) × (length l.out ≡ length l.initial.out)
