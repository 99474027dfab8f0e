-- `octets::put_in` meets its contract. The loop's invariant: what is to be stored from the start is what is to be stored from here.
use Prim.Native.Nat.{◌+◌, ◌-◌}
use mathlib.Core.Path.{◌≡◌}
use lib.Seq.{sets}
use Rattle.octets.specs.Octets.{bytes_of}
use Rattle.octets.proofs.put_in.Given as goal

abbrev pub invariant-loop-k : goal.invariant-loop-k
invariant-loop-k l = sets l.initial.out l.i (bytes_of l.width l.v) ≡ sets l.out (l.i + l.k) (bytes_of (l.width - l.k) l.rest)
