-- `pool::stage_one::stage_one` meets its contract. The loop's invariant is `Turn` of Base.antt: it holds after an object without a fault, and a state
-- or a function without a fault has a known length and is no base. The measure is what is left of the length.
use Prim.Native.Nat.{◌-◌, ◌<◌}
use lib.ListN.{length}
use Rattle.std.specs.Prelude.{IfSome, unwrap_or}
use Rattle.pool.proofs.Base.{Turn}
use Rattle.pool.proofs.stage_one.stage_one.Given as goal

abbrev pub invariant-loop-at : goal.invariant-loop-at
invariant-loop-at l =
    record {
      turn : Turn l.s l.places l.count (unwrap_or l.base (length l.s)) l.at;
      within : IfSome l.base (λ b. b < length l.s);
    }

abbrev pub decreases-loop-at : goal.decreases-loop-at
decreases-loop-at l = length l.s - l.at
