-- `pool::stage_two::first_repeat` meets its contract. The loop's invariant: no key stood before so far, and the bits are the keys seen.
use Prim.Native.Nat.{◌<◌}
use native.Mathlib.Numerals.{add-one}
use native.Mathlib.Omega.{arith}
use lib.ListN.{length, take}
use lib.Seq.{take-suc}
use Rattle.pool.proofs.Repeats.{repeat_end, repeat_here, repeat_next, stood, fresh}
use Rattle.pool.proofs.stage_two.first_repeat.Goals as goal

pub returns-then-not-insert-clause-place : goal.returns-then-not-insert-clause-place
returns-then-not-insert-clause-place c =
    let i = c.loop-k in
    let keys = c.args.keys.now in
    let told = c.insert.ensures (take i.k keys) i.invariant.seen in
    omega (arith, i.invariant.first, repeat_here keys i.k (omega arith) (stood _ _ told.0 c.if-not-insert.true))

pub loop-k-preserved : goal.loop-k-preserved
loop-k-preserved c =
    let i = c.loop-k in
    let keys = c.args.keys.now in
    let told = c.insert.ensures (take i.k keys) i.invariant.seen in
    let h : i.k < length keys = omega arith in
    let e = repeat_next keys i.k h (fresh _ _ told.0 c.if-not-insert.false) in
    record {
      first = omega (arith, i.invariant.first, e);
      seen = rw (add-one, take-suc keys i.k 0) told.1;
    }

pub returns-clause-place : goal.returns-clause-place
returns-clause-place c =
    let i = c.loop-k in
    let keys = c.args.keys.now in
    omega (arith, i.invariant.first, repeat_end keys i.k (omega arith))
