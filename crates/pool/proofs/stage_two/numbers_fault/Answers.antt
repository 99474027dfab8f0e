-- `pool::stage_two::numbers_fault` meets its contract. The loop's invariant: no number stood before so far, and the bits are the numbers seen.
use Prim.Native.Nat.{ℕ, ◌<◌, ◌≤◌}
use native.Mathlib.Numerals.{add-one}
use native.Mathlib.Omega.{arith}
use mathlib.Core.Path.{◌≡◌, sym, ap, ◌∙◌}
use mathlib.Core.Bool.{true, false}
use mathlib.Core.List.{List, map}
use lib.ListN.{length, get_or, take, length-map}
use lib.Seq.{take-suc}
use Rattle.pool.specs.Verdicts.{verdict}
use Rattle.pool.specs.Fields.{object_number}
use Rattle.pool.specs.StageTwo.{is_in}
use Rattle.pool.proofs.Lists.{get_d_map}
use Rattle.pool.proofs.Repeats.{repeat_end, repeat_here, repeat_next, repeat_fault_lem, repeat_fine, stood, fresh}
use Rattle.pool.proofs.stage_two.numbers_fault.Goals as goal

abbrev numbers : List ℕ → List ℕ → List ℕ
numbers s ps = map (object_number s) ps

-- at the place stand 8 bytes at least
pub u16_in-object-requires : goal.u16_in-object-requires
u16_in-object-requires c = omega (arith, c.requires c.loop-p.p-index (omega arith))

pub returns-then-not-insert : goal.returns-then-not-insert
returns-then-not-insert c =
    let i = c.loop-p in
    let a = c.args in
    let k = i.p-index in
    let l = numbers a.s.now a.ps.now in
    let h : k < length l = omega (arith, length-map a.ps.now (object_number a.s.now)) in
    let key : get_or l k 0 ≡ c.u16_in-object.result = get_d_map (object_number a.s.now) a.ps.now k (omega arith) ∙ sym c.u16_in-object.ensures in
    let told = c.insert.ensures (take k l) i.invariant.seen in
    let e : is_in (get_or l k 0) (take k l) ≡ true = rw key (stood _ _ told.0 c.if-not-insert.true) in
    sym (repeat_fault_lem 0x05 l l k (omega (arith, i.invariant.first, repeat_here l k h e)) h ∙ ap (verdict 0x05) key)

pub loop-p-preserved : goal.loop-p-preserved
loop-p-preserved c =
    let i = c.loop-p in
    let a = c.args in
    let k = i.p-index in
    let l = numbers a.s.now a.ps.now in
    let h : k < length l = omega (arith, length-map a.ps.now (object_number a.s.now)) in
    let key : get_or l k 0 ≡ c.u16_in-object.result = get_d_map (object_number a.s.now) a.ps.now k (omega arith) ∙ sym c.u16_in-object.ensures in
    let told = c.insert.ensures (take k l) i.invariant.seen in
    let e : is_in (get_or l k 0) (take k l) ≡ false = rw key (fresh _ _ told.0 c.if-not-insert.false) in
    record {
      first = omega (arith, i.invariant.first, repeat_next l k h e);
      seen = rw (add-one, take-suc l k 0, key) told.1;
    }

pub returns : goal.returns
returns c =
    let i = c.loop-p in
    let a = c.args in
    let l = numbers a.s.now a.ps.now in
    let past : length l ≤ i.p-index = omega (arith, length-map a.ps.now (object_number a.s.now)) in
    sym (repeat_fine 0x05 l l i.p-index (omega (arith, i.invariant.first, repeat_end l i.p-index past)) past)
