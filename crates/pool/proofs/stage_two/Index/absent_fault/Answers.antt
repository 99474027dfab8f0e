-- `pool::stage_two::Index::absent_fault` meets its contract. The loop's invariant: the first absent number of the list is the first from here.
use native.Mathlib.Omega.{arith}
use Prim.Native.Nat.{◌<◌}
use mathlib.Core.Path.{◌≡◌, refl, sym, ap, ◌∙◌}
use lib.ListN.{length}
use borrow.Author.Tests.{le-leb, lt-leb}
use Rattle.octets.proofs.Tests.{pick_true, pick_false}
use Rattle.pool.specs.Types.{type_number}
use Rattle.pool.specs.Faults.{code_number}
use Rattle.pool.specs.Verdicts.{verdict, fine}
use Rattle.pool.specs.Fields.{numbers_at}
use Rattle.pool.specs.StageTwo.{object_of, absent_fault}
use Rattle.pool.proofs.Faults.{code_not_zero, fault_end, fault_here, fault_next}
use Rattle.pool.proofs.Lists.{length_numbers, nowhere, somewhere}
use Rattle.pool.proofs.stage_two.Index.absent_fault.Goals as goal

pub returns-then-is_none : goal.returns-then-is_none
unfolding absent_fault
returns-then-is_none c =
    let i = c.loop-k in
    let a = c.args in
    let s = a.self.now.pool.now in
    let ps = a.self.now.places.now in
    let l = numbers_at 2 s a.list.at a.list.count in
    let n = c.number-object.result in
    let p : object_of s ps (type_number a.kind) n ≡ length s = rw (← c.number.ensures) (sym c.find_object.ensures.place) ∙ nowhere c.find_object.result (length s) c.if-is_none.ensures in
    let e : absent_fault s ps (code_number a.code) (type_number a.kind) n ≡ verdict (code_number a.code) n = pick_true _ _ _ (le-leb _ _ (omega (arith, p))) in
    sym (i.invariant ∙ fault_here (absent_fault s ps (code_number a.code) (type_number a.kind)) l i.k _ (omega (arith, length_numbers 2 s a.list.at a.list.count)) (ap (absent_fault s ps (code_number a.code) (type_number a.kind)) (sym c.number-object.ensures) ∙ e) (code_not_zero a.code))

pub loop-k-preserved : goal.loop-k-preserved
unfolding absent_fault
loop-k-preserved c =
    let i = c.loop-k in
    let a = c.args in
    let s = a.self.now.pool.now in
    let ps = a.self.now.places.now in
    let l = numbers_at 2 s a.list.at a.list.count in
    let n = c.number-object.result in
    let there = somewhere c.find_object.result (length s) c.if-is_none.ensures c.find_object.ensures.within in
    let p : object_of s ps (type_number a.kind) n < length s = rw (← c.number.ensures) (rw c.find_object.ensures.place at there) in
    let e : absent_fault s ps (code_number a.code) (type_number a.kind) n ≡ fine = pick_false _ _ _ (lt-leb _ _ p) in
    i.invariant ∙ fault_next (absent_fault s ps (code_number a.code) (type_number a.kind)) l i.k fine (omega (arith, length_numbers 2 s a.list.at a.list.count)) (ap (absent_fault s ps (code_number a.code) (type_number a.kind)) (sym c.number-object.ensures) ∙ e) refl

pub returns : goal.returns
returns c =
    let i = c.loop-k in
    let a = c.args in
    let s = a.self.now.pool.now in
    sym (i.invariant ∙ fault_end (absent_fault s a.self.now.places.now (code_number a.code) (type_number a.kind)) (numbers_at 2 s a.list.at a.list.count) i.k (omega (arith, length_numbers 2 s a.list.at a.list.count)))
