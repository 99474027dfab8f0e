-- `octets::put_bytes` meets its contract. The loop's invariant: what is to be stored from the start is what is to be stored from here.
use native.Mathlib.Omega.{arith}
use mathlib.Core.Path.{refl, sym, ◌∙◌}
use lib.ListN.{length-set}
use Rattle.octets.proofs.Laws.{stored_start, stored_step, stored_end}
use Rattle.octets.proofs.put_bytes.Goals as goal

pub loop-k-init : goal.loop-k-init
loop-k-init c =
    let a = c.args in
    (stored_start a.out.now a.i a.bytes.now, refl)

pub loop-k-preserved : goal.loop-k-preserved
loop-k-preserved c =
    let i = c.loop-k in
    let a = c.args in
    (i.invariant.0 ∙ stored_step i.out a.i a.bytes.now i.k (omega arith), simp length-set i.invariant.1)

pub returns : goal.returns
returns c =
    let i = c.loop-k in
    let a = c.args in
    sym (i.invariant.0 ∙ stored_end i.out a.i a.bytes.now i.k (omega arith))
