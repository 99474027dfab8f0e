-- `octets::put_in` meets its contract. The loop's invariant: what is to be stored from the start is what is to be stored from here.
use native.Mathlib.Omega.{arith}
use mathlib.Core.Path.{sym, ◌∙◌}
use Rattle.octets.proofs.Laws.{put_start, put_step, put_end}
use Rattle.octets.proofs.put_in.Goals as goal

pub loop-k-init : goal.loop-k-init
loop-k-init c = put_start _ _ _ _

pub loop-k-preserved : goal.loop-k-preserved
loop-k-preserved c =
    let i = c.loop-k in
    let a = c.args in
    i.invariant ∙ put_step i.out a.i a.width i.k i.rest (omega arith)

pub returns : goal.returns
returns c =
    let i = c.loop-k in
    let a = c.args in
    sym (i.invariant ∙ put_end i.out a.i a.width i.k i.rest (omega arith))
