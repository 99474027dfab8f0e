-- `objects::read::list_at` meets its contract. The loop's invariant: the cells filled from the start are the cells filled from here.
use mathlib.Core.Path.{refl, sym, ◌∙◌}
use Rattle.objects.proofs.Stores.{cell_next, cell_end}
use borrow.Author.Rules.{rules}
use native.Mathlib.Omega.{arith}
use Rattle.objects.proofs.read.list_at.Goals as goal

pub loop-k-init : goal.loop-k-init
loop-k-init c = (refl, search rules)

pub loop-k-preserved : goal.loop-k-preserved
loop-k-preserved c = (c.loop-k.invariant.0 ∙ cell_next 2 _ _ _ _ _ _ (omega arith) c.u16_at.ensures, omega arith)

pub returns : goal.returns
returns c =
    let l = c.loop-k in
    let a = c.args in
    sym (l.invariant.0 ∙ cell_end 2 a.s.now a.i a.n l.k l.list (omega arith))
