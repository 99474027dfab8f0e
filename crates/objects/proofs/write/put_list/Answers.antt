-- `objects::write::put_list` meets its contract. The loop's invariant: what is to be stored from the start is what is to be stored from here.
use mathlib.Core.Path.{sym, ap, ◌∙◌}
use lib.ListN.{length}
use lib.Seq.{length-sets}
use Rattle.objects.proofs.Stores.{number_next, number_end}
use borrow.Author.Rules.{rules}
use native.Mathlib.Omega.{arith}
use Rattle.objects.proofs.write.put_list.Goals as goal

pub loop-number-preserved : goal.loop-number-preserved
loop-number-preserved c =
    let l = c.loop-number in
    record { stored = l.invariant.stored ∙ number_next 2 c.args.list.now l.number-index l.at l.out (search rules) ∙ rw c.put_u16.ensures; place = omega (arith, l.invariant.place) }

pub returns : goal.returns
returns c =
    let l = c.loop-number in
    sym (l.invariant.stored ∙ number_end 2 c.args.list.now l.number-index l.at l.out (search rules))

pub shape_of-out : goal.shape_of-out
shape_of-out c = ap length (returns c) ∙ simp length-sets
