-- `store::storing::Used::new` meets its contract.
use Rattle.std.proofs.Common.{◌≡◌, ℕ, ◌+◌, ◌<◌, List, ◌++◌, ◌∷◌, [], length, take, set, sym, ap, ◌∙◌, arith, rules}
use Rattle.std.proofs.lemmas.List.{take_more_set, length-set}
use Rattle.store.proofs.Slots.{slots_to, slots_skip, slots_more, slots_all, is_there_lem, is_not_there}
use Rattle.store.proofs.storing.Used.new.Goals as goal
use Rattle.store.proofs.storing.Used.new.Goals.{then-records-from-ne0, else-records-from-ne0}

pub loop-slot-preserved : goal.loop-slot-preserved
loop-slot-preserved c =
    let l = c.loop-slot in
    let records = c.args.records.now in
    let n : length records ≡ 8 = search rules in
    let h : l.slot < 8 = omega arith in
    elim c.if-records-from-ne0.branch [
      | then-records-from-ne0 w ↦
          let e = slots_more records l.slot h (is_there_lem records l.slot h _ (omega arith) (rw c.from.ensures at w.if-records-from-ne0.true)) in
          let more : take (l.count + 1) (set l.cells l.count l.slot) ≡ take l.count l.cells ++ l.slot ∷ [] = take_more_set l.cells l.count l.slot (omega arith) in
          rw (w.count-is, w.cells-is) (omega (arith, length-set l.cells l.count l.slot), omega arith, more ∙ ap (λ (k : List ℕ). k ++ l.slot ∷ []) l.invariant.2 ∙ sym e)
      | else-records-from-ne0 w ↦
          let e = slots_skip records l.slot h (is_not_there records l.slot h _ (omega arith) (rw c.from.ensures at w.if-records-from-ne0.false)) in
          rw (w.count-is, w.cells-is) (omega arith, omega arith, l.invariant.2 ∙ sym e)
    ]

pub returns : goal.returns
returns c =
    let l = c.loop-slot in
    let e : l.slot ≡ 8 = omega arith in
    l.invariant.2 ∙ ap (slots_to c.args.records.now) e ∙ slots_all c.args.records.now
