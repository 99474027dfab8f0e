-- `pool::stage_two::Index::ids_fault` meets its contract: the names are the numbers of the list, the keys their IDs.
use native.Mathlib.Omega.{arith}
use mathlib.Core.Path.{sym, ap, ◌∙◌}
use mathlib.Core.List.{[], map}
use lib.ListN.{length, take}
use Rattle.pool.specs.Types.{type_number}
use Rattle.pool.specs.Faults.{code_number}
use Rattle.pool.specs.Verdicts.{verdict}
use Rattle.pool.specs.Fields.{numbers_at}
use Rattle.pool.specs.StageTwo.{id_of, first_repeat, ids_fault}
use Rattle.pool.proofs.Repeats.{repeat_fault_lem, repeat_fine}
use Rattle.pool.proofs.stage_two.Index.ids_fault.Goals as goal

pub returns-in-Some : goal.returns-in-Some
unfolding ids_fault
returns-in-Some c =
    let a = c.args in
    let s = a.self.now.pool.now in
    let names = numbers_at 2 s a.list.at a.list.count in
    let keys = map (id_of s a.self.now.places.now (type_number a.kind)) names in
    let gathered = c.ids_of-ids.ensures.0 in
    sym (repeat_fault_lem (code_number a.code) names keys c.in-Some.k (c.in-Some.ensures.place ∙ ap (first_repeat []) gathered) (omega (arith, c.in-Some.ensures.within, ap length gathered))
    ∙ ap (verdict (code_number a.code)) (sym c.number.ensures))

pub returns-in-None : goal.returns-in-None
unfolding ids_fault
returns-in-None c =
    let a = c.args in
    let s = a.self.now.pool.now in
    let names = numbers_at 2 s a.list.at a.list.count in
    let keys = map (id_of s a.self.now.places.now (type_number a.kind)) names in
    let gathered = c.ids_of-ids.ensures.0 in
    sym (repeat_fine (code_number a.code) names keys (length (take a.list.count c.ids_of-ids.result)) (c.in-None.ensures.place ∙ ap (first_repeat []) gathered) (omega (arith, ap length gathered)))
