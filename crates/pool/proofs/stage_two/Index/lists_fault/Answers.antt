-- `pool::stage_two::Index::lists_fault` meets its contract: the first fault is the one returned.
use mathlib.Core.Path.{sym, ap, ◌∙◌}
use mathlib.Core.List.{map}
use Rattle.std.proofs.lemmas.Result.{err_from_is_err_and}
use Rattle.pool.specs.Verdicts.{first, first_of}
use Rattle.pool.specs.Fields.{functions_of}
use Rattle.pool.specs.StageTwo.{states_alike, rules_of}
use Rattle.pool.proofs.Faults.{stop, pass, first_last}
use Rattle.pool.proofs.stage_two.Index.lists_fault.Goals as goal

pub returns-in_err-absent_fault-clause-verdict_value : goal.returns-in_err-absent_fault-clause-verdict_value
unfolding rules_of first_of
returns-in_err-absent_fault-clause-verdict_value c =
    let p = err_from_is_err_and c.from_residual.result c.from_residual.ensures.1 in
    rw (p.1, p.2) (stop _ _ _ (rw c.functions_of-list.ensures at c.in_err-absent_fault.ensures))

pub returns-in_err-ids_fault-clause-verdict_value : goal.returns-in_err-ids_fault-clause-verdict_value
unfolding rules_of first_of
returns-in_err-ids_fault-clause-verdict_value c =
    let p = err_from_is_err_and c.from_residual-in_err-ids_fault.result c.from_residual-in_err-ids_fault.ensures.1 in
    rw (p.1, p.2) (pass _ _ _ (rw c.functions_of-list.ensures at c.in_ok-absent_fault.ensures) (stop _ _ _ (rw c.functions_of-list.ensures at c.in_err-ids_fault.ensures)))

pub returns-clause-verdict_value : goal.returns-clause-verdict_value
unfolding rules_of first_of
returns-clause-verdict_value c =
    let a = c.args in
    let s = a.self.now.pool.now in
    let last = first_last (map (states_alike s a.self.now.places.now 0x07) (functions_of s a.b)) in
    pass _ _ _ (rw c.functions_of-list.ensures at c.in_ok-absent_fault.ensures)
    (pass _ _ _ (rw c.functions_of-list.ensures at c.in_ok-ids_fault.ensures)
    (rw c.functions_of-list.ensures at c.states_fault.ensures.verdict_value ∙ sym (ap (first _) last)))
