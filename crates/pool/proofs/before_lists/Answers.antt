-- `pool::before_lists` meets its contract: the first fault is the one returned.
use native.Mathlib.Omega.{arith}
use mathlib.Core.Path.{sym, ap, ◌∙◌}
use mathlib.Core.List.{List}
use lib.ListN.{take}
use lib.Seq.{length-take-le}
use Rattle.std.proofs.lemmas.Option.{IfSome_then}
use Rattle.std.proofs.lemmas.Result.{err_from_is_err_and}
use Rattle.pool.specs.declared.Verdict.{Verdict}
use Rattle.pool.specs.Verdicts.{first_of}
use Rattle.pool.proofs.Faults.{stop, pass}
use Rattle.pool.proofs.Stages.{walked_rules}
use Rattle.pool.proofs.before_lists.Goals as goal

pub returns-in_err-met-clause-verdict_value : goal.returns-in_err-met-clause-verdict_value
returns-in_err-met-clause-verdict_value c =
    let p = err_from_is_err_and c.from_residual.result c.from_residual.ensures.1 in
    rw (p.1, p.2) (stop _ _ _ c.in_err-met.ensures.verdict_value)

-- stage one has found no fault: the places and the base are the pool's
pub slice_bounds-objects_fault-end : goal.slice_bounds-objects_fault-end
slice_bounds-objects_fault-end c = let w = c.in_ok-met.ensures.walks in omega (arith, w.few)

pub slice_bounds-objects_fault-end-2 : goal.slice_bounds-objects_fault-end-2
slice_bounds-objects_fault-end-2 c = let w = c.in_ok-met.ensures.walks in sym (length-take-le _ _ (omega (arith, w.few)))

pub objects_fault-requires : goal.objects_fault-requires
objects_fault-requires c =
    let met = c.in_ok-met.ensures in
    record { places_in = met.walks.within; base_in = IfSome_then c.in_ok-met.met.base met.within (λ b h. omega arith) }

pub returns-in_err-base-clause-verdict_value : goal.returns-in_err-base-clause-verdict_value
returns-in_err-base-clause-verdict_value c =
    let w = c.in_ok-met.ensures.walks in
    let p = err_from_is_err_and c.from_residual-in_err-base.result c.from_residual-in_err-base.ensures.1 in
    rw (p.1, p.2)
    (pass _ _ _ c.in_ok-met.ensures.verdict_value (c.in_err-base.ensures.verdict_value ∙ ap (λ (vs : List Verdict). first_of (take 4 vs)) (walked_rules _ _ _ _ w)))

pub returns-clause-verdict_value : goal.returns-clause-verdict_value
returns-clause-verdict_value c =
    let w = c.in_ok-met.ensures.walks in
    pass _ _ _ c.in_ok-met.ensures.verdict_value (c.in_ok-base.ensures.verdict_value ∙ ap (λ (vs : List Verdict). first_of (take 4 vs)) (walked_rules _ _ _ _ w))
