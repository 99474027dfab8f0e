-- `pool::first_fault` meets its contract: the first fault is the one returned.
use native.Mathlib.Omega.{arith}
use mathlib.Core.Path.{refl, sym}
use lib.Seq.{length-take-le}
use Rattle.std.proofs.lemmas.Result.{err_from_is_err_and}
use Rattle.pool.specs.Faults.{fault_verdict}
use Rattle.pool.proofs.Faults.{code_not_zero}
use Rattle.pool.proofs.Stages.{verdict_early, verdict_listed, verdict_long}
use Rattle.pool.proofs.first_fault.Goals as goal

pub returns-then-pool-gt16384 : goal.returns-then-pool-gt16384
returns-then-pool-gt16384 c = verdict_long _ c.if-pool-gt16384.true

pub returns-in_err-walked : goal.returns-in_err-walked
returns-in_err-walked c =
    let p = err_from_is_err_and c.from_residual.result c.from_residual.ensures.1 in
    let f = c.in_err-walked.field-0.0 in
    rw (p.1, p.2) (verdict_early c.args.pool.now (omega arith) (fault_verdict f) c.in_err-walked.ensures.verdict_value (code_not_zero f.code))

-- no fault has been found: the places and the base are the pool's
pub slice_bounds-new-end : goal.slice_bounds-new-end
slice_bounds-new-end c = sym (length-take-le _ _ (omega (arith, c.in_ok-walked.ensures.walks.few)))

pub new-index-requires : goal.new-index-requires
new-index-requires c =
    let w = c.in_ok-walked.ensures.walks in
    (omega arith, omega (arith, w.few, length-take-le c.in_ok-walked.walked.count c.before_lists.new.places (omega (arith, w.few))), w.within, refl)

pub returns : goal.returns
returns c =
    let w = c.in_ok-walked.ensures in
    verdict_listed _ _ _ _ _ (omega arith) w.walks w.verdict_value (rw (c.new-index.ensures.0, c.new-index.ensures.1) at c.lists_fault.ensures.verdict_value)
