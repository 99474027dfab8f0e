-- `profile::judge` meets its contract: the first fault is the one returned, and where there is none, what is kept is the pool's.
use native.Mathlib.Omega.{arith}
use mathlib.Core.Path.{refl, sym, ◌∙◌}
use lib.Seq.{length-take-le}
use Rattle.std.proofs.lemmas.Result.{err_from_is_err_and}
use Rattle.pool.specs.Faults.{fault_verdict}
use Rattle.pool.specs.Verdicts.{fine}
use Rattle.pool.proofs.Faults.{code_not_zero}
use Rattle.pool.proofs.Stages.{verdict_early, verdict_listed, verdict_long}
use Rattle.profile.specs.Profile.{kept_of_pool}
use Rattle.profile.proofs.Laws.{refused_profile, kept_profile}
use Rattle.profile.proofs.judge.Goals as goal

pub returns-then-pool-gt16384 : goal.returns-then-pool-gt16384
returns-then-pool-gt16384 c =
    let e = verdict_long c.args.pool.now c.if-pool-gt16384.true in
    record { verdict_value = e; profile_value = refused_profile _ _ e (λ z. omega arith) }

pub returns-in_err-walked : goal.returns-in_err-walked
returns-in_err-walked c =
    let p = err_from_is_err_and c.from_residual.result c.from_residual.ensures.1 in
    let f = c.in_err-walked.field-0.0 in
    let e = verdict_early c.args.pool.now (omega arith) (fault_verdict f) c.in_err-walked.ensures.verdict_value (code_not_zero f.code) in
    record { verdict_value = rw (p.1, p.2) e; profile_value = rw p.1 (refused_profile _ _ e (code_not_zero f.code)) }

-- no fault has been found: the places and the base are the pool's
pub slice_bounds-new-end : goal.slice_bounds-new-end
slice_bounds-new-end c = sym (length-take-le _ _ (omega (arith, c.in_ok-walked.ensures.walks.few)))

pub new-index-requires : goal.new-index-requires
new-index-requires c =
    let w = c.in_ok-walked.ensures.walks in
    (omega arith, omega (arith, w.few, length-take-le c.in_ok-walked.walked.count c.before_lists.new.places (omega (arith, w.few))), w.within, refl)

pub returns-in_err-lists_fault : goal.returns-in_err-lists_fault
returns-in_err-lists_fault c =
    let w = c.in_ok-walked.ensures in
    let p = err_from_is_err_and c.from_residual-in_err-lists_fault.result c.from_residual-in_err-lists_fault.ensures.1 in
    let f = c.in_err-lists_fault.field-0.0 in
    let e = verdict_listed _ _ _ _ (fault_verdict f) (omega arith) w.walks w.verdict_value (rw (c.new-index.ensures.0, c.new-index.ensures.1) at c.in_err-lists_fault.ensures.verdict_value) in
    record { verdict_value = rw (p.1, p.2) e; profile_value = rw p.1 (refused_profile _ _ e (code_not_zero f.code)) }

pub returns : goal.returns
unfolding kept_of_pool
returns c =
    let w = c.in_ok-walked.ensures in
    let e = verdict_listed _ _ _ _ fine (omega arith) w.walks w.verdict_value (rw (c.new-index.ensures.0, c.new-index.ensures.1) at c.in_ok-lists_fault.ensures.verdict_value) in
    record {
      verdict_value = e;
      profile_value = c.kept_at.ensures ∙ rw (c.new-index.ensures.0, c.new-index.ensures.1, w.walks.listed, w.walks.base) (kept_profile _ _ e refl);
    }
