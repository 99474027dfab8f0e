-- `pool::stage_two::objects_fault` meets its contract: the first fault is the one returned.
use native.Mathlib.Omega.{arith}
use mathlib.Core.Bool.{not}
use mathlib.Core.Path.{refl, ap, sym, ◌∙◌}
use borrow.Author.Tests.{eq-eqb, ne_eqb, le-leb, lt-leb}
use Rattle.std.proofs.lemmas.Result.{err_from_is_err_and}
use Rattle.pool.specs.declared.BaseHead.{BaseHead}
use Rattle.pool.specs.declared.verdicts.Code.TheVariants.{NoBase, WrongVersion}
use Rattle.pool.specs.Verdicts.{first_of}
use Rattle.pool.specs.StageTwo.{rules_of}
use Rattle.pool.proofs.Faults.{stop, pass, stop_at, pass_by}
use Rattle.pool.proofs.stage_two.objects_fault.Goals as goal

pub returns-in_default-clause-verdict_value : goal.returns-in_default-clause-verdict_value
unfolding rules_of first_of
returns-in_default-clause-verdict_value c = rw c.in_default.is (stop_at (record { code = NoBase; object = 0x0000 }) _ _ (le-leb _ _ (omega arith)))

pub returns-then-s-b-clause-verdict_value : goal.returns-then-s-b-clause-verdict_value
unfolding rules_of first_of
returns-then-s-b-clause-verdict_value c = rw c.in-Some.is (stop_at (record { code = NoBase; object = 0x0000 }) _ _ (le-leb _ _ c.if-s-b.true))

pub returns-in_err-numbers_fault-clause-verdict_value : goal.returns-in_err-numbers_fault-clause-verdict_value
unfolding rules_of first_of
returns-in_err-numbers_fault-clause-verdict_value c =
    let p = err_from_is_err_and c.from_residual.result c.from_residual.ensures.1 in
    rw (c.in-Some.is, p.1, p.2) (pass_by _ _ _ _ _ (lt-leb _ _ c.if-s-b.false) (stop _ _ _ c.in_err-numbers_fault.ensures))

pub returns-then-base_at-ne2-clause-verdict_value : goal.returns-then-base_at-ne2-clause-verdict_value
unfolding rules_of first_of
returns-then-base_at-ne2-clause-verdict_value c =
    let version = ap (λ (h : BaseHead). h.version) c.base_at.ensures in
    rw c.in-Some.is
    (pass_by _ _ _ _ _ (lt-leb _ _ c.if-s-b.false)
    (pass _ _ _ c.in_ok-numbers_fault.ensures
    (stop_at (record { code = WrongVersion; object = 0x0000 }) _ _ (ap not (ne_eqb _ _ (λ m. c.if-base_at-ne2.true (version ∙ m)))))))

pub returns-in_err-label_fault-clause-verdict_value : goal.returns-in_err-label_fault-clause-verdict_value
unfolding rules_of first_of
returns-in_err-label_fault-clause-verdict_value c =
    let version = ap (λ (h : BaseHead). h.version) c.base_at.ensures in
    let p = err_from_is_err_and c.from_residual-in_err-label_fault.result c.from_residual-in_err-label_fault.ensures.1 in
    rw (c.in-Some.is, p.1, p.2)
    (pass_by _ _ _ _ _ (lt-leb _ _ c.if-s-b.false)
    (pass _ _ _ c.in_ok-numbers_fault.ensures
    (pass_by _ _ _ _ _ (ap not (eq-eqb _ _ (sym version ∙ c.if-base_at-ne2.false)))
    (stop _ _ _ c.in_err-label_fault.ensures))))

pub returns-clause-verdict_value : goal.returns-clause-verdict_value
unfolding rules_of first_of
returns-clause-verdict_value c =
    let two = ap (λ (h : BaseHead). h.version) c.base_at.ensures in
    rw c.in-Some.is
    (pass_by _ _ _ _ _ (lt-leb _ _ c.if-s-b.false)
    (pass _ _ _ c.in_ok-numbers_fault.ensures
    (pass_by _ _ _ _ _ (ap not (eq-eqb _ _ (sym two ∙ c.if-base_at-ne2.false)))
    (pass _ _ _ c.in_ok-label_fault.ensures refl))))
