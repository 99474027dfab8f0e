-- `objects::object_at` meets its contract: an object that is read stands within the pool.
use mathlib.Core.Path.{sym, ◌∙◌}
use Rattle.objects.proofs.Passed.{is_at_lem}
use native.Mathlib.Omega.{arith}
use Rattle.objects.proofs.object_at.Goals as goal

pub whole_at-object-requires : goal.whole_at-object-requires
whole_at-object-requires c =
    let i = is_at_lem _ _ (sym c.is_at.ensures ∙ c.if-not-is_at.false) in
    omega arith

pub size_at-requires : goal.size_at-requires
size_at-requires c =
    let i = is_at_lem _ _ (sym c.is_at.ensures ∙ c.if-not-is_at.false) in
    omega arith

pub overflow_add-result : goal.overflow_add-result
overflow_add-result c =
    let i = is_at_lem _ _ (sym c.is_at.ensures ∙ c.if-not-is_at.false) in
    omega arith
