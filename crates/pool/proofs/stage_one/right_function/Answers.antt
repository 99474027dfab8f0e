-- `pool::stage_one::right_function` meets its contract: a function without a fault has the bytes of its fixed part and its list, and one that has them
-- has a fault only in its fields.
use Prim.Native.Nat.{◌≤◌}
use native.Mathlib.Omega.{arith}
use mathlib.Core.Path.{◌≡◌, sym, ◌∙◌}
use mathlib.Core.Bool.{and-false}
use borrow.Author.Tests.{le-ltb, eq-eqb, ne_eqb}
use Rattle.octets.specs.Pick.{pick}
use Rattle.pool.specs.Fields.{kind_at, function_type, size_at}
use Rattle.pool.specs.StageOne.{code_of, bytes_left, code_at}
use Rattle.pool.proofs.Labels.{code_fine}
use Rattle.pool.proofs.Base.{function_code, function_size, right_where_fine}
use Rattle.pool.proofs.stage_one.right_function.Goals as goal

pub returns-then-kind_at-ne-FUNCTION_TYPE : goal.returns-then-kind_at-ne-FUNCTION_TYPE
returns-then-kind_at-ne-FUNCTION_TYPE c = rw (← c.kind_at.ensures, ne_eqb _ _ c.if-kind_at-ne-FUNCTION_TYPE.true, and-false)

pub returns-then-left-lt-FUNCTION_FIXED : goal.returns-then-left-lt-FUNCTION_FIXED
returns-then-left-lt-FUNCTION_FIXED c =
    let a = c.args in
    let is = sym c.kind_at.ensures ∙ c.if-kind_at-ne-FUNCTION_TYPE.false in
    rw (ne_eqb (code_at a.s.now a.at) 0 (λ e. omega (arith, (code_fine a.s.now a.at e).whole, function_size a.s.now a.at is)))

pub returns-then-left-state_count : goal.returns-then-left-state_count
returns-then-left-state_count c =
    let a = c.args in
    let is = sym c.kind_at.ensures ∙ c.if-kind_at-ne-FUNCTION_TYPE.false in
    rw (ne_eqb (code_at a.s.now a.at) 0 (λ e. omega (arith, (code_fine a.s.now a.at e).whole, function_size a.s.now a.at is, c.state_count.ensures)))

pub function_in-requires : goal.function_in-requires
function_in-requires c = omega (arith, c.if-left-lt-FUNCTION_FIXED.false)

pub returns : goal.returns
unfolding code_of pick
returns c =
    let a = c.args in
    let s = a.s.now in
    let is : kind_at s a.at ≡ function_type = sym c.kind_at.ensures ∙ c.if-kind_at-ne-FUNCTION_TYPE.false in
    let code = function_code s a.at (omega arith) c.function_in.result c.function_in.ensures is in
    let whole : size_at s a.at ≤ bytes_left s a.at = omega (arith, function_size s a.at is, c.state_count.ensures, c.if-left-state_count.false) in
    rw (eq-eqb _ _ is, code, le-ltb _ _ c.if-left-lt-FUNCTION_FIXED.false, le-ltb _ _ whole, ← c.function_right.ensures) (right_where_fine c.function_right.result)
