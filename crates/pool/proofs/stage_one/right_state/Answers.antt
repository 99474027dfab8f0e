-- `pool::stage_one::right_state` meets its contract: an object without a fault has 8 bytes at least, and a state of 8 bytes has a fault only in its fields.
use native.Mathlib.Omega.{arith}
use mathlib.Core.Path.{◌≡◌, sym, ◌∙◌}
use mathlib.Core.Bool.{and-false}
use borrow.Author.Tests.{le-ltb, eq-eqb, ne_eqb}
use Rattle.octets.specs.Pick.{pick}
use Rattle.pool.specs.Fields.{kind_at, state_type}
use Rattle.pool.specs.StageOne.{code_of, code_at}
use Rattle.pool.proofs.Walk.{size_least}
use Rattle.pool.proofs.Labels.{code_fine}
use Rattle.pool.proofs.Base.{state_code, right_where_fine}
use Rattle.pool.proofs.stage_one.right_state.Goals as goal

pub returns-then-s-at-lt-STATE_FIXED : goal.returns-then-s-at-lt-STATE_FIXED
returns-then-s-at-lt-STATE_FIXED c =
    let a = c.args in
    let s = a.s.now in
    rw (ne_eqb (code_at s a.at) 0 (λ e. omega (arith, (code_fine s a.at e).whole, size_least s a.at)))

pub returns-then-kind_at-ne-STATE_TYPE : goal.returns-then-kind_at-ne-STATE_TYPE
returns-then-kind_at-ne-STATE_TYPE c = rw (← c.kind_at.ensures, ne_eqb _ _ c.if-kind_at-ne-STATE_TYPE.true, and-false)

pub returns : goal.returns
unfolding code_of pick
returns c =
    let a = c.args in
    let is : kind_at a.s.now a.at ≡ state_type = sym c.kind_at.ensures ∙ c.if-kind_at-ne-STATE_TYPE.false in
    let code = state_code a.s.now a.at (omega arith) c.state_at.result c.state_at.ensures is in
    rw (eq-eqb _ _ is, code, le-ltb _ _ c.if-s-at-lt-STATE_FIXED.false, ← c.state_right.ensures)
    (right_where_fine c.state_right.result)
