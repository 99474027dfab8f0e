-- `pool::stage_one::state_code` meets its contract: the tests that led to a return say which faults the state has not, and which it has.
use mathlib.Core.Path.{refl}
use borrow.Author.Tests.{lt-ltb, le-ltb}
use Rattle.octets.specs.Pick.{pick}
use Rattle.pool.specs.Fields.{state_at}
use Rattle.pool.specs.StageOne.{code_of}
use Rattle.pool.proofs.Base.{state_code}
use Rattle.pool.proofs.stage_one.state_code.Goals as goal

pub returns-then-s-at-lt-STATE_FIXED : goal.returns-then-s-at-lt-STATE_FIXED
unfolding code_of pick
returns-then-s-at-lt-STATE_FIXED c =
    let a = c.args in
    let code = state_code a.s.now a.at c.requires.1 (state_at a.s.now a.at) refl c.requires.2 in
    rw (code, lt-ltb _ _ c.if-s-at-lt-STATE_FIXED.true)

pub returns-then-state_right : goal.returns-then-state_right
unfolding code_of pick
returns-then-state_right c =
    let a = c.args in
    let code = state_code a.s.now a.at c.requires.1 c.state_at.result c.state_at.ensures c.requires.2 in
    rw (code, le-ltb _ _ c.if-s-at-lt-STATE_FIXED.false, ← c.state_right.ensures, c.if-state_right.true)

pub returns-else-state_right : goal.returns-else-state_right
unfolding code_of pick
returns-else-state_right c =
    let a = c.args in
    let code = state_code a.s.now a.at c.requires.1 c.state_at.result c.state_at.ensures c.requires.2 in
    rw (code, le-ltb _ _ c.if-s-at-lt-STATE_FIXED.false, ← c.state_right.ensures, c.if-state_right.false)
