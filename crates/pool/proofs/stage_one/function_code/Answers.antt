-- `pool::stage_one::function_code` meets its contract: the tests that led to a return say which faults the function has not, and which it has.
use mathlib.Core.Path.{refl}
use borrow.Author.Tests.{lt-ltb, le-ltb}
use Rattle.octets.specs.Pick.{pick}
use Rattle.pool.specs.Fields.{function_at}
use Rattle.pool.specs.StageOne.{code_of}
use Rattle.pool.proofs.Base.{function_code}
use Rattle.pool.proofs.stage_one.function_code.Goals as goal

pub returns-then-left-lt-FUNCTION_FIXED : goal.returns-then-left-lt-FUNCTION_FIXED
unfolding code_of pick
returns-then-left-lt-FUNCTION_FIXED c =
    let a = c.args in
    let code = function_code a.s.now a.at c.requires.1 (function_at a.s.now a.at) refl c.requires.2 in
    rw (code, lt-ltb _ _ c.if-left-lt-FUNCTION_FIXED.true)

pub returns-then-left-size_at : goal.returns-then-left-size_at
unfolding code_of pick
returns-then-left-size_at c =
    let a = c.args in
    let code = function_code a.s.now a.at c.requires.1 (function_at a.s.now a.at) refl c.requires.2 in
    rw (code, le-ltb _ _ c.if-left-lt-FUNCTION_FIXED.false, ← c.size_at.ensures.value, lt-ltb _ _ c.if-left-size_at.true)

pub returns-then-function_right : goal.returns-then-function_right
unfolding code_of pick
returns-then-function_right c =
    let a = c.args in
    let code = function_code a.s.now a.at c.requires.1 c.function_at.result c.function_at.ensures c.requires.2 in
    rw (code, le-ltb _ _ c.if-left-lt-FUNCTION_FIXED.false, ← c.size_at.ensures.value, le-ltb _ _ c.if-left-size_at.false, ← c.function_right.ensures, c.if-function_right.true)

pub returns-else-function_right : goal.returns-else-function_right
unfolding code_of pick
returns-else-function_right c =
    let a = c.args in
    let code = function_code a.s.now a.at c.requires.1 c.function_at.result c.function_at.ensures c.requires.2 in
    rw (code, le-ltb _ _ c.if-left-lt-FUNCTION_FIXED.false, ← c.size_at.ensures.value, le-ltb _ _ c.if-left-size_at.false, ← c.function_right.ensures, c.if-function_right.false)
