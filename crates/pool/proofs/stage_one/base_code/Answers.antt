-- `pool::stage_one::base_code` meets its contract: the tests that led to a return say which faults the base has not, and which it has.
use mathlib.Core.Path.{refl}
use borrow.Author.Tests.{lt-ltb, le-ltb}
use Rattle.octets.specs.Pick.{pick}
use Rattle.pool.specs.Fields.{base_at}
use Rattle.pool.specs.StageOne.{code_of}
use Rattle.pool.proofs.Base.{base_code}
use Rattle.pool.proofs.stage_one.base_code.Goals as goal

pub returns-then-left-lt-BASE_FIXED : goal.returns-then-left-lt-BASE_FIXED
unfolding code_of pick
returns-then-left-lt-BASE_FIXED c =
    let a = c.args in
    let code = base_code a.s.now a.at c.requires.1 (base_at a.s.now a.at) refl c.requires.2 in
    rw (code, lt-ltb _ _ c.if-left-lt-BASE_FIXED.true)

pub returns-then-not-label_right : goal.returns-then-not-label_right
unfolding code_of pick
returns-then-not-label_right c =
    let a = c.args in
    let code = base_code a.s.now a.at c.requires.1 c.base_at-base.result c.base_at-base.ensures c.requires.2 in
    rw (code, le-ltb _ _ c.if-left-lt-BASE_FIXED.false, ← c.label_right.ensures, c.if-not-label_right.true)

pub returns-then-not-label_right-2 : goal.returns-then-not-label_right-2
unfolding code_of pick
returns-then-not-label_right-2 c =
    let a = c.args in
    let code = base_code a.s.now a.at c.requires.1 c.base_at-base.result c.base_at-base.ensures c.requires.2 in
    rw (code, le-ltb _ _ c.if-left-lt-BASE_FIXED.false, ← c.label_right.ensures, c.if-not-label_right.false, ← c.label_right-2.ensures, c.if-not-label_right-2.true)

pub returns-then-left-size_at : goal.returns-then-left-size_at
unfolding code_of pick
returns-then-left-size_at c =
    let a = c.args in
    let code = base_code a.s.now a.at c.requires.1 c.base_at-base.result c.base_at-base.ensures c.requires.2 in
    rw (code, le-ltb _ _ c.if-left-lt-BASE_FIXED.false, ← c.label_right.ensures, c.if-not-label_right.false, ← c.label_right-2.ensures, c.if-not-label_right-2.false, ← c.size_at.ensures.value, lt-ltb _ _ c.if-left-size_at.true)

pub returns-then-base_right : goal.returns-then-base_right
unfolding code_of pick
returns-then-base_right c =
    let a = c.args in
    let code = base_code a.s.now a.at c.requires.1 c.base_at-base.result c.base_at-base.ensures c.requires.2 in
    rw (code, le-ltb _ _ c.if-left-lt-BASE_FIXED.false, ← c.label_right.ensures, c.if-not-label_right.false, ← c.label_right-2.ensures, c.if-not-label_right-2.false, ← c.size_at.ensures.value, le-ltb _ _ c.if-left-size_at.false, ← c.base_right.ensures, c.if-base_right.true)

pub returns-else-base_right : goal.returns-else-base_right
unfolding code_of pick
returns-else-base_right c =
    let a = c.args in
    let code = base_code a.s.now a.at c.requires.1 c.base_at-base.result c.base_at-base.ensures c.requires.2 in
    rw (code, le-ltb _ _ c.if-left-lt-BASE_FIXED.false, ← c.label_right.ensures, c.if-not-label_right.false, ← c.label_right-2.ensures, c.if-not-label_right-2.false, ← c.size_at.ensures.value, le-ltb _ _ c.if-left-size_at.false, ← c.base_right.ensures, c.if-base_right.false)
