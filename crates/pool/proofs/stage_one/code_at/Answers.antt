-- `pool::stage_one::code_at` meets its contract: the object's type says which function gives its code.
use borrow.Author.Tests.{lt-ltb, le-ltb}
use Rattle.std.proofs.lemmas.Result.{err_from_is_err_and}
use Rattle.octets.specs.Pick.{pick}
use Rattle.pool.specs.StageOne.{code_of, faults_at}
use Rattle.pool.proofs.stage_one.code_at.Goals as goal

pub returns-then-s-at-lt3 : goal.returns-then-s-at-lt3
unfolding code_of faults_at pick
returns-then-s-at-lt3 c = rw (lt-ltb _ _ c.if-s-at-lt3.true)

pub returns-in_err-try_from : goal.returns-in_err-try_from
unfolding code_of faults_at pick
returns-in_err-try_from c =
    let p = err_from_is_err_and c.from_residual.result c.from_residual.ensures.1 in
    let unknown = c.in_err-try_from.ensures in
    rw (p.1, p.2, unknown.0, ← c.kind_at.ensures, le-ltb _ _ c.if-s-at-lt3.false, lt-ltb 2 _ unknown.1)
