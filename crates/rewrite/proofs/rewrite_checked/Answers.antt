-- `rewrite::rewrite_checked` meets its contract: the tests that led to a return say which case of the definition holds.
use borrow.Author.Tests.{lt-ltb, le-ltb, eq-eqb, ne_eqb}
use Rattle.octets.specs.Pick.{pick}
use Rattle.rewrite.specs.Rewrite.{rewrite_answer, rewrite_out}
use Rattle.rewrite.proofs.rewrite_checked.Goals as goal

pub returns-then-out-pool : goal.returns-then-out-pool
unfolding rewrite_answer rewrite_out pick
returns-then-out-pool c = record { value = rw (lt-ltb _ _ c.if-out-pool.true); out_after = rw (lt-ltb _ _ c.if-out-pool.true) }

pub returns-then-verdict-ne0 : goal.returns-then-verdict-ne0
unfolding rewrite_answer rewrite_out pick
returns-then-verdict-ne0 c =
    let long = le-ltb _ _ c.if-out-pool.false in
    let refused = ne_eqb _ _ c.if-verdict-ne0.true in
    record { value = rw (long, ← c.check-verdict.ensures, refused); out_after = rw (long, ← c.check-verdict.ensures, refused) }

pub rewrite_all-requires : goal.rewrite_all-requires
rewrite_all-requires c = (rw (← c.check-verdict.ensures) c.if-verdict-ne0.false, c.if-out-pool.false)

pub returns : goal.returns
unfolding rewrite_answer rewrite_out pick
returns c =
    let long = le-ltb _ _ c.if-out-pool.false in
    let taken = eq-eqb _ _ c.if-verdict-ne0.false in
    record { value = rw (long, ← c.check-verdict.ensures, taken); out_after = rw (long, ← c.check-verdict.ensures, taken) c.rewrite_all.ensures }
