-- `playback::verify` meets its contract: each list of checks is asked where those before it hold.
use mathlib.Core.Path.{◌≡◌}
use mathlib.Core.Bool.{true, false}
use borrow.Author.Rules.{rules}
use Rattle.std.specs.Prelude.{Err}
use Rattle.playback.specs.Verification.{ready_checks, verify_by}
use Rattle.playback.specs.Named.{fails}
use Rattle.playback.proofs.Failing.{refused, without_step, by_client, by_missing, by_unready, all_hold}
use Rattle.playback.proofs.Positions.{some_found, missing_found}
use Rattle.playback.proofs.verify.Goals as goal

pub returns-then-sequence-eq0 : goal.returns-then-sequence-eq0
unfolding verify_by
returns-then-sequence-eq0 c = without_step _ _ _ c.if-sequence-eq0.true

pub returns-in_err-client_checks : goal.returns-in_err-client_checks
unfolding verify_by
returns-in_err-client_checks c =
    let why = c.in_err-client_checks.field-0.0 in
    let r : c.from_residual.result ≡ Err why = search rules in
    rw r (by_client _ _ _ c.if-sequence-eq0.false _ c.in_err-client_checks.ensures (refused why))

pub returns-then-is_some : goal.returns-then-is_some
unfolding verify_by
returns-then-is_some c =
    by_missing _ _ _ c.if-sequence-eq0.false c.in_ok-client_checks.ensures (missing_found _ _ _ _ true c.steps.ensures.used c.first_missing.ensures c.is_some.ensures c.if-is_some.true)

pub returns-then-is_some-2 : goal.returns-then-is_some-2
unfolding verify_by
returns-then-is_some-2 c =
    by_unready _ _ _ c.if-sequence-eq0.false c.in_ok-client_checks.ensures
    (missing_found _ _ _ _ false c.steps.ensures.used c.first_missing.ensures c.is_some.ensures c.if-is_some.false)
    (some_found (fails ready_checks) _ _ true c.lowest_not_ready.ensures c.is_some-2.ensures c.if-is_some-2.true)

pub returns : goal.returns
unfolding verify_by
returns c =
    all_hold _ _ _ c.if-sequence-eq0.false c.in_ok-client_checks.ensures
    (missing_found _ _ _ _ false c.steps.ensures.used c.first_missing.ensures c.is_some.ensures c.if-is_some.false)
    (some_found (fails ready_checks) _ _ false c.lowest_not_ready.ensures c.is_some-2.ensures c.if-is_some-2.false)
