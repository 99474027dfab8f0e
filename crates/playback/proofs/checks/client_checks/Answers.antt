-- `playback::checks::client_checks` meets its contract: the clients that are left decide.
use mathlib.Core.Path.{◌≡◌, sym, ◌∙◌}
use mathlib.Core.List.{flat_map}
use borrow.Author.Rules.{rules}
use Rattle.std.specs.Prelude.{Err}
use Rattle.playback.specs.Verification.{first_failing, rule_of, client_checks}
use Rattle.playback.proofs.Failing.{client_numbered, found_one, passed_one, refused}
use Rattle.playback.proofs.Pairs.{left_more, left_none}
use Rattle.playback.proofs.checks.client_checks.Goals as goal

pub loop-client-preserved : goal.loop-client-preserved
loop-client-preserved c =
    let rule = rule_of c.args.sequence.now.edition in
    let m = left_more c.loop-client.client-iterator c.next.new.self c.next.result (c.in-Some.client, c.in-Some.recorded) c.in-Some.is c.next.ensures.steps in
    rw m at c.loop-client.invariant ∙ passed_one (client_checks rule) (client_numbered rule) _ _ c.in_ok-client_check.ensures

pub returns-in_err-client_check : goal.returns-in_err-client_check
returns-in_err-client_check c =
    let rule = rule_of c.args.sequence.now.edition in
    let m = left_more c.loop-client.client-iterator c.next.new.self c.next.result (c.in-Some.client, c.in-Some.recorded) c.in-Some.is c.next.ensures.steps in
    let why = c.in_err-client_check.field-0.0 in
    let r : c.from_residual.result ≡ Err why = search rules in
    rw r (found_one (client_checks rule) (client_numbered rule) _ _ _ c.in_err-client_check.ensures (refused why) ∙ sym (rw m at c.loop-client.invariant))

pub returns : goal.returns
unfolding flat_map first_failing
returns c =
    let e = left_none c.loop-client.client-iterator c.next.new.self c.next.result c.in-None.is c.next.ensures.steps in
    sym (rw e at c.loop-client.invariant)
