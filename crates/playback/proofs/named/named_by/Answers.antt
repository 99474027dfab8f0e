-- `playback::named::named_by` meets its contract: the number says what is looked for.
use mathlib.Core.Path.{◌≡◌, ◌∙◌}
use native.Mathlib.Omega.{arith}
use borrow.Author.Tests.{ne_eqb, le-leb, lt-leb}
use Rattle.octets.specs.Pick.{pick}
use Rattle.playback.specs.Verification.{rule_of, client_checks, ready_checks}
use Rattle.playback.specs.Named.{first_missing, lowest_slot, named_by}
use Rattle.sequence.specs.Sequence.{steps_of}
use Rattle.playback.proofs.Naming.{lowest_is, missing_is}
use Rattle.playback.proofs.named.named_by.Goals as goal

pub returns-in-11 : goal.returns-in-11
unfolding pick named_by
returns-in-11 c =
    let a = c.args in
    let step : c.unwrap_or-step.result ≡ first_missing a.slots.now (steps_of a.sequence.now) = c.unwrap_or-step.ensures ∙ missing_is _ _ _ _ c.steps.ensures.used c.first_missing.ensures in
    rw (c.in-11.is, c.slot_of.ensures, step)

pub returns-in-12 : goal.returns-in-12
unfolding pick named_by
returns-in-12 c =
    let a = c.args in
    rw (c.in-12.is, c.unwrap_or.ensures ∙ lowest_is _ a.sequence.now ready_checks _ c.lowest_not_ready.ensures)

pub returns-in-8-to-255 : goal.returns-in-8-to-255
unfolding pick named_by
returns-in-8-to-255 c =
    let a = c.args in
    let n = a.number in
    rw (
      ne_eqb n 11 (λ z. omega arith),
      ne_eqb n 12 (λ z. omega arith),
      le-leb 8 n (omega arith),
      c.unwrap_or-in-8-to-255.ensures ∙ lowest_is _ a.sequence.now (client_checks (rule_of a.sequence.now.edition)) _ c.lowest_failing.ensures,
    )

pub returns-in_default : goal.returns-in_default
unfolding pick named_by
returns-in_default c =
    let n = c.args.number in
    rw (ne_eqb n 11 (λ z. omega arith), ne_eqb n 12 (λ z. omega arith), lt-leb 8 n (omega arith))
