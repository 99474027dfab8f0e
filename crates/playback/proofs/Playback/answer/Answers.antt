-- `playback::Playback::answer` meets its contract: each test decides one choice.
use borrow.Author.Tests.{eq-eqb, ne_eqb, lt-leb}
use Rattle.octets.specs.Pick.{pick}
use Rattle.octets.proofs.Tests.{said}
use Rattle.playback.specs.Answer.{answered_of}
use Rattle.playback.proofs.Playback.answer.Goals as goal

pub returns-in_default : goal.returns-in_default
unfolding pick answered_of
returns-in_default c = rw (← c.in_default.ensures.number)

pub returns-then-self-i : goal.returns-then-self-i
unfolding pick answered_of
returns-then-self-i c =
    let i = c.in-Some.ensures in
    rw (← i.number, lt-leb _ _ i.within, eq-eqb _ _ c.if-self-i.true)

pub returns-then-is_error : goal.returns-then-is_error
unfolding pick answered_of
returns-then-is_error c =
    let i = c.in-Some.ensures in
    rw (
      ← i.number,
      lt-leb _ _ i.within,
      ne_eqb _ _ c.if-self-i.false,
      said _ _ _ c.is_error.ensures c.if-is_error.true,
    )

pub returns-then-is_all_done : goal.returns-then-is_all_done
unfolding pick answered_of
returns-then-is_all_done c =
    let i = c.in-Some.ensures in
    rw (
      ← i.number,
      lt-leb _ _ i.within,
      ne_eqb _ _ c.if-self-i.false,
      said _ _ _ c.is_error.ensures c.if-is_error.false,
      ← c.heard_from.ensures,
      ← c.set_answer.ensures,
      ← c.len.ensures,
      said _ _ _ c.is_all_done.ensures c.if-is_all_done.true,
    )

pub returns : goal.returns
unfolding pick answered_of
returns c =
    let i = c.in-Some.ensures in
    rw (
      ← i.number,
      lt-leb _ _ i.within,
      ne_eqb _ _ c.if-self-i.false,
      said _ _ _ c.is_error.ensures c.if-is_error.false,
      ← c.heard_from.ensures,
      ← c.set_answer.ensures,
      ← c.len.ensures,
      said _ _ _ c.is_all_done.ensures c.if-is_all_done.false,
    )
