-- 01, "Verification and playback", an answer: "An E.7 must match slot, TAN, function and state of a sent step, else 15 .. 01 marks it started, 00 and 10
-- done, 11 aborts; a further answer for a done step, 11 or an error too, is acknowledged and changes nothing."
use Rattle.std.specs.Prelude.{ℕ, Bool, not, ◌&&◌, ◌||◌, List, eqb, leb, take, get_or, set, Result, Ok, Err}
use Rattle.octets.specs.{Pick.pick, Numbers.completed, Numbers.no_match, Refusals.refusal_number, declared.numbers.Refusal.Refusal}
use Rattle.message.specs.{Fields.status_number, declared.Reply.Reply}
use Rattle.arrays.specs.Arrays.{some, first_from}
use Rattle.sequence.specs.Sequence.{most_steps, length_of, steps_of}
use Rattle.sequence.specs.{declared.Step.Step, declared.Sequence.Sequence}
use Rattle.playback.specs.{declared.Sent.Sent, declared.Playback.Playback, declared.End.End, Pairs.pairs}
use Rattle.playback.specs.State.{answer_started, answer_done, goes_on, to_ready, to_abort, blank_sent, is_undone}

-- "must match slot, TAN, function and state"
abbrev pub is_answer_of : ℕ → ℕ → ℕ → ℕ → Step → Sent → Bool
is_answer_of slot tan function state s c =
    eqb s.slot slot && eqb c.tan tan && eqb s.function function && eqb s.state state

-- "of a sent step": its number, counted from 0, or 64 where none matches
unfoldable pub find_answered : List Step → List Sent → ℕ → ℕ → ℕ → ℕ → ℕ → ℕ
find_answered steps commands sent slot tan function state =
    first_from most_steps (λ x. is_answer_of slot tan function state x.0 x.1) 0 (take sent (pairs steps commands))

-- "11 aborts", and so does "an error answer"
abbrev pub is_error : ℕ → ℕ → Bool
is_error status error = leb 0b11 status || not (eqb error 0)

-- "01 marks it started, 00 and 10 done"
unfoldable pub answer_from : ℕ → ℕ
answer_from status = pick (eqb status 0b01) answer_started answer_done

-- step i has this answer
unfoldable pub with_answer : Playback → ℕ → ℕ → Playback
with_answer p i answer =
    let c = get_or p.commands i blank_sent in
    record {
      ticks = p.ticks;
      distance = p.distance;
      sent = p.sent;
      commands = set p.commands i (record { tan = c.tan; answer = answer; left = c.left });
    }

unfoldable pub some_undone : ℕ → List Sent → Bool
some_undone sent commands = some is_undone (take sent commands)

-- "when all steps are done": every one has left and is done
unfoldable pub is_all_done : Playback → ℕ → Bool
is_all_done p count = leb count p.sent && not (some_undone p.sent p.commands)

-- after an answer: whether it matched, by its number, and what becomes of the playback
pub record Answered : Type 0 where
  pub number : ℕ
  pub end : End
  pub playback : Playback

-- what a call gives back, with the playback after it: a playback that an answer is not for goes on
abbrev pub answered : Result End Refusal → Playback → Answered
answered (Ok end) p = record { number = completed; end = end; playback = p }
answered (Err why) p = record { number = refusal_number why; end = goes_on; playback = p }

-- "else 15"; "a further answer for a done step, 11 or an error too, .. changes nothing"; "11 aborts"; "01 marks it started, 00 and 10 done"; "Playback
-- goes to ready when all steps are done"
unfoldable pub answered_of : Playback → Sequence → ℕ → Reply → Answered
answered_of p sequence slot reply =
    let i = find_answered sequence.steps p.commands p.sent slot reply.tan reply.function reply.state in
    let status = status_number reply.status in
    let q = with_answer p i (answer_from status) in
    pick (leb most_steps i) (record { number = no_match; end = goes_on; playback = p })
    (pick (eqb (get_or p.commands i blank_sent).answer answer_done) (record { number = completed; end = goes_on; playback = p })
    (pick (is_error status reply.error) (record { number = completed; end = to_abort; playback = p })
    (pick (is_all_done q (length_of sequence)) (record { number = completed; end = to_ready; playback = q })
    (record { number = completed; end = goes_on; playback = q }))))

-- ---- an E.4 of status 11 in playback: "if that client's function is a step of the sequence"

abbrev pub is_function_of : ℕ → ℕ → Step → Bool
is_function_of slot function s = eqb s.slot slot && eqb s.function function

unfoldable pub has_function : Sequence → ℕ → ℕ → Bool
has_function sequence slot function = some (is_function_of slot function) (steps_of sequence)
