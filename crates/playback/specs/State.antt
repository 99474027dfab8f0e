-- The state of a playback, the names of its numbers, and what becomes of it.
use Rattle.std.specs.Prelude.{ℕ, Bool, true, false, not, eqb, replicate}
use Rattle.sequence.specs.Sequence.{most_steps}
use Rattle.playback.specs.{declared.Sent.Sent, declared.Playback.Playback, declared.End.End, declared.Heard.Heard}
use Rattle.playback.specs.declared.End.TheVariants.{GoesOn, ToReady, ToAbort}
use Rattle.playback.specs.declared.Heard.TheVariants.{Nothing, Started, Done}

-- the answer to a sent step: "01 marks it started, 00 and 10 done". A number that is not here counts as started
abbrev pub answer_none : ℕ
answer_none = 0

abbrev pub answer_started : ℕ
answer_started = 1

abbrev pub answer_done : ℕ
answer_done = 2

abbrev pub heard_number : Heard → ℕ
heard_number Nothing = answer_none
heard_number Started = answer_started
heard_number Done = answer_done

-- what becomes of a playback at a tick or an answer: "Playback goes to ready when all steps are done; to abort on .. an error answer .. or by the tick
-- rules"
abbrev pub goes_on : End
goes_on = GoesOn

abbrev pub to_ready : End
to_ready = ToReady

abbrev pub to_abort : End
to_abort = ToAbort

-- the same of the three
abbrev pub same_end : End → End → Bool
same_end GoesOn GoesOn = true
same_end GoesOn ToReady = false
same_end GoesOn ToAbort = false
same_end ToReady GoesOn = false
same_end ToReady ToReady = true
same_end ToReady ToAbort = false
same_end ToAbort GoesOn = false
same_end ToAbort ToReady = false
same_end ToAbort ToAbort = true

abbrev pub blank_sent : Sent
blank_sent = record { tan = 0; answer = answer_none; left = 0 }

abbrev pub is_unanswered : Sent → Bool
is_unanswered c = eqb c.answer answer_none

abbrev pub is_undone : Sent → Bool
is_undone c = not (eqb c.answer answer_done)

-- a playback that starts: nothing is counted, no step has left
unfoldable pub blank_playback : Playback
blank_playback = record { ticks = 0; distance = 0; sent = 0; commands = replicate most_steps blank_sent }
