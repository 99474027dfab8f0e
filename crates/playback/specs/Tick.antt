-- 01, "Verification and playback", a tick: "count it; at tick 36,000 abort; if a sent step has no answer 16 ticks after it first left, abort; else the
-- next step in order leaves if due, one new step a tick".
use Rattle.std.specs.Prelude.{ℕ, ◌+◌, Bool, false, not, ◌&&◌, ◌||◌, List, eqb, leb, ltb, take, get_or, set}
use Rattle.octets.specs.Pick.{pick}
use Rattle.arrays.specs.Arrays.{some, more}
use Rattle.sequence.specs.Sequence.{most_steps, last_tick, blank_step, length_of}
use Rattle.sequence.specs.{declared.Step.Step, declared.Sequence.Sequence}
use Rattle.playback.specs.{declared.Sent.Sent, declared.Playback.Playback, declared.End.End}
use Rattle.playback.specs.State.{answer_none, goes_on, to_abort, is_unanswered}

-- "count it", and the millimetres that it brings
unfoldable pub counted_playback : Playback → ℕ → Playback
counted_playback p mm = record { ticks = more p.ticks 1; distance = more p.distance mm; sent = p.sent; commands = p.commands }

-- "no answer 16 ticks after it first left"
abbrev pub answer_ticks : ℕ
answer_ticks = 16

-- "a sent step has no answer 16 ticks after it first left"
abbrev pub is_late : ℕ → Sent → Bool
is_late ticks c = is_unanswered c && leb (c.left + answer_ticks) ticks

unfoldable pub some_late : ℕ → ℕ → List Sent → Bool
some_late ticks sent commands = some (is_late ticks) (take sent commands)

-- "at tick 36,000 abort; if a sent step has no answer 16 ticks after it first left, abort"
unfoldable pub does_stop : Playback → Bool
does_stop p = leb last_tick p.ticks || some_late p.ticks p.sent p.commands

-- a step is due at its mark, which is in ticks, or in millimetres where `distance` is not 0
abbrev pub is_due : Step → ℕ → ℕ → Bool
is_due s ticks distance = (eqb s.distance 0 && leb s.mark ticks) || (not (eqb s.distance 0) && leb s.mark distance)

-- "the next step in order leaves if due": step number `sent`, counted from 0, if there is one
unfoldable pub does_leave : Playback → List Step → ℕ → Bool
does_leave p steps count =
    pick (leb most_steps p.sent) false
    (ltb p.sent count && is_due (get_or steps p.sent blank_step) p.ticks p.distance)

-- "The TAN .. rises by 1 before each new command, 255 to 0."
unfoldable pub next_tan : ℕ → ℕ
next_tan tan = pick (leb 255 tan) 0 (tan + 1)

-- the next step has left, at this tick, with this TAN
unfoldable pub after_leaving : Playback → ℕ → Playback
after_leaving p tan =
    record {
      ticks = p.ticks;
      distance = p.distance;
      sent = p.sent + 1;
      commands = set p.commands p.sent (record { tan = tan; answer = answer_none; left = p.ticks });
    }

-- after a tick: what becomes of the playback, and the TAN of the last command
pub record Ticked : Type 0 where
  pub end : End
  pub tan : ℕ
  pub playback : Playback

abbrev pub ticked : End → ℕ → Playback → Ticked
ticked end tan p = record { end = end; tan = tan; playback = p }

-- "count it; .. abort; else the next step in order leaves if due, one new step a tick"
unfoldable pub tick_of : Playback → Sequence → ℕ → ℕ → Ticked
tick_of p sequence tan mm =
    let q = counted_playback p mm in
    pick (does_stop q) (record { end = to_abort; tan = tan; playback = q })
    (pick (not (does_leave q sequence.steps (length_of sequence))) (record { end = goes_on; tan = tan; playback = q })
    (record { end = goes_on; tan = next_tan tan; playback = after_leaving q (next_tan tan) }))
