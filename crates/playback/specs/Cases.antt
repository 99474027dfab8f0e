-- 01, "Cases": those of a tick, and of an answer in time.
use Rattle.std.specs.Prelude.{ℕ, ◌≡◌, List, [], ◌∷◌, map, length, take, replicate}
use Rattle.octets.specs.Pick.{pick}
use Rattle.message.specs.{declared.Reply.Reply, declared.Status.TheVariants.Started}
use Rattle.arrays.specs.Arrays.{pad_to}
use Rattle.client.specs.{Clients.slot_count, Records.blank_record}
use Rattle.sequence.specs.{Sequence.most_steps, Sequence.blank_step, Editions.first_edition, declared.Step.Step, declared.Sequence.Sequence}
use Rattle.playback.specs.{declared.Sent.Sent, Tick.Ticked, Tick.tick_of, Frames.frame_count_of, Answer.answered_of}
use Rattle.playback.specs.State.{goes_on, to_abort, same_end, blank_playback}

-- function 5, state 2, value 240 of slot 1, with a mark in ticks, or in millimetres where distance is 1
abbrev pub marked : ℕ → ℕ → Step
marked distance mark = record { slot = 1; function = 5; state = 2; distance = distance; value = 240; mark = mark }

abbrev pub sequence_with : List Step → Sequence
sequence_with l = record { count = length l; edition = first_edition; steps = pad_to blank_step most_steps l; records = replicate slot_count blank_record }

-- after the ticks that bring these millimetres, one after the other; none follows one that ends it
abbrev pub onward : Sequence → Ticked → List ℕ → Ticked
onward q t [] = t
onward q t (mm ∷ mms) = pick (same_end t.end goes_on) (onward q (tick_of t.playback q t.tan mm) mms) t

-- the same, from the start of the playback; the TAN before the first command is 0
abbrev pub played : Sequence → List ℕ → Ticked
played q mms = onward q (record { end = goes_on; tan = 0; playback = blank_playback }) mms

-- the tick at which each sent step left
abbrev pub leaving_ticks : Ticked → List ℕ
leaving_ticks t = map (λ (c : Sent). c.left) (take t.playback.sent t.playback.commands)

-- the client of slot 1 answers the first command
abbrev pub started : Reply
started = record { function = 5; state = 2; status = Started; error = 0; tan = 1 }

abbrev pub after_reply : Sequence → Ticked → Ticked
after_reply q t = record { end = (answered_of t.playback q 1 started).end; tan = t.tan; playback = (answered_of t.playback q 1 started).playback }

-- the frame count after so many ticks from the start, none of which brings a millimetre
abbrev pub count_after : Sequence → ℕ → ℕ
count_after q ticks =
    let t = played q (replicate ticks 0) in frame_count_of t.playback.ticks t.playback.sent t.playback.commands

-- the same, for each of the first sixteen ticks
abbrev pub counts : Sequence → List ℕ
counts q = map (count_after q) (1 ∷ 2 ∷ 3 ∷ 4 ∷ 5 ∷ 6 ∷ 7 ∷ 8 ∷ 9 ∷ 10 ∷ 11 ∷ 12 ∷ 13 ∷ 14 ∷ 15 ∷ 16 ∷ [])

pub record Cases : Type 0 where
  -- "Time marks 0, 0, 5 leave at ticks 1, 2, 5."
  pub time : leaving_ticks (played (sequence_with (marked 0 0 ∷ marked 0 0 ∷ marked 0 5 ∷ [])) (replicate 5 0)) ≡ 1 ∷ 2 ∷ 5 ∷ []
  -- "Marks 1,000 mm then tick 2, at 400 mm a tick: 3 and 4."
  pub distance : leaving_ticks (played (sequence_with (marked 1 1000 ∷ marked 0 2 ∷ [])) (replicate 4 400)) ≡ 3 ∷ 4 ∷ []
  -- "A first answer after 15 ticks is in time": the step leaves at tick 1, is answered after tick 16, and tick 17 does not abort
  pub in_time : let q = sequence_with (marked 0 0 ∷ []) in (onward q (after_reply q (played q (replicate 16 0))) (0 ∷ [])).end ≡ goes_on
  -- "none by tick 16 aborts"
  pub too_late : (played (sequence_with (marked 0 0 ∷ [])) (replicate 17 0)).end ≡ to_abort
  -- at tick 16 it goes on
  pub keeps_on : (played (sequence_with (marked 0 0 ∷ [])) (replicate 16 0)).end ≡ goes_on
  -- 02, 6: "at 0, 2 and on to 14": how many frames each of the ticks 1 to 16 writes of a step that leaves at tick 1 and is not answered
  pub repeated : counts (sequence_with (marked 0 0 ∷ [])) ≡ 1 ∷ 0 ∷ 1 ∷ 0 ∷ 1 ∷ 0 ∷ 1 ∷ 0 ∷ 1 ∷ 0 ∷ 1 ∷ 0 ∷ 1 ∷ 0 ∷ 1 ∷ 0 ∷ []
  -- of two, the second of which leaves at tick 2, and of three, the third of which leaves at tick 5
  pub in_turn : counts (sequence_with (marked 0 0 ∷ marked 0 0 ∷ [])) ≡ replicate 16 1
  pub together :
      counts (sequence_with (marked 0 0 ∷ marked 0 0 ∷ marked 0 5 ∷ []))
      ≡ 1 ∷ 1 ∷ 1 ∷ 1 ∷ 2 ∷ 1 ∷ 2 ∷ 1 ∷ 2 ∷ 1 ∷ 2 ∷ 1 ∷ 2 ∷ 1 ∷ 2 ∷ 1 ∷ []
