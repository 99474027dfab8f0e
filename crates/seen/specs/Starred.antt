-- 01, "Cases": "Answer 34 05 82 00 FF FF FF FF: acknowledged 34 05 82 FF FF FF FF FF.", as one equation: by a master that calls give, in a playback, of the
-- client of a step that has left with TAN 255.
use Rattle.std.specs.Prelude.{ℕ, zero, suc, ◌≡◌, List, [], ◌∷◌, ◌++◌}
use Rattle.events.specs.Events.{Event, start, tick, answer, apply, lent_after, run}
use Rattle.events.specs.Examples.{eight_bytes, frame_buffer, recorded_run}

-- a playback of one step, whose command leaves with this TAN and is answered
abbrev played : ℕ → List Event
played tan = start ∷ tick 0 frame_buffer ∷ answer 0 (0x34 ∷ 0x05 ∷ 0x82 ∷ 0x00 ∷ tan ∷ 0xFF ∷ 0xFF ∷ 0xFF ∷ []) eight_bytes ∷ []

abbrev played_to : ℕ → List Event
played_to zero = []
played_to (suc n) = played_to n ++ played (suc n)

-- 254 commands are answered, and the next has left
abbrev pub starred_run : List Event
starred_run = recorded_run ++ played_to 254 ++ start ∷ tick 0 frame_buffer ∷ []

abbrev pub starred_answer : Event
starred_answer = answer 0 (0x34 ∷ 0x05 ∷ 0x82 ∷ 0x00 ∷ 0xFF ∷ 0xFF ∷ 0xFF ∷ 0xFF ∷ []) eight_bytes

-- the number that it gives, then the lent bytes
abbrev pub Starred : Type 0
Starred =
    (apply (run starred_run) starred_answer).number ∷ lent_after (run starred_run) starred_answer
    ≡ 0 ∷ 0x34 ∷ 0x05 ∷ 0x82 ∷ 0xFF ∷ 0xFF ∷ 0xFF ∷ 0xFF ∷ 0xFF ∷ []
