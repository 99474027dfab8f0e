-- 01, "Verification and playback", the frames of a tick: "then each sent, unanswered step is written in one frame, oldest first. A tick fills a frame
-- buffer of 576 bytes, nine to a frame: slot, then the eight of E.6; the rest are 00. Bytes past 576 stay." At which ticks a step is written, and how many
-- frames there are, 02 decides, request 6: "A command leaves again only at even ticks after it first left, so at 0, 2 and on to 14. The abort at 16 stays.
-- The frame count becomes the frames really written, by a definition over steps and tick".
use Rattle.std.specs.Prelude.{ℕ, suc, ◌/◌, ◌%◌, Bool, cond, ◌&&◌, List, [], ◌∷◌, ◌++◌, eqb, take}
use Rattle.arrays.specs.Arrays.{pad_to}
use Rattle.sequence.specs.declared.Step.{Step}
use Rattle.playback.specs.{declared.Sent.Sent, declared.Playback.Playback, State.is_unanswered}

-- "slot, then the eight of E.6": code 33, function, state, TAN, and the value, least significant byte first
abbrev pub frame_of : Step → ℕ → List ℕ
frame_of s tan =
    s.slot ∷ 0x33 ∷ s.function ∷ s.state ∷ tan
    ∷ s.value % 256 ∷ s.value / 256 % 256 ∷ s.value / 65536 % 256 ∷ s.value / 16777216 % 256 ∷ []

-- "at even ticks after it first left": both ticks are even, or both odd. The tick at which it first left is one of them, 0 ticks after
abbrev pub is_even_after : ℕ → ℕ → Bool
is_even_after left ticks = eqb (left % 2) (ticks % 2)

-- what was sent is written at this tick: it is unanswered, and may leave, for the first time or again. 14 ticks after is the last time, since 16 aborts
abbrev pub is_written : ℕ → Sent → Bool
is_written ticks c = is_unanswered c && is_even_after c.left ticks

-- "written in one frame, oldest first": of what was sent and its steps, in order, those of which the test holds
abbrev pub framed : (Sent → Bool) → List Sent → List Step → List ℕ
framed test [] ss = []
framed test (c ∷ cs) [] = []
framed test (c ∷ cs) (s ∷ ss) = cond (test c) (frame_of s c.tan ++ framed test cs ss) (framed test cs ss)

-- how many they are
abbrev pub frame_count : (Sent → Bool) → List Sent → ℕ
frame_count test [] = 0
frame_count test (c ∷ cs) = cond (test c) (suc (frame_count test cs)) (frame_count test cs)

-- "a frame buffer of 576 bytes, nine to a frame .. the rest are 00"
unfoldable pub filled_of : ℕ → ℕ → List Step → List Sent → List ℕ
filled_of ticks sent steps commands = pad_to 0 576 (framed (is_written ticks) (take sent commands) steps)

-- "The frame count becomes the frames really written, by a definition over steps and tick"
unfoldable pub frame_count_of : ℕ → ℕ → List Sent → ℕ
frame_count_of ticks sent commands = frame_count (is_written ticks) (take sent commands)

unfoldable pub frames_of : Playback → List Step → List ℕ
frames_of p steps = filled_of p.ticks p.sent steps p.commands
