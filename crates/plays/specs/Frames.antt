-- 01, "Verification and playback", what a tick writes: "then each sent, unanswered step is written in one frame, oldest first. A tick fills a frame buffer
-- of 576 bytes, nine to a frame: slot, then the eight of E.6; the rest are 00. Bytes past 576 stay." And 02, request 6: "A command leaves again only at even
-- ticks after it first left, so at 0, 2 and on to 14. The abort at 16 stays. The frame count becomes the frames really written".
use Rattle.std.specs.Prelude.{ℕ, ◌+◌, ◌-◌, ◌*◌, ◌/◌, ◌%◌, ◌≤◌, ◌<◌, ◌≡◌, ◌↔◌, ◌⊎◌, length, take, drop, replicate}
use mathlib.Core.List.{List, [], ◌∷◌, ◌++◌, flat_map}
use Rattle.octets.specs.Numbers.{completed}
use Rattle.arrays.specs.Every.{EveryTwo}
use Rattle.sequence.specs.Sequence.{length_of}
use Rattle.master.specs.declared.Master.{Master}
use Rattle.events.specs.Events.{Event, tick, apply, lent_after, run_from}
use Rattle.replay.specs.Run.{Latest}
use Rattle.plays.specs.Plays.{Started, Playing, Lasts, ticks_in, step_at, tan_of, command_of, LeftAt, HasLeft, Replied}

-- step i has left, and its client has not answered
abbrev pub Unanswered : Master → List Event → ℕ → Type 0
Unanswered m es i = HasLeft m es i × ¬ Replied m es i

-- at the last of these calls, a tick, the command of step i leaves, for the first time or again
pub record Leaves (m : Master) (es : List Event) (i : ℕ) : Type 0 where
  -- the tick at which "it first left"
  pub first : ℕ
  pub is_the_first : Latest m.sequence (ticks_in m es) i first
  -- "at even ticks after it first left, so at 0, 2 and on to 14": how often it has left again
  pub again : ℕ
  pub few : again ≤ 7
  pub even : first + 2 * again ≡ length (ticks_in m es)
  -- "each sent, unanswered step"
  pub unanswered : ¬ Replied m es i

abbrev pub Member : ℕ → List ℕ → Type 0
Member i [] = ⊥
Member i (j ∷ l) = (i ≡ j) ⊎ Member i l

-- what an accepted tick writes through which the playback lasts, after the calls es
pub record FramesAt (m : Master) (es : List Event) (mm : ℕ) (out : List ℕ) : Type 0 where
  -- those whose command leaves at this tick, "oldest first"
  pub steps : List ℕ
  pub ascending : EveryTwo (λ i j. i < j) steps
  pub those : (i : ℕ) → Member i steps ↔ Leaves m (es ++ tick mm out ∷ []) i
  -- at most eight, which first left 0, 2, .. 14 ticks ago: there is room for them
  pub few : length steps ≤ 8
  -- their commands, one after the other, "the rest are 00. Bytes past 576 stay."
  pub bytes : lent_after (run_from m es) (tick mm out) ≡ flat_map (command_of m) steps ++ (replicate (576 - 9 * length steps) 0x00 ++ drop 576 out)
  -- "The frame count becomes the frames really written"
  pub count : (apply (run_from m es) (tick mm out)).count ≡ length steps

-- the calls come to an accepted tick, the t-th, before which step i has not left, and at which it leaves: its command is the last that is written
pub record FirstLeaves (m : Master) (es : List Event) (i t : ℕ) : Type 0 where
  pub earlier : List Event
  pub mm : ℕ
  pub out : List ℕ
  pub later : List Event
  pub split : es ≡ earlier ++ tick mm out ∷ later
  pub lasts : Lasts m (earlier ++ tick mm out ∷ [])
  pub accepted : (apply (run_from m earlier) (tick mm out)).number ≡ completed
  pub number : length (ticks_in m earlier) + 1 ≡ t
  pub not_before : ¬ HasLeft m earlier i
  pub written : FramesAt m earlier mm out
  pub others : List ℕ
  pub last : written.steps ≡ others ++ i ∷ []

-- frame number k of these bytes
abbrev pub frame_at : ℕ → List ℕ → List ℕ
frame_at k bytes = take 9 (drop (k * 9) bytes)

pub record Frames : Type 0 where
  -- at every accepted tick through which the playback lasts
  pub written : (m : Master) → Started m → (es : List Event) (mm : ℕ) (out : List ℕ) → Lasts m (es ++ tick mm out ∷ [])
      → (apply (run_from m es) (tick mm out)).number ≡ completed → FramesAt m es mm out
  -- "A command leaves again only at even ticks after it first left", exactly then, and "each repeat is the same command": the one of its step
  pub repeats : (m : Master) → Started m → (es : List Event) (mm : ℕ) (out : List ℕ) → Lasts m (es ++ tick mm out ∷ [])
      → (apply (run_from m es) (tick mm out)).number ≡ completed
      → (i : ℕ) → i < length_of m.sequence
      → Leaves m (es ++ tick mm out ∷ []) i
      ↔ ((k : ℕ) × ((k < (apply (run_from m es) (tick mm out)).count) × (frame_at k (lent_after (run_from m es) (tick mm out)) ≡ command_of m i)))
  -- and there is no other frame: each of those that the tick counts is that of a step that waits
  pub no_other : (m : Master) → Started m → (es : List Event) (mm : ℕ) (out : List ℕ) → Lasts m (es ++ tick mm out ∷ [])
      → (apply (run_from m es) (tick mm out)).number ≡ completed
      → (k : ℕ) → k < (apply (run_from m es) (tick mm out)).count
      → (i : ℕ) × (Unanswered m (es ++ tick mm out ∷ []) i × (frame_at k (lent_after (run_from m es) (tick mm out)) ≡ command_of m i))
  -- "An aborting tick, or one in another active state, writes 576 zero bytes, count 0.": of every master
  pub without_frames : (m : Master) (mm : ℕ) (out : List ℕ) → (apply m (tick mm out)).number ≡ completed → ¬ Playing (apply m (tick mm out)).master
      → (lent_after m (tick mm out) ≡ replicate 576 0x00 ++ drop 576 out) × ((apply m (tick mm out)).count ≡ 0)
  -- at the tick at which it leaves a step first stands in the lent bytes
  pub first : (m : Master) → Started m → (es : List Event) → Lasts m es → (i t : ℕ) → LeftAt (run_from m es) i t → FirstLeaves m es i t
  -- a command, byte by byte: slot, code 33, function, state, TAN and the value, least significant byte first
  pub command : (m : Master) → Started m → (i : ℕ) → i < length_of m.sequence
      → command_of m i
      ≡ (step_at m i).slot ∷ 0x33 ∷ (step_at m i).function ∷ (step_at m i).state ∷ tan_of m i
      ∷ (step_at m i).value % 256 ∷ (step_at m i).value / 256 % 256 ∷ (step_at m i).value / 65536 % 256 ∷ (step_at m i).value / 16777216 % 256 ∷ []
  -- commands of two steps of one playback differ
  pub differ : (m : Master) → Started m → (i j : ℕ) → i < length_of m.sequence → j < length_of m.sequence → command_of m i ≡ command_of m j → i ≡ j
