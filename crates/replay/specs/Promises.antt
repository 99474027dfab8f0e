-- When the steps of a playback leave, and when it ends: of every run of the calls' definitions, from the start, over a sequence
-- in an array of 64 and ticks of at most 65,535 mm.
use Rattle.std.specs.Prelude.{ℕ, ◌+◌, ◌≤◌, ◌<◌, ◌≡◌, ◌↔◌, ◌⊎◌, List, [], ◌∷◌, ◌++◌, length}
use Rattle.sequence.specs.Sequence.{last_tick, length_of}
use Rattle.sequence.specs.declared.Sequence.{Sequence}
use Rattle.playback.specs.{declared.Playback.Playback, State.answer_done, Tick.answer_ticks}
use Rattle.replay.specs.Run.{PlaybackEvent, going, done, aborted, step_of, play_run, Going, Whole, Fair, ticks_of, sent_at, HasLeftAt, AnsweredAt, DueAt, Latest, Raised, PlaybackCause}

pub record Promises : Type 0 where
  -- "While the playback lasts, step i first leaves at exactly the latest of these ticks"
  pub exactly : (sequence : Sequence) → Whole sequence → (tan : ℕ) (es : List PlaybackEvent) → Fair es → Going (play_run sequence tan es)
      → (i t : ℕ) → HasLeftAt (play_run sequence tan es) i t ↔ (Latest sequence (ticks_of es) i t × (t ≤ length (ticks_of es)))
  -- "While one of them is not yet due, step i does not leave."
  pub waits : (sequence : Sequence) → Whole sequence → (tan : ℕ) (es : List PlaybackEvent) → Fair es → (i j : ℕ) → j ≤ i
      → ((d : ℕ) → ¬ DueAt sequence (ticks_of es) j d) → (t : ℕ) → ¬ HasLeftAt (play_run sequence tan es) i t
  -- "The TAN .. rises by 1 before each new command, 255 to 0."
  pub tans : (sequence : Sequence) → Whole sequence → (tan : ℕ) (es : List PlaybackEvent) → Fair es → (p : Playback) (x : ℕ) → play_run sequence tan es ≡ going p x
      → Raised tan p x
  -- "No message a client sends can move that tick; it can only end the playback.": the same ticks give the same leavings, whatever the TAN
  pub unmoved : (sequence : Sequence) → Whole sequence → (tan tan' : ℕ) (es fs : List PlaybackEvent) → Fair es → Fair fs
      → Going (play_run sequence tan es) → Going (play_run sequence tan' fs) → ticks_of es ≡ ticks_of fs
      → (i t : ℕ) → HasLeftAt (play_run sequence tan es) i t → HasLeftAt (play_run sequence tan' fs) i t
  -- "By the sixteenth tick after a command first left, its client has answered it or the playback has ended in an abort."
  pub sixteen : (sequence : Sequence) → Whole sequence → (tan : ℕ) (a b : List PlaybackEvent) → Fair (a ++ b)
      → (i t : ℕ) → HasLeftAt (play_run sequence tan a) i t → t + answer_ticks ≤ length (ticks_of (a ++ b))
      → AnsweredAt (play_run sequence tan (a ++ b)) i ⊎ (play_run sequence tan (a ++ b) ≡ aborted)
  -- "at tick 36,000 abort": no playback lasts longer
  pub in_time : (sequence : Sequence) → Whole sequence → (tan : ℕ) (es : List PlaybackEvent) → Fair es → last_tick ≤ length (ticks_of es) → ¬ Going (play_run sequence tan es)
  -- "nothing else ends it"
  pub cause : (sequence : Sequence) → Whole sequence → (tan : ℕ) (es : List PlaybackEvent) → Fair es → (p : Playback) (x : ℕ) → play_run sequence tan es ≡ going p x
      → (e : PlaybackEvent) → Fair (e ∷ []) → ¬ Going (step_of sequence (going p x) e) → PlaybackCause sequence p e
  -- "Playback goes to ready when all steps are done"
  pub all_done : (sequence : Sequence) → Whole sequence → (tan : ℕ) (es : List PlaybackEvent) → Fair es → (p : Playback) → play_run sequence tan es ≡ done p
      → (i : ℕ) → i < length_of sequence → (i < p.sent) × ((sent_at p i).answer ≡ answer_done)
