-- "3. Number the accepted ticks of a playback from 1; ..": when each step leaves.
use Rattle.std.specs.Prelude.{ℕ, ◌+◌, ◌%◌, ◌≤◌, ◌<◌, ◌≡◌, ◌↔◌, List, length}
use Rattle.playback.specs.State.{blank_playback}
use Rattle.replay.specs.Run.{Whole, DueAt, Latest, sent_at}
use Rattle.master.specs.declared.Master.{Master}
use Rattle.events.specs.Events.{Event, run_from, Given}
use Rattle.plays.specs.Plays.{Started, Playing, Lasts, ticks_in, tan_of, LeftAt}

pub record Leavings : Type 0 where
  -- every master that calls give holds its sequence in an array of 64
  pub whole : (m : Master) → Given m → Whole m.sequence
  -- an accepted start begins a playback in which nothing is counted and no step has left
  pub begins : (m : Master) → Started m → Playing m × (m.playback ≡ blank_playback)
  -- the sequence does not change while the playback lasts
  pub fixed : (m : Master) → Started m → (es : List Event) → Lasts m es → (run_from m es).sequence ≡ m.sequence
  -- "While the playback lasts, step i first leaves at exactly the latest of these ticks: for each step j up to i, the tick where j is due, plus i minus j."
  pub exactly : (m : Master) → Started m → (es : List Event) → Lasts m es
      → (i t : ℕ) → LeftAt (run_from m es) i t ↔ (Latest m.sequence (ticks_in m es) i t × (t ≤ length (ticks_in m es)))
  -- "While one of them is not yet due, step i does not leave."
  pub not_yet_due : (m : Master) → Started m → (es : List Event) → Lasts m es → (i j : ℕ) → j ≤ i
      → ((d : ℕ) → ¬ DueAt m.sequence (ticks_in m es) j d) → (t : ℕ) → ¬ LeftAt (run_from m es) i t
  -- "No message a client sends can move that tick; it can only end the playback.": the same accepted ticks give the same leavings, whatever else is called
  pub unmoved : (m n : Master) → Started m → Started n → m.sequence ≡ n.sequence → (es fs : List Event) → Lasts m es → Lasts n fs
      → ticks_in m es ≡ ticks_in n fs → (i t : ℕ) → LeftAt (run_from m es) i t → LeftAt (run_from n fs) i t
  -- "The TAN .. rises by 1 before each new command, 255 to 0."
  pub tans : (m : Master) → Started m → (es : List Event) → Lasts m es
      → ((run_from m es).tan ≡ (m.tan + (run_from m es).playback.sent) % 256)
      × ((i : ℕ) → i < (run_from m es).playback.sent → (sent_at (run_from m es).playback i).tan ≡ tan_of m i)
