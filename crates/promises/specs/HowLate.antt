-- The inspector's question: how late could a step come? A tick is a tenth of a second.
use Rattle.std.specs.Prelude.{ℕ, ◌+◌, ◌≤◌, List}
use Rattle.master.specs.declared.Master.{Master}
use Rattle.events.specs.Events.{Event, run_from}
use Rattle.replay.specs.Run.{DueAt}
use Rattle.plays.specs.Plays.{Started, Lasts, ticks_in, LeftAt}

-- A step, counted from 0, leaves at most as many ticks as there are steps before it after the tick at which one of the steps up to it was due, and not before
-- any of them was due. So the first step leaves at the tick at which it is due, and step i at most i tenths of a second after the latest of those ticks.
pub record InTime (m : Master) (es : List Event) (i t : ℕ) : Type 0 where
  pub step : ℕ
  pub up_to : step ≤ i
  pub due : ℕ
  pub is_due : DueAt m.sequence (ticks_in m es) step due
  pub not_before : due ≤ t
  pub soon : t ≤ due + i
  pub none_later : (j : ℕ) → j ≤ i → (d : ℕ) × DueAt m.sequence (ticks_in m es) j d × (d ≤ t)

abbrev pub HowLate : Type 0
HowLate = (m : Master) → Started m → (es : List Event) → Lasts m es → (i t : ℕ) → LeftAt (run_from m es) i t → InTime m es i t
