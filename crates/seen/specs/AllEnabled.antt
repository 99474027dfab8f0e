-- 01, "Verification and playback" and "Clients and states": in playback every step of the sequence is one of an enabled client. A start gives "8" where a
-- client of the sequence is not enabled and "11" where a state is not in the loaded pool; a playback ends with "an enabled client lost, disabled".
use Rattle.std.specs.Prelude.{ℕ, ◌<◌, ◌≡◌, get_or}
use Rattle.sequence.specs.{Sequence.blank_step, declared.Step.Step}
use Rattle.master.specs.{declared.Master.Master, Call.slot_at}
use Rattle.events.specs.Events.{Given}
use Rattle.seen.specs.Words.{Enabled}

pub record Playable (m : Master) (s : Step) : Type 0 where
  -- "Eight slots."
  pub slot : s.slot < 8
  pub client : Enabled (slot_at m s.slot)
  -- "state ID at most 63"
  pub state : s.state < 64

-- step number i, counted from 0
abbrev pub AllEnabled : Type 0
AllEnabled = (m : Master) → Given m → m.state ≡ 4 → (i : ℕ) → i < m.sequence.count → Playable m (get_or m.sequence.steps i blank_step)
