-- 01, "Clients and states": the master is in one state at a time; outside record and record complete it holds nothing of a recording, outside playback
-- nothing of a playback. So on every way to ready both are blank.
use Rattle.std.specs.Prelude.{◌≡◌}
use Rattle.recording.specs.State.{blank_recording}
use Rattle.playback.specs.State.{blank_playback}
use Rattle.master.specs.declared.Master.{Master}
use Rattle.events.specs.Events.{Given}

pub record Blank (m : Master) : Type 0 where
  pub recording : (m.state ≡ 2 → ⊥) → (m.state ≡ 3 → ⊥) → m.recording ≡ blank_recording
  pub playback : (m.state ≡ 4 → ⊥) → m.playback ≡ blank_playback

abbrev pub BlankOutside : Type 0
BlankOutside = (m : Master) → Given m → Blank m
