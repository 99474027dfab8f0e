-- Words that the theorems share. A state is a number: 0 inactive, 1 ready, 2 record, 3 record complete, 4 playback, 5 abort; so is a report:
-- 0 disabled, 1 ready, 2 record, 4 playback, 5 abort.
use Rattle.std.specs.Prelude.{ℕ, ◌-◌, ◌<◌, ◌≡◌, ◌⊎◌, List, get_or}
use Rattle.arrays.specs.Every.{Every}
use Rattle.client.specs.declared.Client.{Client}
use Rattle.master.specs.declared.Master.{Master}
use Rattle.events.specs.Events.{Event, apply}

-- the call gives 0
abbrev pub Done : Master → Event → Type 0
Done m e = (apply m e).number ≡ 0

-- byte k of a message, counted from 1
abbrev pub nth : ℕ → List ℕ → ℕ
nth k msg = get_or msg (k - 1) 0

abbrev pub Bytes : List ℕ → Type 0
Bytes msg = Every (λ b. b < 256) msg

-- "A client is enabled if wanted and its last report is not disabled."
pub record Enabled (s : Client) : Type 0 where
  pub attached : s.taken ≡ 0 → ⊥
  pub wanted : s.wanted ≡ 0 → ⊥
  pub awake : s.report ≡ 0 → ⊥

-- record or record complete
abbrev pub InRecording : Master → Type 0
InRecording m = (m.state ≡ 2) ⊎ (m.state ≡ 3)
