-- 01, "Verification and playback": "The TAN starts at 0 when the master is made, and rises by 1 before each new command, 255 to 0.": over every run it is
-- the number of commands that ever left, modulo 256.
use Rattle.std.specs.Prelude.{ℕ, ◌+◌, ◌-◌, ◌%◌, ◌≤◌, ◌≡◌, List, [], ◌∷◌}
use Rattle.master.specs.{declared.Master.Master, States.new_master}
use Rattle.events.specs.Events.{Event, tick, apply, run}

-- how many commands leave at an event: so many more steps of the playback are sent after it; none where a playback starts or ends
abbrev pub left_at : Master → Event → ℕ
left_at m e = (apply m e).master.playback.sent - m.playback.sent

abbrev pub left_from : Master → List Event → ℕ
left_from m [] = 0
left_from m (e ∷ events) = left_at m e + left_from (apply m e).master events

abbrev pub ever_left : List Event → ℕ
ever_left events = left_from new_master events

-- "one new step a tick", in playback; no other event sends a command
pub data Leaving (m : Master) : Event → Type 0 where
  at_tick : (mm : ℕ) (out : List ℕ) → m.state ≡ 4 → (apply m (tick mm out)).number ≡ 0 → Leaving m (tick mm out)

pub record Tan : Type 0 where
  pub counts : (events : List Event) → (run events).tan ≡ ever_left events % 256
  pub one : (m : Master) (e : Event) → left_at m e ≤ 1
  pub only : (m : Master) (e : Event) → (left_at m e ≡ 0 → ⊥) → Leaving m e
