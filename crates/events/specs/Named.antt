-- Why a start is refused, to the screen: the reader `verify` names the check by which a start is refused, with its slot and its step, and starts nothing.
use Rattle.std.specs.Prelude.{◌≤◌, ◌<◌, ◌≡◌}
use Rattle.octets.specs.Numbers.{not_enabled, label_differs, not_in_pool, not_ready}
use Rattle.playback.specs.Verification.{rule_of, client_checks, ready_checks}
use Rattle.playback.specs.Places.{LowestFails, FirstMissing}
use Rattle.master.specs.{declared.Master.Master, Readers.verify_view}
use Rattle.master.specs.States as state
use Rattle.events.specs.Events.{start, apply, Given}

pub record NamedCheck : Type 0 where
  -- in ready a start gives exactly its number
  pub number : (m : Master) → m.state ≡ state.ready → (apply m start).number ≡ (verify_view m).number
  -- on every master that calls give: with 8, 9 and 10 the slot is the lowest of which one of these does not hold
  pub client :
      (m : Master) → Given m → not_enabled ≤ (verify_view m).number → (verify_view m).number ≤ label_differs
      → LowestFails (client_checks (rule_of m.sequence.edition)) m.slots m.sequence.records (verify_view m).slot (verify_view m).number
  -- with 11 the step is the first that is not in the pool loaded in its slot
  pub step : (m : Master) → Given m → (verify_view m).number ≡ not_in_pool → FirstMissing m.slots m.sequence (verify_view m).slot (verify_view m).step
  -- with 12 the slot is the lowest of a client of the sequence that does not report ready
  pub report :
      (m : Master) → Given m → (verify_view m).number ≡ not_ready → LowestFails ready_checks m.slots m.sequence.records (verify_view m).slot not_ready
  -- of every master: with any other number than 11 the step is 0, and with 0 and 7 the slot too
  pub without_step : (m : Master) → ((verify_view m).number ≡ not_in_pool → ⊥) → (verify_view m).step ≡ 0
  pub no_slot : (m : Master) → (verify_view m).number < not_enabled → (verify_view m).slot ≡ 0
