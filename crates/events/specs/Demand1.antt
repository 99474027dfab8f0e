-- 01, "Numbers a call gives back" and "How far each promise goes": what holds of every event, over the definitions that the contracts cite.
use Rattle.std.specs.Prelude.{ℕ, ◌+◌, ◌*◌, ◌≤◌, ◌<◌, ◌≡◌, Bool, true, List, [], ◌∷◌, map, eqb, length, get_or}
use Rattle.octets.specs.Numbers.{completed, too_short, wrong_state, wrong_slot, wrong_value, not_stored}
use Rattle.arrays.specs.{Arrays.some, Arrays.more, Every.Every}
use Rattle.client.specs.Clients.{slot_count, blank_slot}
use Rattle.sequence.specs.Sequence.{most_steps, last_tick, blank_step, length_of, steps_of}
use Rattle.sequence.specs.Editions.{is_edition, edition_of}
use Rattle.recording.specs.Indication.{held_of}
use Rattle.playback.specs.{State.blank_sent, Promises.EveryHolds, Promises.FirstFails}
use Rattle.playback.specs.Verification.{is_listed, is_in_pool, checks_of}
use Rattle.message.specs.declared.Reply.{Reply}
use Rattle.master.specs.{declared.Master.Master, Messages.is_answer, Messages.reply_in}
use Rattle.master.specs.States as state
use Rattle.events.specs.Events.{Event, on, start, tick, answer, call_of, apply, lent, lent_after, Given}
use Rattle.events.specs.Examples.{number_after, examples_of}

-- ---- "Every number but 0 leaves the state and all lent memory unchanged."

abbrev pub RefusedSame : Type 0
RefusedSame = (m : Master) (e : Event) → ((apply m e).number ≡ completed → ⊥) → ((apply m e).master ≡ m) × (lent_after m e ≡ lent m e)

-- ---- "A call is refused only where the table or a rule names the number"

abbrev pub is_among : ℕ → List ℕ → Bool
is_among n l = some (eqb n) l

pub record InTable : Type 0 where
  -- a call gives no number but those that its record names
  pub call : (m : Master) (e : Event) → is_among (apply m e).number (call_of m e).numbers ≡ true
  -- and each of them, in some example
  pub reached : (m : Master) (e : Event) → map number_after (examples_of e) ≡ (call_of m e).numbers
  -- all are numbers of 01's table, or 16 or 17 of 02
  pub table : (m : Master) (e : Event) → (apply m e).number ≤ not_stored

-- ---- "in an active state every tick with at least 576 bytes lent and its millimetres in range is accepted, and in playback every answer that matches a
-- sent step"

-- "An E.7 must match slot, TAN, function and state of a sent step": the step's number, counted from 0, is below the number of those sent
pub record MatchesSent (m : Master) (slot : ℕ) (r : Reply) : Type 0 where
  pub step : ℕ
  pub sent : step < m.playback.sent
  pub slot_matches : (get_or m.sequence.steps step blank_step).slot ≡ slot
  pub tan_matches : (get_or m.playback.commands step blank_sent).tan ≡ r.tan
  pub function_matches : (get_or m.sequence.steps step blank_step).function ≡ r.function
  pub state_matches : (get_or m.sequence.steps step blank_step).state ≡ r.state

pub record NeverRefused : Type 0 where
  pub ticks :
      (m : Master) (mm : ℕ) (out : List ℕ)
      → (m.state ≡ state.inactive → ⊥) → 576 ≤ length out → mm ≤ 65535
      → (apply m (tick mm out)).number ≡ completed
  pub answers :
      (m : Master) (slot : ℕ) (msg out : List ℕ)
      → Given m → m.state ≡ state.playback → 8 ≤ length out → is_answer msg ≡ true → MatchesSent m slot (reply_in msg)
      → (apply m (answer slot msg out)).number ≡ completed

-- ---- "While the master is inactive, every call on it but "on" gives 2, unless 1, 4 or 3 comes first."

abbrev pub while_inactive : List ℕ
while_inactive = too_short ∷ wrong_value ∷ wrong_slot ∷ wrong_state ∷ []

abbrev pub Inactive : Type 0
Inactive =
    (m : Master) (e : Event) → m.state ≡ state.inactive → (e ≡ on → ⊥) → is_among (apply m e).number while_inactive ≡ true

-- ---- "starts exactly when": "Start, from ready: 7; then for each slot of the sequence, lowest first, 8, 9 and 10 before the next slot; then by step 11;
-- then by slot 12." 02, request 11: "Prove once, over both editions, that verification names the first check that does not hold": by the edition of the
-- sequence, whichever it is

pub record StartExactly : Type 0 where
  -- it starts when the master is ready and every check holds
  pub starts : (m : Master) → m.state ≡ state.ready → EveryHolds (checks_of m.sequence.edition m.slots m.sequence) → (apply m start).number ≡ completed
  -- and only then
  pub only : (m : Master) → (apply m start).number ≡ completed → (m.state ≡ state.ready) × EveryHolds (checks_of m.sequence.edition m.slots m.sequence)
  -- the master is in playback then
  pub playing : (m : Master) → (apply m start).number ≡ completed → (apply m start).master.state ≡ state.playback
  -- otherwise 2 outside ready, and in ready the number of the first check that does not hold
  pub barred : (m : Master) → (m.state ≡ state.ready → ⊥) → (apply m start).number ≡ wrong_state
  pub names :
      (m : Master) → m.state ≡ state.ready → ((apply m start).number ≡ completed → ⊥)
      → FirstFails (checks_of m.sequence.edition m.slots m.sequence) (apply m start).number

-- ---- what is counted is never cut short: a count of 32 bits would stop at 4,294,967,295

-- below tick 36,000, and at most 65,535 mm a tick
abbrev pub Counted : ℕ → ℕ → Type 0
Counted ticks distance = (ticks < last_tick) × (distance ≤ ticks * 65535)

pub record NeverCut : Type 0 where
  -- on every master that calls give
  pub recording : (m : Master) → Given m → Counted m.recording.ticks m.recording.distance
  pub playback : (m : Master) → Given m → Counted m.playback.ticks m.playback.distance
  -- so a tick adds exactly 1 and its millimetres
  pub adds : (ticks distance mm : ℕ) → Counted ticks distance → mm ≤ 65535 → (more ticks 1 ≡ ticks + 1) × (more distance mm ≡ distance + mm)

-- ---- what definitions guard against and 01 does not name, such as a slot above 7 in a step: it is so on no master that calls give

pub record Bounded (m : Master) : Type 0 where
  pub slots : Every (λ s. s.slot < slot_count) (steps_of m.sequence)
  pub held_slots : Every (λ t. t.step.slot < slot_count) (held_of m.recording)
  pub steps : m.sequence.count ≤ most_steps
  pub held : m.recording.count ≤ most_steps
  -- no more steps have left than there are
  pub sent : m.playback.sent ≤ m.sequence.count
  pub state : m.state ≤ state.abort
  pub tan : m.tan ≤ 255
  -- the edition is 1 or 2, and 0 with no sequence, as it is read
  pub edition : edition_of m.sequence ≡ m.sequence.edition
  pub known : 1 ≤ m.sequence.count → is_edition m.sequence.edition ≡ true
  -- so the tests against these bounds decide nothing: all steps count, and each is looked up in its client's pool
  pub counted : length_of m.sequence ≡ m.sequence.count
  pub looked_up : Every (λ s. is_in_pool m.slots s ≡ is_listed (get_or m.slots s.slot blank_slot).profile s.function s.state) (steps_of m.sequence)

abbrev pub NeverBites : Type 0
NeverBites = (m : Master) → Given m → Bounded m
