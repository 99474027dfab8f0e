-- When the steps of a playback leave, and when it ends.
use Rattle.std.specs.Prelude.{ℕ, suc, ◌+◌, ◌≤◌, max, ◌≡◌, ◌↔◌, ◌⊎◌, List, [], ◌∷◌, ◌++◌, length}
use Rattle.ticks.specs.Queue.{Mark, QueueEvent, tick, ends, over, queue_run, QueueLasts, tick_list, QueueDueAt, QueueLatest, leavings, LeavesAt, Leaves, QueueAnswered, before}

-- why event e ends a playback that has lasted through es
pub data QueueCause (marks : List Mark) (es : List QueueEvent) : QueueEvent → Type 0 where
  ended : QueueCause marks es ends
  too_long : (mm : ℕ) → 36000 ≤ suc (length (tick_list es)) → QueueCause marks es (tick mm)
  no_answer : (mm i t : ℕ) → LeavesAt marks es i t → t + 16 ≤ suc (length (tick_list es)) → ¬ QueueAnswered (queue_run marks es) i → QueueCause marks es (tick mm)

pub record Promises : Type 0 where
  -- "While the playback lasts, step i first leaves at exactly the latest of these ticks: for each step j up to i, the tick where j is due, plus i minus j."
  pub exactly : (marks : List Mark) (es : List QueueEvent) → QueueLasts (queue_run marks es)
      → (i t : ℕ) → LeavesAt marks es i t ↔ (QueueLatest marks es i t × (t ≤ length (tick_list es)))
  -- the tick that is written beside a step is the one at which it left
  pub when : (marks : List Mark) (es : List QueueEvent) → QueueLasts (queue_run marks es) → (i t : ℕ) → LeavesAt marks es i t ↔ Leaves marks es i t
  -- the same rule, step by step: one tick after the step before it, or where it is due, whichever is later
  pub next : (marks : List Mark) (es : List QueueEvent) → QueueLasts (queue_run marks es) → (i t : ℕ) → LeavesAt marks es i t
      → (d : ℕ) × QueueDueAt marks es i d × (t ≡ max (suc (before (leavings (queue_run marks es)) i)) d)
  -- "While one of them is not yet due, step i does not leave."
  pub waits : (marks : List Mark) (es : List QueueEvent) → QueueLasts (queue_run marks es) → (i j : ℕ) → j ≤ i
      → ((d : ℕ) → ¬ QueueDueAt marks es j d) → (t : ℕ) → ¬ LeavesAt marks es i t
  -- "No message a client sends can move that tick; it can only end the playback.": the same ticks give the same leavings
  pub unmoved : (marks : List Mark) (es fs : List QueueEvent) → QueueLasts (queue_run marks es) → QueueLasts (queue_run marks fs)
      → tick_list es ≡ tick_list fs → leavings (queue_run marks es) ≡ leavings (queue_run marks fs)
  -- "By the sixteenth tick after a command first left, its client has answered it or the playback has ended"
  pub sixteen : (marks : List Mark) (a b : List QueueEvent) (i t : ℕ) → LeavesAt marks a i t → t + 16 ≤ length (tick_list (a ++ b))
      → QueueAnswered (queue_run marks (a ++ b)) i ⊎ (queue_run marks (a ++ b) ≡ over)
  -- "at tick 36,000 abort"
  pub in_time : (marks : List Mark) (es : List QueueEvent) → 36000 ≤ length (tick_list es) → queue_run marks es ≡ over
  -- nothing else ends it
  pub cause : (marks : List Mark) (es : List QueueEvent) (e : QueueEvent) → QueueLasts (queue_run marks es) → queue_run marks (es ++ e ∷ []) ≡ over → QueueCause marks es e
