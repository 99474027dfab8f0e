-- 01, "Clients and states", how a playback ends: "Playback goes to ready when all steps are done; to abort on the operator's word, E.3 from an enabled
-- client, an enabled client lost, disabled, or reporting record or abort, an error answer, an E.4 as below, or by the tick rules; nothing else ends it."
use Rattle.std.specs.Prelude.{ℕ, ◌+◌, ◌/◌, ◌≤◌, ◌<◌, ◌≡◌, ◌↔◌, ◌⊎◌, List, ◌∷◌, ◌++◌, length}
use Rattle.octets.specs.Numbers.{completed}
use Rattle.sequence.specs.Sequence.{length_of}
use Rattle.playback.specs.State.{answer_done}
use Rattle.replay.specs.Run.{Latest, HasAnswer, Says}
use Rattle.master.specs.{declared.Master.Master, Call.slot_at}
use Rattle.master.specs.States as states
use Rattle.events.specs.Events.{Event, abort, report, lost, indication, client_abort, tick, answer, apply, run_from}
use Rattle.seen.specs.{Words.nth, Words.Enabled, Written.IsStep}
use Rattle.plays.specs.Plays.{Started, Lasts, ticks_in, LeftAt, HasLeft, IsOf, Replied, Finishing, Failing, SaidDone}

-- why an accepted call ends the playback that started with m, after the calls es; and the state that the master goes to
pub data Cause (m : Master) (es : List Event) : Event → ℕ → Type 0 where
  -- "to abort on the operator's word"
  operator : Cause m es abort states.abort
  -- "E.3 from an enabled client"
  client_aborts : (slot : ℕ) (msg : List ℕ) → Enabled (slot_at (run_from m es) slot) → Cause m es (client_abort slot msg) states.abort
  -- "an enabled client lost"
  client_lost : (slot : ℕ) → Enabled (slot_at (run_from m es) slot) → Cause m es (lost slot) states.abort
  -- "disabled, or reporting record or abort": 0, 2 and 5
  client_reports : (slot number : ℕ) → Enabled (slot_at (run_from m es) slot) → (number ≡ 0) ⊎ ((number ≡ 2) ⊎ (number ≡ 5))
      → Cause m es (report slot number) states.abort
  -- "an E.4 of status 11 from an enabled client .. aborts if that client's function is a step of the sequence": its byte 2 is the function, byte 3 has the
  -- status in bits 7 and 8
  interrupts : (slot : ℕ) (msg out : List ℕ) → Enabled (slot_at (run_from m es) slot) → 0b11 ≤ nth 3 msg / 64
      → IsStep m slot (nth 2 msg) → Cause m es (indication slot msg out) states.abort
  -- "an error answer", "11 aborts", but for a done step: "a further answer for a done step, 11 or an error too, .. changes nothing"
  answers_error : (slot : ℕ) (msg out : List ℕ) (i : ℕ) → HasLeft m es i → ¬ SaidDone m es i → IsOf m i slot msg → Failing msg
      → Cause m es (answer slot msg out) states.abort
  -- "goes to ready when all steps are done": at the answer that makes the last step done
  is_last : (slot : ℕ) (msg out : List ℕ) (i : ℕ) → HasLeft m es i → ¬ SaidDone m es i → IsOf m i slot msg → Finishing msg
      → ((j : ℕ) → j < length_of m.sequence → (j ≡ i → ⊥) → SaidDone m es j) → Cause m es (answer slot msg out) states.ready
  -- "at tick 36,000 abort"
  too_long : (mm : ℕ) (out : List ℕ) → length (ticks_in m es) + 1 ≡ 36000 → Cause m es (tick mm out) states.abort
  -- "if a sent step has no answer 16 ticks after it first left, abort"
  no_answer : (mm : ℕ) (out : List ℕ) (i t : ℕ) → Latest m.sequence (ticks_in m es) i t → t + 16 ≡ length (ticks_in m es) + 1 → ¬ Replied m es i
      → Cause m es (tick mm out) states.abort

-- at one of these calls the playback of m ends in an abort
pub record Aborts (m : Master) (es : List Event) : Type 0 where
  pub earlier : List Event
  pub e : Event
  pub later : List Event
  pub split : es ≡ earlier ++ e ∷ later
  pub lasts : Lasts m earlier
  pub now : (apply (run_from m earlier) e).master.state ≡ states.abort

-- at one of these calls, an answer, it goes to ready: every step has left and is done
pub record Finishes (m : Master) (es : List Event) : Type 0 where
  pub earlier : List Event
  pub slot : ℕ
  pub msg : List ℕ
  pub out : List ℕ
  pub later : List Event
  pub split : es ≡ earlier ++ answer slot msg out ∷ later
  pub lasts : Lasts m earlier
  pub now : (apply (run_from m earlier) (answer slot msg out)).master.state ≡ states.ready
  pub all : (i : ℕ) → i < length_of m.sequence → SaidDone m es i

pub record Ends : Type 0 where
  -- a call takes the master out of a playback that lasts, to this state, exactly where it is accepted and there is a cause for it
  pub cause : (m : Master) → Started m → (es : List Event) → Lasts m es → (e : Event) (s : ℕ)
      → (((apply (run_from m es) e).master.state ≡ s) × (s ≡ states.playback → ⊥)) ↔ (((apply (run_from m es) e).number ≡ completed) × Cause m es e s)
  -- a playback lasts, or it has gone to ready "when all steps are done", or it has ended in an abort
  pub ends : (m : Master) → Started m → (es : List Event) → Lasts m es ⊎ (Finishes m es ⊎ Aborts m es)
  -- what the master holds of the answers is what its clients have said
  pub replies : (m : Master) → Started m → (es : List Event) → Lasts m es → (i : ℕ) → HasAnswer (run_from m es).playback i ↔ Replied m es i
  pub done : (m : Master) → Started m → (es : List Event) → Lasts m es → (i : ℕ) → Says (λ a. a ≡ answer_done) (run_from m es).playback i ↔ SaidDone m es i
  -- "Playback goes to ready when all steps are done": while it lasts, they are not
  pub unfinished : (m : Master) → Started m → (es : List Event) → Lasts m es → ¬ ((i : ℕ) → i < length_of m.sequence → SaidDone m es i)
  -- "By the sixteenth tick after a command first left, its client has answered it or the playback has ended in an abort."
  pub sixteen : (m : Master) → Started m → (a b : List Event) → Lasts m a → (i t : ℕ) → LeftAt (run_from m a) i t
      → t + 16 ≤ length (ticks_in m (a ++ b)) → Replied m (a ++ b) i ⊎ Aborts m (a ++ b)
  -- "at tick 36,000 abort": no playback lasts longer
  pub in_time : (m : Master) → Started m → (es : List Event) → 36000 ≤ length (ticks_in m es) → ¬ Lasts m es
