-- 01, "Messages" and "Clients and states": the answers that a call writes, as bytes; each is exactly eight bytes of what came in, and the rest is as it was.
-- 02, request 1: the blocks that a store writes.
use Rattle.std.specs.Prelude.{ℕ, ◌<◌, ◌≡◌, List, [], ◌∷◌, get_or, drop}
use Rattle.sequence.specs.Sequence.{blank_step}
use Rattle.store.specs.Stored.{store_bytes, stored_in}
use Rattle.master.specs.{declared.Master.Master, Call.slot_at, Messages.execution_in, Recording.heard}
use Rattle.events.specs.Events.{Event, on, off, «record», stop, cancel, start, abort, attach, enable, disable, report, lost, indication, client_abort, answer, store, load, edition, apply, lent_after, Given}
use Rattle.seen.specs.Words.{nth, Bytes, Done, InRecording}

-- eight bytes stand before what the lent bytes held after their first eight
abbrev pub Eight : Master → Event → List ℕ → (a b c d e f g h : ℕ) → Type 0
Eight m event out a b c d e f g h = lent_after m event ≡ a ∷ b ∷ c ∷ d ∷ e ∷ f ∷ g ∷ h ∷ drop 8 out

-- "that client's function is a step of the sequence": step number `step` of it, counted from 0
pub record IsStep (m : Master) (slot function : ℕ) : Type 0 where
  pub step : ℕ
  pub counted : step < m.sequence.count
  pub of_client : (get_or m.sequence.steps step blank_step).slot ≡ slot
  pub of_function : (get_or m.sequence.steps step blank_step).function ≡ function

-- E.2: byte 1 code 30, byte 2 state (00 disabled, 01 enabled), byte 3 reserved, byte 4 reason, bytes 5 to 8 reserved
-- "Enabling and disabling (state ready) set wanted and write E.2, reason 01."
pub record Orders : Type 0 where
  pub enabling : (m : Master) (slot : ℕ) (out : List ℕ) → Done m (enable slot out) → Eight m (enable slot out) out 0x30 0x01 0xFF 0x01 0xFF 0xFF 0xFF 0xFF
  pub disabling : (m : Master) (slot : ℕ) (out : List ℕ) → Done m (disable slot out) → Eight m (disable slot out) out 0x30 0x00 0xFF 0x01 0xFF 0xFF 0xFF 0xFF

-- E.7: byte 1 code 34, byte 2 function, byte 3 state and status, byte 4 error, byte 5 TAN. E.8 the same, but for no error and its TAN in byte 4
-- "It is acknowledged with E.8."
abbrev pub Acknowledges : Type 0
Acknowledges =
    (m : Master) (slot : ℕ) (msg out : List ℕ) → Bytes msg → Done m (answer slot msg out)
    → Eight m (answer slot msg out) out 0x34 (nth 2 msg) (nth 3 msg) (nth 5 msg) 0xFF 0xFF 0xFF 0xFF

-- E.4, which is taken in record, record complete and playback only: byte 1 code 32, byte 2 function, byte 3 state and status, byte 4 TAN. E.5 the same, with an error in byte 4 and the TAN in byte 5
module _ (m : Master) (slot : ℕ) (msg out : List ℕ) where
  abbrev pub Responds : ℕ → Type 0
  Responds error = Eight m (indication slot msg out) out 0x32 (nth 2 msg) (nth 3 msg) error (nth 4 msg) 0xFF 0xFF 0xFF

pub record Responses : Type 0 where
  -- in record and record complete the error is what the recording makes of the message
  pub recording :
      (m : Master) (slot : ℕ) (msg out : List ℕ) → Bytes msg → Done m (indication slot msg out) → InRecording m
      → Responds m slot msg out (heard m slot (slot_at m slot) (execution_in msg)).error
  -- "In playback an E.4 of status 11 from an enabled client is answered with error 06 and aborts if that client's function is a step of the sequence"
  pub aborts :
      (m : Master) (slot : ℕ) (msg out : List ℕ) → Given m → Bytes msg → Done m (indication slot msg out) → m.state ≡ 4 → IsStep m slot (nth 2 msg)
      → Responds m slot msg out 0x06 × ((apply m (indication slot msg out)).master.state ≡ 5)
  -- "if not, it is answered FF and changes nothing"
  pub ignores :
      (m : Master) (slot : ℕ) (msg out : List ℕ) → Given m → Bytes msg → Done m (indication slot msg out) → m.state ≡ 4 → (IsStep m slot (nth 2 msg) → ⊥)
      → Responds m slot msg out 0xFF × ((apply m (indication slot msg out)).master ≡ m)

-- 02, request 1: "Store one sequence as blocks of 512 bytes": it leaves them from the first lent byte on, and counts their bytes
pub record Stores : Type 0 where
  pub blocks : (m : Master) (out : List ℕ) → Done m (store out) → lent_after m (store out) ≡ stored_in m.sequence out
  pub counts : (m : Master) (out : List ℕ) → Done m (store out) → (apply m (store out)).count ≡ store_bytes m.sequence

-- the calls that are lent nothing leave nothing; a tick writes frames, and a store blocks
pub record LentNothing : Type 0 where
  pub switching : (m : Master) → (lent_after m on ≡ []) × (lent_after m off ≡ [])
  pub recording : (m : Master) → (lent_after m «record» ≡ []) × (lent_after m stop ≡ []) × (lent_after m cancel ≡ [])
  pub playing : (m : Master) → (lent_after m start ≡ []) × (lent_after m abort ≡ [])
  pub attaching : (m : Master) (slot name : ℕ) (pool : List ℕ) → lent_after m (attach slot name pool) ≡ []
  pub reporting : (m : Master) (slot number : ℕ) → lent_after m (report slot number) ≡ []
  pub losing : (m : Master) (slot : ℕ) → lent_after m (lost slot) ≡ []
  pub aborting : (m : Master) (slot : ℕ) (msg : List ℕ) → lent_after m (client_abort slot msg) ≡ []
  pub loading : (m : Master) (blocks : List ℕ) → lent_after m (load blocks) ≡ []
  pub setting : (m : Master) (n : ℕ) → lent_after m (edition n) ≡ []

pub record Written : Type 0 where
  pub orders : Orders
  pub acknowledges : Acknowledges
  pub responses : Responses
  pub stores : Stores
  pub nothing : LentNothing
