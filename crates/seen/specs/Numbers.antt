-- 01, "Numbers a call gives back", and 02, requests 1, 2 and 11: what each call gives each number for, in the words of the table and of the rules, and that
-- it gives it exactly then.
-- "Where several apply: 1, 4, 3, 2, then the rest in the order that the call's own rule gives."
use Rattle.std.specs.Prelude.{ℕ, zero, suc, ◌+◌, ◌*◌, ◌/◌, ◌%◌, ◌≤◌, ◌<◌, ◌≡◌, true, ◌⊎◌, ◌↔◌, List, [], ◌∷◌, length, get_or}
use Rattle.std.specs.Int.Bits.{bit_and}
use Rattle.octets.specs.Pick.{pick}
use Rattle.pool.specs.Pool.{verdict_of}
use Rattle.profile.specs.{Profile.trigger, Profile.has_state, declared.Profile.Profile}
use Rattle.client.specs.{Records.is_used, declared.Client.Client, declared.ClientRecord.ClientRecord}
use Rattle.sequence.specs.{Sequence.blank_step, declared.Step.Step}
use Rattle.store.specs.{Blocks.is_damaged, Loaded.is_faulty}
use Rattle.playback.specs.State.{blank_sent}
use Rattle.master.specs.{declared.Master.Master, Call.slot_at}
use Rattle.events.specs.Events.{Event, on, off, «record», stop, cancel, start, abort, attach, enable, disable, report, lost, indication, client_abort, tick, answer, store, load, edition, apply, Given, record_at}
use Rattle.events.specs.Editions.{SameIdentity}
use Rattle.seen.specs.Words.{nth, Enabled, InRecording}

abbrev pub Not : Type 0 → Type 0
Not P = P → ⊥

-- the number is k where P, else what the rest says
abbrev pub tells : ℕ → Type 0 → (ℕ → Type 0) → ℕ → Type 0
tells k P rest n = (P × (n ≡ k)) ⊎ (Not P × rest n)

-- "0 done"
abbrev pub accepts : ℕ → Type 0
accepts n = n ≡ 0

-- ---- messages

-- E.4: eight bytes, code 32
abbrev pub IsE4 : List ℕ → Type 0
IsE4 msg = (length msg ≡ 8) × (nth 1 msg ≡ 0x32)

-- E.7: eight bytes, code 34, byte 4 error (00 to 03, 04 to FE reserved, FF)
abbrev pub IsE7 : List ℕ → Type 0
IsE7 msg = (length msg ≡ 8) × (nth 1 msg ≡ 0x34) × ((nth 4 msg ≤ 3) ⊎ (nth 4 msg ≡ 0xFF))

-- E.3: eight bytes, code 31, byte 4 error (00 reserved, 01 to 03, 04 to FE reserved, FF)
abbrev pub IsE3 : List ℕ → Type 0
IsE3 msg = (length msg ≡ 8) × (nth 1 msg ≡ 0x31) × (((1 ≤ nth 4 msg) × (nth 4 msg ≤ 3)) ⊎ (nth 4 msg ≡ 0xFF))

-- a report of a known state: 0 disabled, 1 ready, 2 record, 4 playback, 5 abort
abbrev pub IsReport : ℕ → Type 0
IsReport n = (n ≤ 5) × Not (n ≡ 3)

module _ (m : Master) where
  -- ---- clients

  -- "3 slot above 7, empty"
  abbrev pub Absent : ℕ → Type 0
  Absent slot = (8 ≤ slot) ⊎ ((slot_at m slot).taken ≡ 0)

  -- ".. or (attaching) taken, or NAME already attached"
  abbrev pub Occupied : ℕ → ℕ → Type 0
  Occupied slot name = (8 ≤ slot) ⊎ (Not ((slot_at m slot).taken ≡ 0) ⊎ ((i : ℕ) × (Not ((slot_at m i).taken ≡ 0) × ((slot_at m i).name ≡ name))))

  -- "13 a client is still not disabled"
  abbrev pub SomeAwake : Type 0
  SomeAwake = (i : ℕ) × (Not ((slot_at m i).taken ≡ 0) × Not ((slot_at m i).report ≡ 0))

  -- "14 no enabled client"
  abbrev pub SomeEnabled : Type 0
  SomeEnabled = (i : ℕ) × Enabled (slot_at m i)

  -- "12 a client is not reporting ready"
  abbrev pub SomeUnready : Type 0
  SomeUnready = (i : ℕ) × (Enabled (slot_at m i) × Not ((slot_at m i).report ≡ 1))

  -- "A report other than disabled from a client not wanted gives 5, unless its last report was not disabled"
  abbrev pub Unexpected : ℕ → ℕ → Type 0
  Unexpected slot number = Not (number ≡ 0) × ((slot_at m slot).wanted ≡ 0) × ((slot_at m slot).report ≡ 0)

  -- ---- messages that are expected

  -- "An E.4 counts if its client is enabled and last reported record, in record or record complete"
  abbrev pub Counts : ℕ → Type 0
  Counts slot = InRecording m × Enabled (slot_at m slot) × ((slot_at m slot).report ≡ 2)

  -- "In playback an E.4 of status 11 from an enabled client"
  abbrev pub Interrupts : ℕ → List ℕ → Type 0
  Interrupts slot msg = (m.state ≡ 4) × Enabled (slot_at m slot) × (3 ≤ nth 3 msg / 64)

  -- "E.3 from an enabled client", in playback
  abbrev pub Aborts : ℕ → Type 0
  Aborts slot = (m.state ≡ 4) × Enabled (slot_at m slot)

  -- "An E.7 must match slot, TAN, function and state of a sent step": step number `step`, counted from 0; "outside playback no step counts as sent"
  pub record Answers (slot : ℕ) (msg : List ℕ) : Type 0 where
    pub playing : m.state ≡ 4
    pub step : ℕ
    pub sent : step < m.playback.sent
    pub of_client : (get_or m.sequence.steps step blank_step).slot ≡ slot
    pub of_tan : (get_or m.playback.commands step blank_sent).tan ≡ nth 5 msg
    pub of_function : (get_or m.sequence.steps step blank_step).function ≡ nth 2 msg
    pub of_state : (get_or m.sequence.steps step blank_step).state ≡ nth 3 msg % 64

  -- ---- verification

  -- step i of the sequence, counted from 0
  abbrev pub step_of : ℕ → Step
  step_of i = get_or m.sequence.steps i blank_step

  -- "for each slot of the sequence": one of which there is a step
  abbrev pub Uses : ℕ → Type 0
  Uses slot = (i : ℕ) × ((i < m.sequence.count) × ((step_of i).slot ≡ slot))

  -- "agree on every bit set in the loaded pool's mask"
  abbrev pub Masked : ℕ → ℕ → ℕ → Type 0
  Masked slot a b = bit_and a (slot_at m slot).profile.mask ≡ bit_and b (slot_at m slot).profile.mask

  -- 02, request 2: "where the stored master NAME equals the stored client NAME, and the loaded one equals the loaded client NAME"
  abbrev pub BothOwn : ℕ → Type 0
  BothOwn slot = ((record_at m slot).master ≡ (record_at m slot).name) × ((slot_at m slot).profile.master ≡ (slot_at m slot).name)

  -- "NAMEs agree if they agree on every bit set in the loaded pool's mask."; "where .., the mask applies to both. Otherwise all 64 bits count"; 02, request
  -- 11: in edition 2 identity numbers "agree too, no matter what the mask says"
  abbrev pub SameName : ℕ → Type 0
  SameName slot =
      let s : Client = slot_at m slot in
      let c : ClientRecord = record_at m slot in
      Masked slot s.name c.name
      × ((BothOwn slot → Masked slot s.profile.master c.master) × (Not (BothOwn slot) → s.profile.master ≡ c.master))
      × (m.sequence.edition ≡ 2 → SameIdentity m slot)

  -- "both labels"
  abbrev pub SameLabels : ℕ → Type 0
  SameLabels slot =
      let s : Client = slot_at m slot in (s.profile.version ≡ (record_at m slot).version) × (s.profile.configuration ≡ (record_at m slot).configuration)

  -- "8 a client of the sequence is not enabled", "9 a NAME differs", "10 a label differs"
  abbrev pub slot_checks : ℕ → (ℕ → Type 0) → ℕ → Type 0
  slot_checks slot rest =
      tells 8 (Uses slot × Not (Enabled (slot_at m slot))) (tells 9 (Uses slot × Not (SameName slot)) (tells 10 (Uses slot × Not (SameLabels slot)) rest))

  -- "for each slot of the sequence, lowest first, 8, 9 and 10 before the next slot": n slots from this one on
  abbrev pub slots_from : ℕ → ℕ → (ℕ → Type 0) → ℕ → Type 0
  slots_from slot zero rest = rest
  slots_from slot (suc n) rest = slot_checks slot (slots_from (suc slot) n rest)

  -- "11 function or state not in the loaded pool"
  abbrev pub Listed : Step → Type 0
  Listed s = let pool : Profile = (slot_at m s.slot).profile in (s.state < 64) × Not (trigger pool s.function ≡ 0) × (has_state pool s.function s.state ≡ true)

  abbrev pub SomeUnlisted : Type 0
  SomeUnlisted = (i : ℕ) × ((i < m.sequence.count) × Not (Listed (step_of i)))

  -- "then by slot 12"
  abbrev pub SomeIdle : Type 0
  SomeIdle = (slot : ℕ) × (Uses slot × Not ((slot_at m slot).report ≡ 1))

  -- "7; then for each slot of the sequence, lowest first, 8, 9 and 10 before the next slot; then by step 11; then by slot 12": "7 sequence has no step"
  abbrev pub verification : ℕ → Type 0
  verification = tells 7 (m.sequence.count ≡ 0) (slots_from 0 8 (tells 11 SomeUnlisted (tells 12 SomeIdle accepts)))

  -- ---- storing

  -- how many of these slots the sequence has a client record of
  abbrev pub clients_among : List ℕ → ℕ
  clients_among [] = 0
  clients_among (slot ∷ slots) = pick (is_used (record_at m slot)) 1 0 + clients_among slots

  -- 02, request 1: "blocks of 512 bytes": the first, one for each three client records, one for each 31 steps
  abbrev pub block_count : ℕ
  block_count = 1 + (clients_among (0 ∷ 1 ∷ 2 ∷ 3 ∷ 4 ∷ 5 ∷ 6 ∷ 7 ∷ []) + 2) / 3 + (m.sequence.count + 30) / 31

  -- "1 lent output too short": no sequence has no block
  abbrev pub TooFew : List ℕ → Type 0
  TooFew out = Not (m.sequence.count ≡ 0) × (length out < 512 * block_count)

  -- ---- the calls

  abbrev pub numbers_of : Event → ℕ → Type 0
  numbers_of on = tells 2 (Not (m.state ≡ 0)) accepts
  numbers_of off = tells 2 (Not (m.state ≡ 1)) (tells 13 SomeAwake accepts)
  -- "Ready to record: 14, then 12."
  numbers_of «record» = tells 2 (Not (m.state ≡ 1)) (tells 14 (Not SomeEnabled) (tells 12 SomeUnready accepts))
  numbers_of stop = tells 2 (Not (m.state ≡ 2)) accepts
  numbers_of cancel = tells 2 (Not (InRecording m)) accepts
  -- "Start, from ready"
  numbers_of start = tells 2 (Not (m.state ≡ 1)) verification
  numbers_of abort = tells 2 (Not (m.state ≡ 4)) accepts
  -- "6 pool refused"
  numbers_of (attach slot name pool) = tells 3 (Occupied slot name) (tells 2 (Not (m.state ≡ 1)) (tells 6 (Not ((verdict_of pool).code ≡ 0x00)) accepts))
  numbers_of (enable slot out) = tells 1 (length out < 8) (tells 3 (Absent slot) (tells 2 (Not (m.state ≡ 1)) accepts))
  numbers_of (disable slot out) = tells 1 (length out < 8) (tells 3 (Absent slot) (tells 2 (Not (m.state ≡ 1)) accepts))
  numbers_of (report slot number) = tells 4 (Not (IsReport number)) (tells 3 (Absent slot) (tells 2 (m.state ≡ 0) (tells 5 (Unexpected slot number) accepts)))
  numbers_of (lost slot) = tells 3 (Absent slot) (tells 2 (m.state ≡ 0) accepts)
  -- "else 5, but for status 11 in playback"
  numbers_of (indication slot msg out) =
      tells 1 (length out < 8) (tells 4 (Not (IsE4 msg)) (tells 3 (Absent slot) (tells 2 (m.state ≡ 0) (tells 5 (Not (Counts slot ⊎ Interrupts slot msg)) accepts))))
  -- "E.3 otherwise gives 5."
  numbers_of (client_abort slot msg) = tells 4 (Not (IsE3 msg)) (tells 3 (Absent slot) (tells 2 (m.state ≡ 0) (tells 5 (Not (Aborts slot)) accepts)))
  -- "4 .. a tick of more than 65,535 mm"
  numbers_of (tick mm out) = tells 1 (length out < 576) (tells 4 (65535 < mm) (tells 2 (m.state ≡ 0) accepts))
  -- "else 15"
  numbers_of (answer slot msg out) =
      tells 1 (length out < 8) (tells 4 (Not (IsE7 msg)) (tells 3 (Absent slot) (tells 2 (m.state ≡ 0) (tells 15 (Not (Answers slot msg)) accepts))))
  -- "Both in ready only."; "with no sequence, storing gives 7"
  numbers_of (store out) = tells 1 (TooFew out) (tells 2 (Not (m.state ≡ 1)) (tells 7 (m.sequence.count ≡ 0) accepts))
  -- "16 the check of a whole lent block, 17 counts or fields out of range .., after number 2, in that order"
  numbers_of (load blocks) = tells 2 (Not (m.state ≡ 1)) (tells 16 (is_damaged blocks ≡ true) (tells 17 (is_faulty blocks ≡ true) accepts))
  -- 02, request 11: "an unknown edition gives 17"; with no sequence 7
  numbers_of (edition n) = tells 2 (Not (m.state ≡ 1)) (tells 7 (m.sequence.count ≡ 0) (tells 17 (Not ((n ≡ 1) ⊎ (n ≡ 2))) accepts))

pub record Numbers : Type 0 where
  pub exactly : (m : Master) → Given m → (e : Event) (n : ℕ) → ((apply m e).number ≡ n) ↔ numbers_of m e n
  -- "6 pool refused, with the D.9 code and object number"
  pub refused_pool :
      (m : Master) (slot name : ℕ) (pool : List ℕ) → (apply m (attach slot name pool)).number ≡ 6
      → ((apply m (attach slot name pool)).code ≡ (verdict_of pool).code) × ((apply m (attach slot name pool)).object ≡ (verdict_of pool).object)
  -- no other number comes with one
  pub other : (m : Master) (e : Event) → Not ((apply m e).number ≡ 6) → ((apply m e).code ≡ 0) × ((apply m e).object ≡ 0)
