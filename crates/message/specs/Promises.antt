-- What holds of the definitions that the contracts cite.
use Rattle.std.specs.Prelude.{ℕ, ◌+◌, ◌^◌, ◌<◌, ◌%◌, max, ◌≡◌, Bool, true, false, ◌&&◌, ◌||◌, List, [], ◌∷◌, leb, eqb, length, take}
use Rattle.octets.specs.{Pick.pick, Numbers.completed, Numbers.wrong_value, Label.blank, Label.label_at, declared.label.Label.Label}
use Rattle.message.specs.Fields.{byte, number, entry, known}
use Rattle.message.specs.Layout.{form_of, client_side, master_side}
use Rattle.message.specs.Clauses.{BothWays}
use Rattle.message.specs.Messages.{read_of, pool_of, written_of, written_over}
use Rattle.message.specs.{Messages.Reading, declared.Status.TheVariants.Started, declared.Status.TheVariants.Done}
use Rattle.message.specs.declared.Message.{Message}
use Rattle.message.specs.declared.Message.TheVariants.{Nothing, CapabilityRequest, CapabilityResponse, MemoryRequest, MemoryResponse, VersionRequest, VersionResponse, ConfigurationRequest, ConfigurationResponse, Transfer, TransferResponse, ActivationCommand, PoolAcknowledgement, DeleteCommand, DeleteResponse, StoreCommand, StoreResponse, LoadCommand, LoadResponse, StateCommand, ClientAbort, Indication, IndicationResponse, Command, Answer, AnswerAcknowledgement}

-- ---- "A message written and read back is the same message."

-- the side that sends a message; its numbers of more than a byte fit
abbrev pub SentBy : ℕ → Message → Type 0
SentBy side Nothing = ⊥
SentBy side (CapabilityRequest version) = side ≡ client_side
SentBy side (CapabilityResponse c) = (side ≡ master_side) × (c.characters < 256 ^ 2)
SentBy side (MemoryRequest memory) = (side ≡ client_side) × (memory < 256 ^ 4)
SentBy side (MemoryResponse status) = side ≡ master_side
SentBy side VersionRequest = side ≡ client_side
SentBy side (VersionResponse error) = side ≡ master_side
SentBy side ConfigurationRequest = side ≡ client_side
SentBy side (ConfigurationResponse error) = side ≡ master_side
SentBy side Transfer = side ≡ client_side
SentBy side (TransferResponse error) = side ≡ master_side
SentBy side ActivationCommand = side ≡ client_side
SentBy side (PoolAcknowledgement code object) = (side ≡ master_side) × (object < 256 ^ 2)
SentBy side (DeleteCommand memory) = side ≡ client_side
SentBy side (DeleteResponse error) = side ≡ master_side
SentBy side StoreCommand = side ≡ client_side
SentBy side (StoreResponse error) = side ≡ master_side
SentBy side LoadCommand = side ≡ client_side
SentBy side (LoadResponse error) = side ≡ master_side
SentBy side (StateCommand state reason) = side ≡ master_side
SentBy side (ClientAbort error) = side ≡ client_side
SentBy side (Indication e) = (side ≡ client_side) × (e.value < 256 ^ 4)
SentBy side (IndicationResponse r) = side ≡ master_side
SentBy side (Command o) = (side ≡ master_side) × (o.value < 256 ^ 4)
SentBy side (Answer r) = side ≡ client_side
SentBy side (AnswerAcknowledgement r) = side ≡ master_side

-- m comes back with its label, 0 in the cells past it; a message that has none comes back with the blank one
abbrev pub same : Message → Label → List ℕ → Reading
same m l pool = record { number = completed; message = m; label = label_at l.bytes 0 (form_of m l.length (length pool)).label }

-- what was laid in out, where write or write_transfer gave 0
abbrev pub sent_bytes : Message → Label → List ℕ → List ℕ → List ℕ
sent_bytes m l pool out = take (written_of m l pool (length out)).length (written_over m l pool out)

pub record ComesBack : Type 0 where
  pub message :
      (side : ℕ) (m : Message) (l : Label) (pool out : List ℕ) →
      SentBy side m →
      (written_of m l pool (length out)).number ≡ completed →
      read_of side (sent_bytes m l pool out) ≡ same m l pool
  pub pool : (l : Label) (pool out : List ℕ) → (written_of Transfer l pool (length out)).number ≡ completed → pool_of (sent_bytes Transfer l pool out) ≡ pool

-- ---- "4 message of wrong length, code unknown for its direction or call, a reserved code or other value its field does not allow": each code of a
-- side with the lengths and values that are taken; any other of the 256 codes, and any other side, is refused

module _ (s : List ℕ) where
  -- n bytes, and fields with values that they allow
  abbrev of : ℕ → Bool → Bool
  of n values = eqb n (length s) && values

  -- a label's length, and the message that has it
  abbrev count : ℕ
  count = byte 3 s % 64

  abbrev label_taken : Bool
  label_taken = of (max 8 (3 + count)) (eqb (byte 2 s) 0x00 && leb 1 count || (eqb (byte 2 s) 0x01 || eqb (byte 2 s) 0xFF) && eqb count 0)

  abbrev pub client_takes : List (ℕ × Bool)
  client_takes =
      (0x01, of 8 true)
      ∷ (0x02, of 8 true)
      ∷ (0x03, leb 9 (length s) && leb (length s) 16385)
      ∷ (0x04, of 8 true)
      ∷ (0x05, of 8 (leb (byte 2 s) 0x01))
      ∷ (0x06, of 8 true)
      ∷ (0x07, of 8 true)
      ∷ (0x31, of 8 (leb 0x01 (byte 4 s) && known 0x03 (byte 4 s)))
      ∷ (0x32, of 8 true)
      ∷ (0x34, of 8 (known 0x03 (byte 4 s)))
      ∷ (0x90, of 8 (leb (byte 2 s) 0x02))
      ∷ (0x91, of 8 true)
      ∷ []

  abbrev pub master_takes : List (ℕ × Bool)
  master_takes =
      (0x01, label_taken)
      ∷ (0x02, label_taken)
      ∷ (0x03, of 8 (known 0x01 (byte 2 s)))
      ∷ (0x04, of 8 (known 0x0C (byte 2 s)))
      ∷ (0x05, of 8 (known 0x01 (byte 2 s)))
      ∷ (0x06, of 8 (known 0x02 (byte 2 s)))
      ∷ (0x07, of 8 (known 0x03 (byte 2 s)))
      ∷ (0x30, of 8 (leb (byte 2 s) 0x01 && leb 0x01 (byte 4 s) && known 0x03 (byte 4 s)))
      ∷ (0x32, of 8 (known 0x06 (byte 4 s)))
      ∷ (0x33, of 8 true)
      ∷ (0x34, of 8 true)
      ∷ (0x90, of 10 (leb (byte 2 s) 0x02 && leb 32 (byte 3 s) && leb 32 (byte 4 s) && leb 32 (number 2 5 s)))
      ∷ (0x91, of 8 (leb (byte 2 s) 0x01))
      ∷ []

  abbrev pub taken : ℕ → Bool
  taken side = entry side ((client_side, entry (byte 1 s) client_takes false) ∷ (master_side, entry (byte 1 s) master_takes false) ∷ []) false

abbrev pub Refuses : Type 0
Refuses = (side : ℕ) (s : List ℕ) → (read_of side s).number ≡ pick (taken s side) completed wrong_value

-- ---- cases

-- a message without a label, and its bytes, both ways
abbrev pub Case : ℕ → List ℕ → Message → Type 0
Case side bytes m = BothWays side (λ r. bytes) m blank []

pub record MessageCases : Type 0 where
  -- "Command, function 5, state 2, TAN 255, value 240: 33 05 02 FF F0 00 00 00."
  pub command :
      Case master_side (0x33 ∷ 0x05 ∷ 0x02 ∷ 0xFF ∷ 0xF0 ∷ 0x00 ∷ 0x00 ∷ 0x00 ∷ [])
      (Command (record { function = 5; state = 2; tan = 255; value = 240 }))
  -- "Start, TAN 0: 32 05 42 00 FF FF FF FF"
  pub start :
      Case client_side (0x32 ∷ 0x05 ∷ 0x42 ∷ 0x00 ∷ 0xFF ∷ 0xFF ∷ 0xFF ∷ 0xFF ∷ [])
      (Indication (record { function = 5; state = 2; status = Started; tan = 0; value = 0xFFFFFFFF }))
  -- "finish with 240: 32 05 82 00 F0 00 00 00"
  pub finish :
      Case client_side (0x32 ∷ 0x05 ∷ 0x82 ∷ 0x00 ∷ 0xF0 ∷ 0x00 ∷ 0x00 ∷ 0x00 ∷ [])
      (Indication (record { function = 5; state = 2; status = Done; tan = 0; value = 240 }))
  -- "Answer 34 05 82 00 FF FF FF FF": its TAN is byte 5
  pub answer :
      Case client_side (0x34 ∷ 0x05 ∷ 0x82 ∷ 0x00 ∷ 0xFF ∷ 0xFF ∷ 0xFF ∷ 0xFF ∷ [])
      (Answer (record { function = 5; state = 2; status = Done; error = 0; tan = 255 }))
  -- "acknowledged 34 05 82 FF FF FF FF FF"
  pub acknowledged :
      Case master_side (0x34 ∷ 0x05 ∷ 0x82 ∷ 0xFF ∷ 0xFF ∷ 0xFF ∷ 0xFF ∷ 0xFF ∷ [])
      (AnswerAcknowledgement (record { function = 5; state = 2; status = Done; tan = 255 }))
