-- Annexes C, D and E, clause by clause: a message of each in which no two fields are alike, and its bytes, both ways. 01, "Messages": "The message code
-- decides which layout applies, together with the side that sent it." Side 0 is a client, 1 the master. The function `clauses` of the crate ensures these
-- statements.
use Rattle.std.specs.Prelude.{ℕ, ◌≡◌, List, [], ◌∷◌, length, replicate}
use Rattle.octets.specs.{Label.blank, declared.label.Label.Label}
use Rattle.message.specs.Messages.{read_of, written_of, written_over}
use Rattle.message.specs.declared.Status.TheVariants.{AtOnce, Started, Done, Failed}
use Rattle.message.specs.declared.Message.{Message}
use Rattle.message.specs.declared.Message.TheVariants.{CapabilityRequest, CapabilityResponse, MemoryRequest, MemoryResponse, VersionRequest, VersionResponse, ConfigurationRequest, ConfigurationResponse, Transfer, TransferResponse, ActivationCommand, PoolAcknowledgement, DeleteCommand, DeleteResponse, StoreCommand, StoreResponse, LoadCommand, LoadResponse, StateCommand, ClientAbort, Indication, IndicationResponse, Command, Answer, AnswerAcknowledgement}

-- a message, with its label and its pool, and its bytes, of which r is each that is reserved
pub record BothWays (side : ℕ) (bytes : ℕ → List ℕ) (m : Message) (l : Label) (pool : List ℕ) : Type 0 where
  -- "Reserved bytes are .. not looked at when read"
  pub read : (r : ℕ) → read_of side (bytes r) ≡ record { number = 0; message = m; label = l }
  -- "Reserved bytes are written FF"
  pub done : written_of m l pool (length (bytes 0xFF)) ≡ record { number = 0; length = length (bytes 0xFF) }
  pub written : written_over m l pool (replicate (length (bytes 0xFF)) 0) ≡ bytes 0xFF

abbrev pub label_ab : Label
label_ab = record { length = 2; bytes = 0x41 ∷ 0x42 ∷ replicate 61 0 }

abbrev pub longest : Label
longest = record { length = 63; bytes = replicate 63 0x41 }

pub record Clauses : Type 0 where
  -- C.2: the version
  pub c2 : BothWays 0 (λ r. 0x90 ∷ 0x02 ∷ r ∷ r ∷ r ∷ r ∷ r ∷ r ∷ []) (CapabilityRequest 2) blank []
  -- C.3: version, width, height, characters, and the font's colour, size, type, style
  pub c3 :
      BothWays 1 (λ r. 0x90 ∷ 0x02 ∷ 0x20 ∷ 0x21 ∷ 0x22 ∷ 0x23 ∷ 0x24 ∷ 0x25 ∷ 0x26 ∷ 0x27 ∷ [])
      (CapabilityResponse (record { version = 2; width = 0x20; height = 0x21; characters = 0x2322; colour = 0x24; size = 0x25; font = 0x26; style = 0x27 })) blank []
  -- C.4: the memory
  pub c4 : BothWays 0 (λ r. 0x91 ∷ 0x11 ∷ 0x12 ∷ 0x13 ∷ 0x14 ∷ r ∷ r ∷ r ∷ []) (MemoryRequest 0x14131211) blank []
  -- C.5: the status
  pub c5 : BothWays 1 (λ r. 0x91 ∷ 0x01 ∷ r ∷ r ∷ r ∷ r ∷ r ∷ r ∷ []) (MemoryResponse 1) blank []
  -- D.2
  pub d2 : BothWays 0 (λ r. 0x01 ∷ r ∷ r ∷ r ∷ r ∷ r ∷ r ∷ r ∷ []) VersionRequest blank []
  -- D.3 with the label AB, with the longest, and with an error
  pub d3 : BothWays 1 (λ r. 0x01 ∷ 0x00 ∷ 0x02 ∷ 0x41 ∷ 0x42 ∷ r ∷ r ∷ r ∷ []) (VersionResponse 0x00) label_ab []
  pub d3_long : BothWays 1 (λ r. 0x01 ∷ 0x00 ∷ 0x3F ∷ replicate 63 0x41) (VersionResponse 0x00) longest []
  pub d3_error : BothWays 1 (λ r. 0x01 ∷ 0x01 ∷ 0x00 ∷ r ∷ r ∷ r ∷ r ∷ r ∷ []) (VersionResponse 0x01) blank []
  -- D.4
  pub d4 : BothWays 0 (λ r. 0x02 ∷ r ∷ r ∷ r ∷ r ∷ r ∷ r ∷ r ∷ []) ConfigurationRequest blank []
  -- D.5, likewise
  pub d5 : BothWays 1 (λ r. 0x02 ∷ 0x00 ∷ 0x02 ∷ 0x41 ∷ 0x42 ∷ r ∷ r ∷ r ∷ []) (ConfigurationResponse 0x00) label_ab []
  pub d5_long : BothWays 1 (λ r. 0x02 ∷ 0x00 ∷ 0x3F ∷ replicate 63 0x41) (ConfigurationResponse 0x00) longest []
  pub d5_error : BothWays 1 (λ r. 0x02 ∷ 0xFF ∷ 0x00 ∷ r ∷ r ∷ r ∷ r ∷ r ∷ []) (ConfigurationResponse 0xFF) blank []
  -- D.6: the pool
  pub d6 :
      BothWays 0 (λ r. 0x03 ∷ 0x11 ∷ 0x12 ∷ 0x13 ∷ 0x14 ∷ 0x15 ∷ 0x16 ∷ 0x17 ∷ 0x18 ∷ [])
      Transfer blank (0x11 ∷ 0x12 ∷ 0x13 ∷ 0x14 ∷ 0x15 ∷ 0x16 ∷ 0x17 ∷ 0x18 ∷ [])
  -- D.7: the error
  pub d7 : BothWays 1 (λ r. 0x03 ∷ 0x01 ∷ r ∷ r ∷ r ∷ r ∷ r ∷ r ∷ []) (TransferResponse 0x01) blank []
  -- D.8
  pub d8 : BothWays 0 (λ r. 0x04 ∷ r ∷ r ∷ r ∷ r ∷ r ∷ r ∷ r ∷ []) ActivationCommand blank []
  -- D.9: the code and the object
  pub d9 : BothWays 1 (λ r. 0x04 ∷ 0x0C ∷ 0x11 ∷ 0x12 ∷ r ∷ r ∷ r ∷ r ∷ []) (PoolAcknowledgement 0x0C 0x1211) blank []
  -- D.10: the memory
  pub d10 : BothWays 0 (λ r. 0x05 ∷ 0x01 ∷ r ∷ r ∷ r ∷ r ∷ r ∷ r ∷ []) (DeleteCommand 1) blank []
  -- D.11: the error
  pub d11 : BothWays 1 (λ r. 0x05 ∷ 0x01 ∷ r ∷ r ∷ r ∷ r ∷ r ∷ r ∷ []) (DeleteResponse 0x01) blank []
  -- D.12
  pub d12 : BothWays 0 (λ r. 0x06 ∷ r ∷ r ∷ r ∷ r ∷ r ∷ r ∷ r ∷ []) StoreCommand blank []
  -- D.13: the error
  pub d13 : BothWays 1 (λ r. 0x06 ∷ 0x02 ∷ r ∷ r ∷ r ∷ r ∷ r ∷ r ∷ []) (StoreResponse 0x02) blank []
  -- D.14
  pub d14 : BothWays 0 (λ r. 0x07 ∷ r ∷ r ∷ r ∷ r ∷ r ∷ r ∷ r ∷ []) LoadCommand blank []
  -- D.15: the error
  pub d15 : BothWays 1 (λ r. 0x07 ∷ 0x03 ∷ r ∷ r ∷ r ∷ r ∷ r ∷ r ∷ []) (LoadResponse 0x03) blank []
  -- E.2: the state and the reason
  pub e2 : BothWays 1 (λ r. 0x30 ∷ 0x01 ∷ r ∷ 0x03 ∷ r ∷ r ∷ r ∷ r ∷ []) (StateCommand 1 3) blank []
  -- E.3: the error
  pub e3 : BothWays 0 (λ r. 0x31 ∷ r ∷ r ∷ 0x03 ∷ r ∷ r ∷ r ∷ r ∷ []) (ClientAbort 3) blank []
  -- E.4: function, state and status, TAN, value; 45 is state 5 and status 01
  pub e4 :
      BothWays 0 (λ r. 0x32 ∷ 0x11 ∷ 0x45 ∷ 0x13 ∷ 0x14 ∷ 0x15 ∷ 0x16 ∷ 0x17 ∷ [])
      (Indication (record { function = 0x11; state = 5; status = Started; tan = 0x13; value = 0x17161514 })) blank []
  -- E.5: function, state and status, error, TAN; 85 is state 5 and status 10
  pub e5 :
      BothWays 1 (λ r. 0x32 ∷ 0x11 ∷ 0x85 ∷ 0x06 ∷ 0x14 ∷ r ∷ r ∷ r ∷ [])
      (IndicationResponse (record { function = 0x11; state = 5; status = Done; error = 0x06; tan = 0x14 })) blank []
  -- E.6: function, state, TAN, value
  pub e6 :
      BothWays 1 (λ r. 0x33 ∷ 0x11 ∷ 0x05 ∷ 0x13 ∷ 0x14 ∷ 0x15 ∷ 0x16 ∷ 0x17 ∷ [])
      (Command (record { function = 0x11; state = 5; tan = 0x13; value = 0x17161514 })) blank []
  -- E.7: function, state and status, error, TAN; C5 is state 5 and status 11
  pub e7 :
      BothWays 0 (λ r. 0x34 ∷ 0x11 ∷ 0xC5 ∷ 0x03 ∷ 0x14 ∷ r ∷ r ∷ r ∷ [])
      (Answer (record { function = 0x11; state = 5; status = Failed; error = 0x03; tan = 0x14 })) blank []
  -- E.8: function, state and status, TAN; 05 is state 5 and status 00
  pub e8 :
      BothWays 1 (λ r. 0x34 ∷ 0x11 ∷ 0x05 ∷ 0x13 ∷ r ∷ r ∷ r ∷ r ∷ [])
      (AnswerAcknowledgement (record { function = 0x11; state = 5; status = AtOnce; tan = 0x13 })) blank []
  -- reserved bits are not looked at when read: bits 7 and 8 of byte 3 in D.3 and in E.6
  pub d3_bits : read_of 1 (0x01 ∷ 0x00 ∷ 0xC2 ∷ 0x41 ∷ 0x42 ∷ 0xFF ∷ 0xFF ∷ 0xFF ∷ []) ≡ record { number = 0; message = VersionResponse 0x00; label = label_ab }
  pub e6_bits :
      read_of 1 (0x33 ∷ 0x11 ∷ 0xC5 ∷ 0x13 ∷ 0x14 ∷ 0x15 ∷ 0x16 ∷ 0x17 ∷ [])
      ≡ record { number = 0; message = Command (record { function = 0x11; state = 5; tan = 0x13; value = 0x17161514 }); label = blank }
