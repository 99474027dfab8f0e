-- The layouts of annexes C, D and E: what each message allows in its fields, how long it is, and its bytes.
use Rattle.std.specs.Prelude.{ℕ, ◌+◌, ◌%◌, min, max, Bool, true, false, ◌&&◌, ◌||◌, List, [], ◌∷◌, ◌++◌, leb, eqb}
use Rattle.octets.specs.Octets as octets
use Rattle.message.specs.Fields.{byte, number, padded, entry, known, status_of, packed}
use Rattle.message.specs.{declared.forms.Form.Form, declared.Capability.Capability, declared.Execution.Execution, declared.Reply.Reply}
use Rattle.message.specs.{declared.Order.Order, declared.Receipt.Receipt, declared.Message.Message}
use Rattle.message.specs.declared.Message.TheVariants.{Nothing, CapabilityRequest, CapabilityResponse, MemoryRequest, MemoryResponse, VersionRequest, VersionResponse, ConfigurationRequest, ConfigurationResponse, Transfer, TransferResponse, ActivationCommand, PoolAcknowledgement, DeleteCommand, DeleteResponse, StoreCommand, StoreResponse, LoadCommand, LoadResponse, StateCommand, ClientAbort, Indication, IndicationResponse, Command, Answer, AnswerAcknowledgement}

-- ---- written

-- a message of a given length, with no label and no pool
abbrev pub sized : ℕ → Bool → List ℕ → Form
sized length allowed bytes = record { allowed = allowed; length = length; first = length; label = 0; pool = 0; bytes = bytes }

-- "C.3 is 10, every other message 8."; the bytes past those given are reserved
abbrev pub of_eight : Bool → List ℕ → Form
of_eight allowed bytes = sized 8 allowed (padded 10 bytes)

-- "D.3 and D.5 are max(8, 3 + label length) bytes, padded with FF as reserved bytes; without error the label has 1 to 63 bytes, with an
-- error none, else 4."
-- D.3, D.5: byte 1 code, byte 2 error (00 none, 01 no match, 02 to FE reserved, FF other), byte 3 bits 1-6 label length, bits 7-8 reserved,
-- bytes 4 to N the label; "reserved bits are written 0"
abbrev pub labelled : ℕ → ℕ → ℕ → Form
labelled code error n = record {
  allowed = leb n 63 && (eqb error 0x00 && leb 1 n || (eqb error 0x01 || eqb error 0xFF) && eqb n 0);
  length = max 8 (3 + n);
  first = 3;
  label = n;
  pool = 0;
  bytes = padded 10 (code ∷ error ∷ n % 64 ∷ []);
}

-- "D.6 is 9 to 16,385 bytes."
-- D.6: byte 1 code 03, bytes 2 to N the pool
abbrev pub pooled : ℕ → Form
pooled p = record { allowed = leb 8 p && leb p 16384; length = 1 + min p 16384; first = 1; label = 0; pool = p; bytes = padded 10 (0x03 ∷ []) }

-- D.7, D.11, D.13, D.15: byte 1 code, byte 2 error (00 none, up to the last that is named, then reserved, FF other), bytes 3 to 8 reserved
abbrev pub failing : ℕ → ℕ → ℕ → Form
failing code last error = of_eight (known last error) (code ∷ error ∷ [])

-- C.3: byte 1 code 90, byte 2 version (00 to 02, 03 to FF reserved), byte 3 width, byte 4 height, bytes 5-6 characters, bytes 7 to 10 the font's
-- colour, size, type, style
-- "In C.3, sizes and characters under 32 give 4."
abbrev pub capability : Capability → Form
capability c =
    sized 10 (leb c.version 0x02 && leb 32 c.width && leb 32 c.height && leb 32 c.characters)
    (0x90 ∷ c.version ∷ c.width ∷ c.height ∷ octets.bytes_of 2 c.characters ++ c.colour ∷ c.size ∷ c.font ∷ c.style ∷ [])

-- E.5, E.7: byte 1 code, byte 2 function, byte 3 bits 1-6 state, bits 7-8 status, byte 4 error, byte 5 TAN, bytes 6 to 8 reserved
abbrev pub reply : ℕ → ℕ → Reply → Form
reply code last r = of_eight (leb r.state 63 && known last r.error) (code ∷ r.function ∷ packed r.state r.status ∷ r.error ∷ r.tan ∷ [])

-- A message, beside a label of n bytes and a pool of p bytes. "All other fields are judged one by one, whatever the others hold."
abbrev pub form_of : Message → ℕ → ℕ → Form
form_of Nothing n p = of_eight false []
-- C.2: byte 1 code 90, byte 2 version (00 to 02, 03 to FF reserved), bytes 3 to 8 reserved
form_of (CapabilityRequest version) n p = of_eight (leb version 0x02) (0x90 ∷ version ∷ [])
form_of (CapabilityResponse c) n p = capability c
-- C.4: byte 1 code 91, bytes 2-5 memory, bytes 6 to 8 reserved
form_of (MemoryRequest memory) n p = of_eight true (0x91 ∷ octets.bytes_of 4 memory)
-- C.5: byte 1 code 91, byte 2 status (00 enough, 01 not enough, 02 to FF reserved), bytes 3 to 8 reserved
form_of (MemoryResponse status) n p = of_eight (leb status 0x01) (0x91 ∷ status ∷ [])
-- D.2: byte 1 code 01, bytes 2 to 8 reserved
form_of VersionRequest n p = of_eight true (0x01 ∷ [])
form_of (VersionResponse error) n p = labelled 0x01 error n
-- D.4: byte 1 code 02, bytes 2 to 8 reserved
form_of ConfigurationRequest n p = of_eight true (0x02 ∷ [])
form_of (ConfigurationResponse error) n p = labelled 0x02 error n
form_of Transfer n p = pooled p
form_of (TransferResponse error) n p = failing 0x03 0x01 error
-- D.8: byte 1 code 04, bytes 2 to 8 reserved
form_of ActivationCommand n p = of_eight true (0x04 ∷ [])
-- D.9: byte 1 code 04, byte 2 error (00 to 0C, 0D to FE reserved, FF), bytes 3-4 object, bytes 5 to 8 reserved
form_of (PoolAcknowledgement code object) n p = of_eight (known 0x0C code) (0x04 ∷ code ∷ octets.bytes_of 2 object)
-- D.10: byte 1 code 05, byte 2 memory (00 volatile, 01 non-volatile, 02 to FF reserved), bytes 3 to 8 reserved
form_of (DeleteCommand memory) n p = of_eight (leb memory 0x01) (0x05 ∷ memory ∷ [])
form_of (DeleteResponse error) n p = failing 0x05 0x01 error
-- D.12: byte 1 code 06, bytes 2 to 8 reserved
form_of StoreCommand n p = of_eight true (0x06 ∷ [])
form_of (StoreResponse error) n p = failing 0x06 0x02 error
-- D.14: byte 1 code 07, bytes 2 to 8 reserved
form_of LoadCommand n p = of_eight true (0x07 ∷ [])
form_of (LoadResponse error) n p = failing 0x07 0x03 error
-- E.2: byte 1 code 30, byte 2 state (00 disabled, 01 enabled, 02 to FF reserved), byte 3 reserved, byte 4 reason (00 reserved, 01 to 03, 04 to FE
-- reserved, FF), bytes 5 to 8 reserved
form_of (StateCommand state reason) n p = of_eight (leb state 0x01 && leb 0x01 reason && known 0x03 reason) (0x30 ∷ state ∷ 0xFF ∷ reason ∷ [])
-- E.3: byte 1 code 31, bytes 2-3 reserved, byte 4 error (00 reserved, 01 to 03, 04 to FE reserved, FF), bytes 5 to 8 reserved
form_of (ClientAbort error) n p = of_eight (leb 0x01 error && known 0x03 error) (0x31 ∷ 0xFF ∷ 0xFF ∷ error ∷ [])
-- E.4: byte 1 code 32, byte 2 function, byte 3 bits 1-6 state, bits 7-8 status, byte 4 TAN, bytes 5-8 value; "E.4 carries its value at every status."
form_of (Indication e) n p =
    of_eight (leb e.state 63) (0x32 ∷ e.function ∷ packed e.state e.status ∷ e.tan ∷ octets.bytes_of 4 e.value)
-- E.5: errors 00 to 06, 07 to FE reserved, FF
form_of (IndicationResponse r) n p = reply 0x32 0x06 r
-- E.6: byte 1 code 33, byte 2 function, byte 3 bits 1-6 state, bits 7-8 reserved (0), byte 4 TAN, bytes 5-8 value
form_of (Command o) n p = of_eight (leb o.state 63) (0x33 ∷ o.function ∷ o.state % 64 ∷ o.tan ∷ octets.bytes_of 4 o.value)
-- E.7: errors 00 to 03, 04 to FE reserved, FF
form_of (Answer r) n p = reply 0x34 0x03 r
-- E.8: byte 1 code 34, byte 2 function, byte 3 bits 1-6 state, bits 7-8 status, byte 4 TAN, bytes 5 to 8 reserved
form_of (AnswerAcknowledgement r) n p = of_eight (leb r.state 63) (0x34 ∷ r.function ∷ packed r.state r.status ∷ r.tan ∷ [])

-- ---- read: "Reserved bytes are .. not looked at when read", nor are reserved bits

-- C.3
abbrev pub as_capability : List ℕ → Capability
as_capability s = record {
  version = byte 2 s;
  width = byte 3 s;
  height = byte 4 s;
  characters = number 2 5 s;
  colour = byte 7 s;
  size = byte 8 s;
  font = byte 9 s;
  style = byte 10 s;
}

-- "The TAN is byte 4 in E.4, E.6 and E.8, byte 5 in E.5 and E.7."
abbrev pub as_execution : List ℕ → Execution
as_execution s = record { function = byte 2 s; state = byte 3 s % 64; status = status_of (byte 3 s); tan = byte 4 s; value = number 4 5 s }

abbrev pub as_reply : List ℕ → Reply
as_reply s = record { function = byte 2 s; state = byte 3 s % 64; status = status_of (byte 3 s); error = byte 4 s; tan = byte 5 s }

abbrev pub as_order : List ℕ → Order
as_order s = record { function = byte 2 s; state = byte 3 s % 64; tan = byte 4 s; value = number 4 5 s }

abbrev pub as_receipt : List ℕ → Receipt
as_receipt s = record { function = byte 2 s; state = byte 3 s % 64; status = status_of (byte 3 s); tan = byte 4 s }

-- "The message code decides which layout applies, together with the side that sent it."
abbrev pub client_rows : List ℕ → List (ℕ × Message)
client_rows s =
    (0x01, VersionRequest)
    ∷ (0x02, ConfigurationRequest)
    ∷ (0x03, Transfer)
    ∷ (0x04, ActivationCommand)
    ∷ (0x05, DeleteCommand (byte 2 s))
    ∷ (0x06, StoreCommand)
    ∷ (0x07, LoadCommand)
    ∷ (0x31, ClientAbort (byte 4 s))
    ∷ (0x32, Indication (as_execution s))
    ∷ (0x34, Answer (as_reply s))
    ∷ (0x90, CapabilityRequest (byte 2 s))
    ∷ (0x91, MemoryRequest (number 4 2 s))
    ∷ []

abbrev pub master_rows : List ℕ → List (ℕ × Message)
master_rows s =
    (0x01, VersionResponse (byte 2 s))
    ∷ (0x02, ConfigurationResponse (byte 2 s))
    ∷ (0x03, TransferResponse (byte 2 s))
    ∷ (0x04, PoolAcknowledgement (byte 2 s) (number 2 3 s))
    ∷ (0x05, DeleteResponse (byte 2 s))
    ∷ (0x06, StoreResponse (byte 2 s))
    ∷ (0x07, LoadResponse (byte 2 s))
    ∷ (0x30, StateCommand (byte 2 s) (byte 4 s))
    ∷ (0x32, IndicationResponse (as_reply s))
    ∷ (0x33, Command (as_order s))
    ∷ (0x34, AnswerAcknowledgement (as_receipt s))
    ∷ (0x90, CapabilityResponse (as_capability s))
    ∷ (0x91, MemoryResponse (byte 2 s))
    ∷ []

unfoldable pub from_client : ℕ → List ℕ → Message
from_client code s = entry code (client_rows s) Nothing

unfoldable pub from_master : ℕ → List ℕ → Message
from_master code s = entry code (master_rows s) Nothing

-- the side that sent a message
abbrev pub client_side : ℕ
client_side = 0

abbrev pub master_side : ℕ
master_side = 1

unfoldable pub layout_of : ℕ → List ℕ → Message
layout_of side s = entry side ((client_side, from_client (byte 1 s) s) ∷ (master_side, from_master (byte 1 s) s) ∷ []) Nothing
