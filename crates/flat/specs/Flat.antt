-- A message as a C caller has it: each message's number, and its values. 01, "Use these forms in these places": "Where an answer is an enum, a
-- definition gives this paper's number and values for each of its cases, and the promises use it."
use Rattle.std.specs.Prelude.{ℕ, ◌≡◌, List, [], ◌∷◌, leb}
use Rattle.octets.specs.{Pick.pick, Label.blank, declared.label.Label.Label}
use Rattle.message.specs.Fields.{entry, status_number, status_from}
use Rattle.message.specs.{Messages.read_of, declared.Capability.Capability, declared.Execution.Execution, declared.Reply.Reply, declared.Order.Order}
use Rattle.message.specs.{declared.Receipt.Receipt, Messages.Reading, declared.Status.TheVariants.Failed, declared.Message.Message}
use Rattle.message.specs.declared.Message.TheVariants.{Nothing, CapabilityRequest, CapabilityResponse, MemoryRequest, MemoryResponse, VersionRequest, VersionResponse, ConfigurationRequest, ConfigurationResponse, Transfer, TransferResponse, ActivationCommand, PoolAcknowledgement, DeleteCommand, DeleteResponse, StoreCommand, StoreResponse, LoadCommand, LoadResponse, StateCommand, ClientAbort, Indication, IndicationResponse, Command, Answer, AnswerAcknowledgement}
use Rattle.flat.specs.{declared.MessageStep.MessageStep, declared.Flat.Flat, declared.FlatReading.FlatReading}

-- ---- from a message

-- the fields that a message lacks are 0
abbrev pub zero_capability : Capability
zero_capability = record { version = 0; width = 0; height = 0; characters = 0; colour = 0; size = 0; font = 0; style = 0 }

abbrev pub zero_step : MessageStep
zero_step = record { function = 0; state = 0; status = 0; error = 0; tan = 0; value = 0 }

abbrev pub bare_flat : ℕ → Label → Flat
bare_flat kind l = record { kind = kind; code = 0; reason = 0; object = 0; memory = 0; capability = zero_capability; step = zero_step; label = l }

abbrev pub with_code : ℕ → Flat → Flat
with_code code f = record { kind = f.kind; code = code; reason = f.reason; object = f.object; memory = f.memory; capability = f.capability; step = f.step; label = f.label }

abbrev pub with_reason : ℕ → Flat → Flat
with_reason reason f = record { kind = f.kind; code = f.code; reason = reason; object = f.object; memory = f.memory; capability = f.capability; step = f.step; label = f.label }

abbrev pub with_object : ℕ → Flat → Flat
with_object object f = record { kind = f.kind; code = f.code; reason = f.reason; object = object; memory = f.memory; capability = f.capability; step = f.step; label = f.label }

abbrev pub with_memory : ℕ → Flat → Flat
with_memory memory f = record { kind = f.kind; code = f.code; reason = f.reason; object = f.object; memory = memory; capability = f.capability; step = f.step; label = f.label }

abbrev pub with_capability : Capability → Flat → Flat
with_capability c f = record { kind = f.kind; code = f.code; reason = f.reason; object = f.object; memory = f.memory; capability = c; step = f.step; label = f.label }

abbrev pub with_step : MessageStep → Flat → Flat
with_step x f = record { kind = f.kind; code = f.code; reason = f.reason; object = f.object; memory = f.memory; capability = f.capability; step = x; label = f.label }

abbrev pub execution_step : Execution → MessageStep
execution_step e = record { function = e.function; state = e.state; status = status_number e.status; error = 0; tan = e.tan; value = e.value }

abbrev pub reply_step : Reply → MessageStep
reply_step r = record { function = r.function; state = r.state; status = status_number r.status; error = r.error; tan = r.tan; value = 0 }

abbrev pub order_step : Order → MessageStep
order_step o = record { function = o.function; state = o.state; status = 0; error = 0; tan = o.tan; value = o.value }

abbrev pub receipt_step : Receipt → MessageStep
receipt_step r = record { function = r.function; state = r.state; status = status_number r.status; error = 0; tan = r.tan; value = 0 }

-- each message with its number, in the order of their clauses C.2 to E.8, and its values
abbrev pub flat_of : Message → Label → Flat
flat_of Nothing l = bare_flat 0 l
flat_of (CapabilityRequest version) l = with_code version (bare_flat 1 l)
flat_of (CapabilityResponse c) l = with_capability c (bare_flat 2 l)
flat_of (MemoryRequest memory) l = with_memory memory (bare_flat 3 l)
flat_of (MemoryResponse status) l = with_code status (bare_flat 4 l)
flat_of VersionRequest l = bare_flat 5 l
flat_of (VersionResponse error) l = with_code error (bare_flat 6 l)
flat_of ConfigurationRequest l = bare_flat 7 l
flat_of (ConfigurationResponse error) l = with_code error (bare_flat 8 l)
flat_of Transfer l = bare_flat 9 l
flat_of (TransferResponse error) l = with_code error (bare_flat 10 l)
flat_of ActivationCommand l = bare_flat 11 l
flat_of (PoolAcknowledgement code object) l = with_object object (with_code code (bare_flat 12 l))
flat_of (DeleteCommand memory) l = with_code memory (bare_flat 13 l)
flat_of (DeleteResponse error) l = with_code error (bare_flat 14 l)
flat_of StoreCommand l = bare_flat 15 l
flat_of (StoreResponse error) l = with_code error (bare_flat 16 l)
flat_of LoadCommand l = bare_flat 17 l
flat_of (LoadResponse error) l = with_code error (bare_flat 18 l)
flat_of (StateCommand state reason) l = with_reason reason (with_code state (bare_flat 19 l))
flat_of (ClientAbort error) l = with_code error (bare_flat 20 l)
flat_of (Indication e) l = with_step (execution_step e) (bare_flat 21 l)
flat_of (IndicationResponse r) l = with_step (reply_step r) (bare_flat 22 l)
flat_of (Command o) l = with_step (order_step o) (bare_flat 23 l)
flat_of (Answer r) l = with_step (reply_step r) (bare_flat 24 l)
flat_of (AnswerAcknowledgement r) l = with_step (receipt_step r) (bare_flat 25 l)

abbrev pub kind_of : Message → ℕ
kind_of m = (flat_of m blank).kind

-- ---- to a message: a kind of no message, or a status other than 00, 01, 10 and 11, makes none

abbrev pub stated : ℕ → Message → Message
stated status m = pick (leb status (status_number Failed)) m Nothing

abbrev pub execution_from : MessageStep → Execution
execution_from x = record { function = x.function; state = x.state; status = status_from x.status; tan = x.tan; value = x.value }

abbrev pub reply_from : MessageStep → Reply
reply_from x = record { function = x.function; state = x.state; status = status_from x.status; error = x.error; tan = x.tan }

abbrev pub order_from : MessageStep → Order
order_from x = record { function = x.function; state = x.state; tan = x.tan; value = x.value }

abbrev pub receipt_from : MessageStep → Receipt
receipt_from x = record { function = x.function; state = x.state; status = status_from x.status; tan = x.tan }

-- a row: a message that the fields make, beside its number
abbrev pub row : Message → ℕ × Message
row m = (kind_of m, m)

abbrev pub stated_row : MessageStep → Message → ℕ × Message
stated_row x m = (kind_of m, stated x.status m)

abbrev pub kind_rows : Flat → List (ℕ × Message)
kind_rows f =
    let x : MessageStep = f.step in
    row (CapabilityRequest f.code)
    ∷ row (CapabilityResponse f.capability)
    ∷ row (MemoryRequest f.memory)
    ∷ row (MemoryResponse f.code)
    ∷ row VersionRequest
    ∷ row (VersionResponse f.code)
    ∷ row ConfigurationRequest
    ∷ row (ConfigurationResponse f.code)
    ∷ row Transfer
    ∷ row (TransferResponse f.code)
    ∷ row ActivationCommand
    ∷ row (PoolAcknowledgement f.code f.object)
    ∷ row (DeleteCommand f.code)
    ∷ row (DeleteResponse f.code)
    ∷ row StoreCommand
    ∷ row (StoreResponse f.code)
    ∷ row LoadCommand
    ∷ row (LoadResponse f.code)
    ∷ row (StateCommand f.code f.reason)
    ∷ row (ClientAbort f.code)
    ∷ stated_row x (Indication (execution_from x))
    ∷ stated_row x (IndicationResponse (reply_from x))
    ∷ row (Command (order_from x))
    ∷ stated_row x (Answer (reply_from x))
    ∷ stated_row x (AnswerAcknowledgement (receipt_from x))
    ∷ []

unfoldable pub message_from : Flat → Message
message_from f = entry f.kind (kind_rows f) Nothing

unfoldable pub reading_of : ℕ → List ℕ → FlatReading
reading_of side s = let r : Reading = read_of side s in record { number = r.number; message = flat_of r.message r.label }

-- a message made flat and back is the same message
abbrev pub BackAgain : Type 0
BackAgain = (m : Message) (l : Label) → message_from (flat_of m l) ≡ m
