-- 01, "Messages": what a call reads of the message it takes, by crate `flat`: the message's kind, numbered in the order of the clauses, and its values.
-- "4: message of wrong length, code unknown for its direction or call, a reserved code or other value its field does not allow": a message that is
-- refused, and one that is not this call's, is not of the kind wanted.
use Rattle.std.specs.Prelude.{ℕ, Bool, List, [], eqb}
use Rattle.octets.specs.Label.{blank}
use Rattle.message.specs.{Layout.client_side, Messages.written_over, declared.Execution.Execution, declared.Reply.Reply}
use Rattle.message.specs.declared.Message.TheVariants.{ClientAbort, Indication, IndicationResponse, Answer, AnswerAcknowledgement}
use Rattle.flat.specs.Flat.{kind_of, reading_of, execution_from, reply_from}

-- what a client has sent
abbrev pub kind_in : List ℕ → ℕ
kind_in s = (reading_of client_side s).message.kind

-- E.4, E.7
abbrev pub execution_in : List ℕ → Execution
execution_in s = execution_from (reading_of client_side s).message.step

abbrev pub reply_in : List ℕ → Reply
reply_in s = reply_from (reading_of client_side s).message.step

-- E.3, whatever its error; E.4; E.7
abbrev pub is_abort : List ℕ → Bool
is_abort s = eqb (kind_in s) (kind_of (ClientAbort 0x00))

abbrev pub is_indication : List ℕ → Bool
is_indication s = eqb (kind_in s) (kind_of (Indication (execution_in s)))

abbrev pub is_answer : List ℕ → Bool
is_answer s = eqb (kind_in s) (kind_of (Answer (reply_in s)))

-- E.5 has function, state, status and TAN of the E.4, and an error; it is written over the lent bytes
unfoldable pub response_out : Execution → ℕ → List ℕ → List ℕ
response_out e error out =
    written_over (IndicationResponse (record { function = e.function; state = e.state; status = e.status; error = error; tan = e.tan })) blank [] out

-- E.8 has function, state, status and TAN of the E.7
unfoldable pub receipt_out : Reply → List ℕ → List ℕ
receipt_out r out = written_over (AnswerAcknowledgement (record { function = r.function; state = r.state; status = r.status; tan = r.tan })) blank [] out
