-- A message is read, and written.
use Rattle.std.specs.Prelude.{ℕ, ◌-◌, ◌%◌, ◌&&◌, Result, Ok, Err, List, ◌++◌, ltb, eqb, length, get_or, drop}
use Rattle.octets.specs.{Pick.pick, declared.label.Label.Label}
use Rattle.octets.specs.Numbers.{completed, too_short, wrong_value}
use Rattle.octets.specs.{Refusals.refusal_number, declared.numbers.Refusal.Refusal}
use Rattle.octets.specs.Label.{blank, row_of, label_at}
use Rattle.message.specs.{Fields.byte, Layout.form_of, Layout.layout_of, declared.forms.Form.Form, declared.Said.Said, declared.Written.Written}
use Rattle.message.specs.{declared.Message.Message, declared.Message.TheVariants.Nothing}

-- what bytes say: a number, and where it is 0 a message with its label
pub record Reading : Type 0 where
  pub number : ℕ
  pub message : Message
  pub label : Label

-- a refusal with its number, no message and no label
abbrev pub reading : Result Said Refusal → Reading
reading (Ok said) = record { number = completed; message = said.message; label = said.label }
reading (Err why) = record { number = refusal_number why; message = Nothing; label = blank }

-- "4 message of wrong length, code unknown for its direction or call, a reserved code or other value its field does not allow"
abbrev pub judged_by : List ℕ → Message → Form → Reading
judged_by s m f =
    pick (eqb f.length (length s) && f.allowed)
    (record { number = completed; message = m; label = label_at s 3 f.label })
    (record { number = wrong_value; message = Nothing; label = blank })

-- what bytes that a side sent say; a label's length is in byte 3, bits 1 to 6, a pool stands after the code
unfoldable pub read_of : ℕ → List ℕ → Reading
read_of side s = let m : Message = layout_of side s in judged_by s m (form_of m (byte 3 s % 64) (length s - 1))

-- the pool of D.6
abbrev pub pool_of : List ℕ → List ℕ
pool_of s = drop 1 s

-- byte i of a message, counted from 0: its own, those of its label or its pool, then reserved ones
unfoldable pub octet_of : Form → Label → List ℕ → ℕ → ℕ
octet_of f l pool i =
    let j : ℕ = i - f.first in
    pick (ltb i f.first) (get_or f.bytes i 0)
    (pick (ltb j f.label) (get_or l.bytes j 0)
    (pick (ltb j f.pool) (get_or pool j 0) 0xFF))

-- a length, or a refusal with its number
abbrev pub written : Result ℕ Refusal → Written
written (Ok length) = record { number = completed; length = length }
written (Err why) = record { number = refusal_number why; length = 0 }

abbrev pub laid : Form → Label → List ℕ → List ℕ
laid f l pool = row_of f.length (octet_of f l pool)

-- the bytes of a message, with the label and the pool beside it
unfoldable pub message_bytes : Message → Label → List ℕ → List ℕ
message_bytes m l pool = laid (form_of m l.length (length pool)) l pool

-- "1 lent output too short", then "4 .. a reserved code or other value its field does not allow"
abbrev pub result_of : Form → ℕ → ℕ
result_of f room = pick (ltb room f.length) too_short (pick f.allowed completed wrong_value)

unfoldable pub written_as : Form → ℕ → Written
written_as f room = record { number = result_of f room; length = pick (eqb (result_of f room) completed) f.length 0 }

-- "Every number but 0 leaves .. all lent memory unchanged."; the bytes past the message stay
unfoldable pub left_as : Form → Label → List ℕ → List ℕ → List ℕ
left_as f l pool out = pick (eqb (result_of f (length out)) completed) (laid f l pool ++ drop f.length out) out

abbrev pub written_of : Message → Label → List ℕ → ℕ → Written
written_of m l pool room = written_as (form_of m l.length (length pool)) room

abbrev pub written_over : Message → Label → List ℕ → List ℕ → List ℕ
written_over m l pool out = left_as (form_of m l.length (length pool)) l pool out
