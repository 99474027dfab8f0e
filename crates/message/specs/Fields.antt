-- Codes and bits of the messages.
use Rattle.std.specs.Prelude.{ℕ, ◌+◌, ◌-◌, ◌*◌, ◌/◌, ◌%◌, Bool, ◌||◌, cond, Result, Ok, Err, List, [], ◌∷◌, ◌++◌, leb, eqb, get_or, take, replicate}
use Rattle.octets.specs.{Octets.number_at, Pick.pick}
use Rattle.message.specs.declared.Status.{Status}
use Rattle.message.specs.declared.NoStatus.{NoStatus}
use Rattle.message.specs.declared.Status.TheVariants.{AtOnce, Started, Done, Failed}

-- byte k of a message, and the number of w bytes that starts there; the annexes count from 1
abbrev pub byte : ℕ → List ℕ → ℕ
byte k s = get_or s (k - 1) 0

abbrev pub number : ℕ → ℕ → List ℕ → ℕ
number w k s = number_at w s (k - 1)

-- "Reserved bytes are written FF": n bytes, those of s first
abbrev pub padded : ℕ → List ℕ → List ℕ
padded n s = take n (s ++ replicate n 0xFF)

-- the row of a table that has a code
abbrev pub entry : {A : Type 0} → ℕ → List (ℕ × A) → A → A
entry code [] none = none
entry code (row ∷ rows) none = pick (eqb code row.0) row.1 (entry code rows none)

-- a field whose codes are 00 to last, and FF; those between are reserved
abbrev pub known : ℕ → ℕ → Bool
known last code = leb code last || eqb code 0xFF

-- E.4, E.5, E.7, E.8, byte 3, bits 7 and 8, the execution status: 00 started and done at once, 01 started, 10 done, 11 failed
abbrev pub status_number : Status → ℕ
status_number AtOnce = 0b00
status_number Started = 0b01
status_number Done = 0b10
status_number Failed = 0b11

abbrev pub status_rows : List (ℕ × Status)
status_rows = (status_number AtOnce, AtOnce) ∷ (status_number Started, Started) ∷ (status_number Done, Done) ∷ []

unfoldable pub status_from : ℕ → Status
status_from number = entry number status_rows Failed

-- the status that has a number, where one has it
abbrev pub status_numbered : ℕ → Result Status NoStatus
status_numbered number = cond (leb number (status_number Failed)) (Ok (status_from number)) (Err (record { 0 = number }))

abbrev pub status_of : ℕ → Status
status_of octet = status_from (octet / 64)

-- bits 1 to 6 the state, bits 7 and 8 the status
unfoldable pub packed : ℕ → Status → ℕ
packed state status = state % 64 + 64 * status_number status
