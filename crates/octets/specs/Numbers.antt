-- 01, "Numbers a call gives back".
use Rattle.std.specs.Prelude.{ℕ}

-- "0 done"
abbrev pub completed : ℕ
completed = 0

-- "1 lent output too short"
abbrev pub too_short : ℕ
too_short = 1

-- "2 not allowed in this state"
abbrev pub wrong_state : ℕ
wrong_state = 2

-- "3 slot above 7, empty, or (attaching) taken, or NAME already attached"
abbrev pub wrong_slot : ℕ
wrong_slot = 3

-- "4 message of wrong length, code unknown for its direction or call, a reserved code or other value its field does not allow, a report of no known
-- state, a tick of more than 65,535 mm, or a scale not finite and above zero"
abbrev pub wrong_value : ℕ
wrong_value = 4

-- "5 message not expected now (host sends NACK)"
abbrev pub not_expected : ℕ
not_expected = 5

-- "6 pool refused, with the D.9 code and object number"
abbrev pub pool_refused : ℕ
pool_refused = 6

-- "7 sequence has no step"
abbrev pub no_step : ℕ
no_step = 7

-- "8 a client of the sequence is not enabled"
abbrev pub not_enabled : ℕ
not_enabled = 8

-- "9 a NAME differs"
abbrev pub name_differs : ℕ
name_differs = 9

-- "10 a label differs"
abbrev pub label_differs : ℕ
label_differs = 10

-- "11 function or state not in the loaded pool"
abbrev pub not_in_pool : ℕ
not_in_pool = 11

-- "12 a client is not reporting ready"
abbrev pub not_ready : ℕ
not_ready = 12

-- "13 a client is still not disabled"
abbrev pub not_disabled : ℕ
not_disabled = 13

-- "14 no enabled client"
abbrev pub none_enabled : ℕ
none_enabled = 14

-- "15 answer matches no sent step; ignored"
abbrev pub no_match : ℕ
no_match = 15

-- 02, request 1: "16 the check of a whole lent block"
abbrev pub check_wrong : ℕ
check_wrong = 16

-- 02, request 1: "17 counts or fields out of range (..), fill not zero, a slot twice, blocks missing or left over, a step without its client's record or a
-- record without a step"; request 11: "an unknown edition gives 17"
abbrev pub not_stored : ℕ
not_stored = 17
