-- 01, "Recording": how an E.4 that counts is answered, by the log of what came before it.
use Rattle.std.specs.Prelude.{ℕ, Bool, not, ◌&&◌, ◌||◌, List, [], ◌∷◌, eqb, leb, ltb, length}
use Rattle.octets.specs.Pick.{pick}
use Rattle.arrays.specs.Arrays.{those}
use Rattle.profile.specs.{Profile.trigger, Profile.has_state, declared.Profile.Profile}
use Rattle.message.specs.{Fields.status_number, declared.Execution.Execution, declared.Status.Status}
use Rattle.message.specs.declared.Status.TheVariants.{AtOnce, Started, Done, Failed}
use Rattle.history.specs.Steps.{Entry, is_accepted, Standing, was_one_shot, still_open, was_done, was_failed, stands_as, beginnings}

-- "Found: .. The other accepted ones answer 00 .. Any other status answers 03."
abbrev pub answer_by : Standing → Status → ℕ
-- "one-shot takes 00"
answer_by was_one_shot AtOnce = 0x00
answer_by was_one_shot Started = 0x03
answer_by was_one_shot Done = 0x03
answer_by was_one_shot Failed = 0x03
-- "open takes 01 (no change), 10 (done, this message's value kept) and 11 (failed, answer FF)"
answer_by still_open AtOnce = 0x03
answer_by still_open Started = 0x00
answer_by still_open Done = 0x00
answer_by still_open Failed = 0xFF
-- "done takes 01 and 10"
answer_by was_done AtOnce = 0x03
answer_by was_done Started = 0x00
answer_by was_done Done = 0x00
answer_by was_done Failed = 0x03
-- "failed takes 01 and 11 (answer FF)"
answer_by was_failed AtOnce = 0x03
answer_by was_failed Started = 0x00
answer_by was_failed Done = 0x03
answer_by was_failed Failed = 0xFF

-- "Found, other function or state: 03."
abbrev pub answer_again : List Entry → Entry → Execution → ℕ
answer_again log b e =
    pick (eqb b.message.function e.function && eqb b.message.state e.state) (answer_by (stands_as log b) e.status) 0x03

-- "Not found"
abbrev pub answer_first : List Entry → Profile → Bool → Execution → ℕ
answer_first log pool complete e =
    -- "01 unknown function"
    pick (eqb (trigger pool e.function) 0) 0x01
    -- "02 unknown state": no state is above 63
    (pick (not (ltb e.state 64 && has_state pool e.function e.state)) 0x02
    -- "03 if status is 10 or 11"
    (pick (eqb (status_number e.status) 0b10 || eqb (status_number e.status) 0b11) 0x03
    -- "FF in record complete"
    (pick complete 0xFF
    -- "04 if 64 are held", "failed ones counted until the end"
    (pick (leb 64 (length (beginnings [] log))) 0x04
    -- "else a new step, answered 00"
    0x00))))

-- the entry that began the step is the first of those that are found
abbrev pub answer_to : List Entry → Profile → Bool → Execution → List Entry → ℕ
answer_to log pool complete e [] = answer_first log pool complete e
answer_to log pool complete e (b ∷ others) = answer_again log b e

-- "Look for this client's step with this TAN."
abbrev pub error_from : List Entry → Profile → Bool → ℕ → Execution → ℕ
error_from log pool complete slot e = answer_to log pool complete e (those (is_accepted slot e.tan) log)
