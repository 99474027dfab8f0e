-- What printing gives back, and what it leaves in the lent bytes. Definitions only.
use Rattle.std.specs.Prelude.{◌≡◌, ℕ, Bool, ◌&&◌, List, ◌++◌, ℤ, T, leb, length, drop, Float, Result, Ok, Err}
use Rattle.std.specs.Float.Ieee.Positive.{positive}
use Rattle.octets.specs.Numbers.{completed, too_short, wrong_value}
use Rattle.octets.specs.{Pick.pick, Refusals.refusal_number, declared.numbers.Refusal.Refusal}
use Rattle.shown.specs.Value.{sum_of}
use Rattle.printed.specs.Number.{Nearest}
use Rattle.printed.specs.Text.{text_of}
use Rattle.printed.specs.declared.Printed.{Printed}

-- "Refusals: here 4 first, also for decimals above 7"
abbrev pub printable : Float → ℕ → Bool
printable scale decimals = positive scale && leb decimals 7

-- what is told of how many bytes were written, or of why none were
abbrev pub printed_as : Result ℕ Refusal → Printed
printed_as (Ok length) = record { number = completed; length = length }
printed_as (Err why) = record { number = refusal_number why; length = 0 }

-- "then 1 if the text has no room"
abbrev pub answer_of : Bool → List ℕ → ℕ → Printed
answer_of taken text room =
    pick taken
    (pick (leb (length text) room) (record { number = completed; length = length text }) (record { number = too_short; length = 0 }))
    (record { number = wrong_value; length = 0 })

-- the text, and behind it what stood there; where it is refused nothing changes
abbrev pub left_of : Bool → List ℕ → List ℕ → List ℕ
left_of taken text lent = pick (taken && leb (length text) (length lent)) (text ++ drop (length text) lent) lent

-- the lent bytes before and after the call, and what it gives back
pub record Prints (value : ℕ) (offset : ℤ) (scale : Float) (decimals : ℕ) (lent left : List ℕ) (r : Printed) : Type 0 where
  -- the number that is printed, as a whole number of last digits
  pub n : ℤ
  pub nearest : T (printable scale decimals) → Nearest n (sum_of value offset) scale decimals
  pub answer : r ≡ answer_of (printable scale decimals) (text_of decimals n) (length lent)
  pub leaves : left ≡ left_of (printable scale decimals) (text_of decimals n) lent
