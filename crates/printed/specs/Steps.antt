-- How the code comes to the text: what its own functions give one another. Nothing that is promised stands here.
use Rattle.std.specs.Prelude.{◌≡◌, ℕ, zero, suc, ◌+◌, ◌*◌, ◌/◌, ◌%◌, ◌^◌, ◌<◌, Bool, true, false, cond, not, ◌&&◌, List, [], ◌∷◌, eqb}
use Rattle.std.specs.Float.Ieee.Nearest.{closest}
use Rattle.printed.specs.Text.{minus}
use Rattle.printed.specs.declared.number.Number.{Number}

-- to the nearest, from halves of a last digit and whether something is left over
abbrev pub round_halves : ℕ → Bool → ℕ
round_halves halves more = cond (eqb (halves % 4) 1 && not more) (halves / 2) ((halves + 1) / 2)

-- a number in two parts: whole · 2 ^ power before the point and part behind it, in last digits of which tens are one
abbrev pub together : Number → ℕ → ℕ
together x tens = x.whole * 2 ^ x.power * tens + x.part

-- size / 2 ^ shift is printed as x
pub record Splits (size shift tens : ℕ) (x : Number) : Type 0 where
  pub is : x.whole * tens + x.part ≡ closest (size * tens) (2 ^ shift)
  pub part_below : x.part < tens
  pub whole_below : x.whole < 2 ^ 57
  pub no_power : x.power ≡ 0

-- size · 2 ^ power / 2 ^ 149 is printed as x
pub record Rounds (size power tens : ℕ) (x : Number) : Type 0 where
  pub is : together x tens ≡ closest (size * 2 ^ power * tens) (2 ^ 149)
  pub part_below : x.part < tens
  pub whole_below : x.whole < 2 ^ 57
  pub power_below : x.power < 105

-- the digits of n, so many of them, the lowest first
unfoldable pub low_digits : ℕ → ℕ → List ℕ
low_digits zero n = []
low_digits (suc count) n = n % 10 ∷ low_digits count (n / 10)

-- the number that such a list stands for
unfoldable pub number_in : List ℕ → ℕ
number_in [] = 0
number_in (d ∷ ds) = d + 10 * number_in ds

-- the minus sign, or nothing
abbrev pub sign_bytes : Bool → List ℕ
sign_bytes true = minus ∷ []
sign_bytes false = []
