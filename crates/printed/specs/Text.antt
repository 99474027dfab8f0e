-- The text of a printed number, as bytes of ASCII: "A minus sign, at least one digit, and with decimals above 0 a point and exactly that many digits."
-- Definitions only.
use Rattle.std.specs.Prelude.{ℕ, zero, suc, ◌+◌, ◌/◌, ◌%◌, ◌^◌, Bool, true, false, List, [], ◌∷◌, ◌++◌, ℤ, pos, negsuc, nat_abs, ltb}

abbrev pub minus : ℕ
minus = 45

abbrev pub point : ℕ
point = 46

-- the digit 0 is 48, and so on to 57
abbrev pub digit : ℕ → ℕ
digit n = 48 + n % 10

-- the last digits of n, so many of them, the highest first
unfoldable pub last_digits : ℕ → ℕ → List ℕ
last_digits zero n = []
last_digits (suc count) n = last_digits count (n / 10) ++ digit n ∷ []

-- how many digits n has; 0 has one. No number has more digits than n + 1, so the counting comes to its end
abbrev pub places_from : ℕ → Bool → ℕ → ℕ
places_from zero few n = 1
places_from (suc left) true n = 1
places_from (suc left) false n = suc (places_from left (ltb (n / 10) 10) (n / 10))

unfoldable pub places : ℕ → ℕ
places n = places_from n (ltb n 10) n

-- "a minus sign only where a digit is not zero": where the number is below zero
abbrev pub sign_of : ℤ → List ℕ
sign_of (pos n) = []
sign_of (negsuc n) = minus ∷ []

-- the digits before the point, at least one
abbrev pub whole_of : ℕ → ℕ → List ℕ
whole_of decimals n = last_digits (places (n / 10 ^ decimals)) (n / 10 ^ decimals)

-- "with decimals above 0 a point and exactly that many digits"
abbrev pub part_of : ℕ → ℕ → List ℕ
part_of zero n = []
part_of (suc decimals) n = point ∷ last_digits (suc decimals) n

-- "The plot sheet needs text. Write the shown value with the function's decimals": n last digits, of which so many stand behind the point
unfoldable pub text_of : ℕ → ℤ → List ℕ
text_of decimals n = sign_of n ++ whole_of decimals (nat_abs n) ++ part_of decimals (nat_abs n)
