-- 02, request 13, "Depth as printed", of every value, every offset, every scale and every number of decimals. The function `promises` of the crate ensures
-- these statements.
use Rattle.std.specs.Prelude.{◌≡◌, ℕ, ◌+◌, ◌*◌, ◌-◌, ◌^◌, ◌≤◌, ◌<◌, Bool, true, false, cond, not, ◌&&◌, ◌||◌, List, [], ◌∷◌, ◌++◌, ◌⊎◌, ℤ, pos, ◌-ℤ◌, ◌*ℤ◌, nat_abs, T, leb, eqb, length, drop, Float}
use Rattle.std.specs.Float.{binary32}
use Rattle.std.specs.Float.Ieee.{of_bits}
use Rattle.std.specs.Float.Ieee.Positive.{den}
use Rattle.shown.specs.Value.{sum_of, numerator, shown_of}
use Rattle.printed.specs.Number.{Nearest}
use Rattle.printed.specs.Text.{minus, text_of}
use Rattle.printed.specs.Printing.{Prints}
use Rattle.printed.specs.declared.Printed.{Printed}

-- n last digits are within half a last digit of the float x
abbrev pub WithinHalf : ℤ → Float → ℕ → Type 0
WithinHalf n x decimals = 2 * nat_abs (n *ℤ pos (den x) -ℤ numerator x *ℤ pos (10 ^ decimals)) ≤ den x

-- a text read again: its digits make a number, a sign and a point are passed over
abbrev pub read_from : ℕ → List ℕ → ℕ
read_from n [] = n
read_from n (c ∷ text) = read_from (cond (leb 48 c) (n * 10 + (c - 48)) n) text

-- its first byte is a minus sign; one of its bytes is a digit that is not zero
abbrev pub has_minus : List ℕ → Bool
has_minus [] = false
has_minus (c ∷ text) = eqb c minus

abbrev pub not_zero : List ℕ → Bool
not_zero [] = false
not_zero (c ∷ text) = leb 49 c || not_zero text

-- every byte is a digit; there is one, and the first of several is not zero
abbrev pub are_digits : List ℕ → Bool
are_digits [] = true
are_digits (c ∷ text) = leb 48 c && leb c 57 && are_digits text

abbrev pub well_begun : List ℕ → Bool
well_begun [] = false
well_begun (c ∷ []) = true
well_begun (c ∷ d ∷ text) = not (eqb c 48)

-- "A minus sign, at least one digit, and with decimals above 0 a point and exactly that many digits."
pub record Shaped (decimals : ℕ) (text : List ℕ) : Type 0 where
  pub sign : List ℕ
  pub whole : List ℕ
  pub part : List ℕ
  pub is : text ≡ sign ++ whole ++ part
  pub one_sign : (sign ≡ []) ⊎ (sign ≡ 45 ∷ [])
  pub digits : are_digits whole ≡ true
  pub begun : well_begun whole ≡ true
  pub none_behind : decimals ≡ 0 → part ≡ []
  pub behind : 0 < decimals → (tail : List ℕ) × (part ≡ 46 ∷ tail) × (length tail ≡ decimals) × (are_digits tail ≡ true)

pub record PrintedText : Type 0 where
  -- "nearest, ties to the even last digit": there is one such number, and no other
  pub some : (sum : ℤ) (scale : Float) (decimals : ℕ) → (n : ℤ) × Nearest n sum scale decimals
  pub one : (n m sum : ℤ) (scale : Float) (decimals : ℕ) → Nearest n sum scale decimals → Nearest m sum scale decimals → n ≡ m
  -- so what the call gives back and each lent byte are settled for all inputs, refusals too
  pub settled :
      (value : ℕ) (offset : ℤ) (scale : Float) (decimals : ℕ) (lent left left' : List ℕ) (r r' : Printed) →
      Prints value offset scale decimals lent left r →
      Prints value offset scale decimals lent left' r' →
      (r ≡ r') × (left ≡ left')
  -- "Refusals: here 4 first, also for decimals above 7": whatever is lent. Of the 32 bits of a scale 1 to 7F7FFFFF are finite and above zero
  pub four :
      (value : ℕ) (offset : ℤ) (bits decimals : ℕ) (lent left : List ℕ) (r : Printed) →
      (bits ≡ 0) ⊎ ((0x7F7F_FFFF < bits) ⊎ (7 < decimals)) →
      Prints value offset (of_bits binary32 bits) decimals lent left r →
      (r.number ≡ 4) × (r.length ≡ 0) × (left ≡ lent)
  -- "then 1 if the text has no room"
  pub room :
      (value : ℕ) (offset : ℤ) (bits decimals : ℕ) (lent left : List ℕ) (r : Printed) (n : ℤ) →
      1 ≤ bits →
      bits ≤ 0x7F7F_FFFF →
      decimals ≤ 7 →
      Nearest n (sum_of value offset) (of_bits binary32 bits) decimals →
      length lent < length (text_of decimals n) →
      Prints value offset (of_bits binary32 bits) decimals lent left r →
      (r.number ≡ 1) × (r.length ≡ 0) × (left ≡ lent)
  -- and else the text stands first, and behind it what stood there
  pub written :
      (value : ℕ) (offset : ℤ) (bits decimals : ℕ) (lent left : List ℕ) (r : Printed) (n : ℤ) →
      1 ≤ bits →
      bits ≤ 0x7F7F_FFFF →
      decimals ≤ 7 →
      Nearest n (sum_of value offset) (of_bits binary32 bits) decimals →
      length (text_of decimals n) ≤ length lent →
      Prints value offset (of_bits binary32 bits) decimals lent left r →
      (r.number ≡ 0) × (r.length ≡ length (text_of decimals n)) × (left ≡ text_of decimals n ++ drop (length (text_of decimals n)) lent)
  -- "Where the f64 is exact the printed number is within half a last digit of it."
  pub within_half :
      (value : ℕ) (offset : ℤ) (scale : Float) (decimals : ℕ) (n : ℤ) →
      (shown_of value offset scale).exact ≡ 1 →
      Nearest n (sum_of value offset) scale decimals →
      WithinHalf n (shown_of value offset scale).value decimals
  -- "a minus sign only where a digit is not zero"; the digits of the text are the number's, and with the sign they are the number
  pub minus_sign : (decimals : ℕ) (n : ℤ) → T (has_minus (text_of decimals n)) → T (not_zero (text_of decimals n))
  pub reads : (decimals : ℕ) (n : ℤ) → read_from 0 (text_of decimals n) ≡ nat_abs n
  pub tells : (decimals : ℕ) (n m : ℤ) → text_of decimals n ≡ text_of decimals m → n ≡ m
  -- what a text looks like; none is longer than 57 characters
  pub shaped : (decimals : ℕ) (n : ℤ) → Shaped decimals (text_of decimals n)
  pub longest :
      (value : ℕ) (offset : ℤ) (bits decimals : ℕ) (n : ℤ) →
      value < 2 ^ 32 →
      nat_abs offset ≤ 2 ^ 31 →
      1 ≤ bits →
      bits ≤ 0x7F7F_FFFF →
      decimals ≤ 7 →
      Nearest n (sum_of value offset) (of_bits binary32 bits) decimals →
      length (text_of decimals n) ≤ 57
