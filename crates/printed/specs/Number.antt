-- 02, request 13, "Depth as printed": which number is printed, each sentence above the line that says it. Definitions only.
-- A printed number is a whole number n of last digits: with two decimals 2400 is 24.00. The shown value is the fraction sum · num scale / den scale of whole
-- numbers, so it is sum · num scale · 10 ^ decimals last digits over den scale.
use Rattle.std.specs.Prelude.{◌≡◌, ℕ, ◌*◌, ◌%◌, ◌^◌, ◌≤◌, ℤ, pos, ◌-ℤ◌, ◌*ℤ◌, nat_abs, Float}
use Rattle.std.specs.Float.Ieee.Positive.{num, den}

-- "from the exact sum and the exact scale as whole numbers, not from the f64": the fraction's upper number
abbrev pub upper_number : ℤ → Float → ℕ → ℤ
upper_number sum scale decimals = sum *ℤ pos (num scale * 10 ^ decimals)

-- how far n is from it; den scale is one last digit
abbrev pub distance : ℤ → ℤ → Float → ℕ → ℕ
distance n sum scale decimals = nat_abs (n *ℤ pos (den scale) -ℤ upper_number sum scale decimals)

pub record Nearest (n sum : ℤ) (scale : Float) (decimals : ℕ) : Type 0 where
  -- "nearest": twice the distance is at most one last digit
  pub near : 2 * distance n sum scale decimals ≤ den scale
  -- "ties to the even last digit": where it is one, the last digit is even
  pub even : 2 * distance n sum scale decimals ≡ den scale → nat_abs n % 10 % 2 ≡ 0
