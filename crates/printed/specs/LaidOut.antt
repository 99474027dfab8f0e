-- How the code comes to the text: the number that is printed, as it is laid out. Nothing that is promised stands here.
use Rattle.std.specs.Prelude.{◌≡◌, ℕ, ◌/◌, ◌^◌, ◌<◌, ℤ, nat_abs, Float}
use Rattle.shown.specs.Value.{sum_of, negative}
use Rattle.printed.specs.Number.{Nearest}
use Rattle.printed.specs.Text.{places}
use Rattle.printed.specs.Steps.{low_digits}
use Rattle.printed.specs.declared.text.Laid.{Laid}

-- what is written: the number that is printed, taken apart
pub record LaidOut (value : ℕ) (offset : ℤ) (scale : Float) (decimals : ℕ) (x : Laid) : Type 0 where
  pub n : ℤ
  pub nearest : Nearest n (sum_of value offset) scale decimals
  pub same : x.decimals ≡ decimals
  pub below : x.below ≡ negative n
  pub digits : x.digits ≡ low_digits 56 (nat_abs n)
  pub fits : nat_abs n < 10 ^ 56
  pub before_point : x.places ≡ places (nat_abs n / 10 ^ decimals)
