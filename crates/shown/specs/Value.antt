-- 01, "The shown value", each sentence above the line that says it. Definitions only.
-- A Float is `nan`, `inf s` or `fin s m e`, the number m · 2^e, negative where s is true. Its size is the fraction num / den of whole numbers.
use Rattle.std.specs.Prelude.{◌≡◌, ℕ, ◌*◌, ◌^◌, ◌<◌, Bool, true, false, cond, ◌&&◌, ℤ, pos, negsuc, neg_ℤ, ◌+ℤ◌, ◌*ℤ◌, nat_abs, T, eqb, Float, Result, Ok, Err}
use Rattle.std.specs.Float.{nan, inf, fin, binary64}
use Rattle.std.specs.Float.Ieee.{up, round}
use Rattle.std.specs.Float.Ieee.Scale.{finite}
use Rattle.std.specs.Float.Ieee.Positive.{positive, num, den}
use Rattle.octets.specs.Numbers.{completed, wrong_value}
use Rattle.octets.specs.{Refusals.refusal_number, declared.numbers.Refusal.Refusal}
use Rattle.shown.specs.{declared.Rounded.Rounded, declared.Shown.Shown}

-- "(value + offset) · scale, the sum exact"
abbrev pub sum_of : ℕ → ℤ → ℤ
sum_of value offset = pos value +ℤ offset

abbrev pub negative : ℤ → Bool
negative (pos n) = false
negative (negsuc n) = true

-- "the product in f64 rounded once": the fraction sum · num / den as the nearest f64, and at a tie the even one, which is what `round` gives
unfoldable pub product_of : ℤ → Float → Float
product_of sum scale = round binary64 (negative sum) (nat_abs sum * num scale) (den scale)

abbrev pub numerator : Float → ℤ
numerator nan = pos 0
numerator (inf s) = pos 0
numerator (fin false m e) = pos (m * up e)
numerator (fin true m e) = neg_ℤ (pos (m * up e))

-- x is sum · scale and nothing is rounded: x is finite, and the equation of the two fractions, cleared of what is below their lines, holds in whole numbers
abbrev pub IsProduct : Float → ℤ → Float → Type 0
IsProduct x sum scale = T (finite x) × (numerator x *ℤ pos (den scale) ≡ sum *ℤ pos (num scale * den x))

-- the same as a test: 02, request 13, "The leaf that gives the shown value now says also whether it is exact"
abbrev pub equal : ℤ → ℤ → Bool
equal (pos a) (pos b) = eqb a b
equal (pos a) (negsuc b) = false
equal (negsuc a) (pos b) = false
equal (negsuc a) (negsuc b) = eqb a b

abbrev pub is_product : Float → ℤ → Float → Bool
is_product x sum scale = finite x && equal (numerator x *ℤ pos (den scale)) (sum *ℤ pos (num scale * den x))

-- "A scale not finite and above zero, as style 00 has it, gives 4 and value 0." `positive` is finite and above zero. `exact` is 1 where
-- the f64 is the exact product, else 0; with 4 it is 0.
abbrev pub shown_of : ℕ → ℤ → Float → Shown
shown_of value offset scale =
    let product = product_of (sum_of value offset) scale in
    cond (positive scale)
    (record { number = completed; exact = cond (is_product product (sum_of value offset) scale) 1 0; value = product })
    (record { number = wrong_value; exact = 0; value = fin false 0 (pos 0) })

-- what is shown of a product, or of its refusal
abbrev pub shown_as : Result Rounded Refusal → Shown
shown_as (Ok product) = record { number = completed; exact = cond product.exact 1 0; value = product.value }
shown_as (Err why) = record { number = refusal_number why; exact = 0; value = fin false 0 (pos 0) }

-- where the scale is finite and above zero
pub record SaysExact (value : ℕ) (offset : ℤ) (scale : Float) (r : Shown) : Type 0 where
  -- exact is 1 if and only if the f64 is the exact product
  pub only : r.exact ≡ 1 → IsProduct r.value (sum_of value offset) scale
  pub every : IsProduct r.value (sum_of value offset) scale → r.exact ≡ 1
  -- "Below 2^29 in magnitude of the sum it is exact."
  pub small : nat_abs (sum_of value offset) < 2 ^ 29 → r.exact ≡ 1

abbrev pub Exact : ℕ → ℤ → Float → Shown → Type 0
Exact value offset scale r = T (positive scale) → SaysExact value offset scale r
