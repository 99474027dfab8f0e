-- `printed::number::nearest_part` meets its contract. The product is high · 2 ^ 29 and the last 29 digits of low, and half · 2 ^ 29 is one half of a last digit.
use mathlib.Core.Path.{◌≡◌, sym, ap, ◌∙◌}
use Prim.Native.Nat.{ℕ, ◌+◌, ◌-◌, ◌*◌, ◌/◌, ◌^◌, ◌≤◌, ◌<◌}
use native.Mathlib.Nat.{mul-le-mul, div-le_self, lt_of_le_of_lt}
use native.Mathlib.Omega.{arith}
use lib.Pow.{pow_pos, pow-add}
use lib.Ieee.Nearest.{closest}
use Rattle.printed.proofs.Rounding.{low_of, high_of, closest_product}
use Rattle.printed.proofs.number.nearest_part.Goals as goal

-- two halves make one last digit
halves : (shift : ℕ) → 30 ≤ shift → 2 ^ shift ≡ 2 ^ (shift - 30) * 2 ^ 29 * 2
halves shift h =
    let e : shift ≡ shift - 30 + 30 = omega arith in
    ap (λ (k : ℕ). 2 ^ k) e ∙ pow-add 2 (shift - 30) 30 ∙ omega arith

-- both products fit 64 bits
module _ (rest tens : ℕ) (few : tens ≤ 10 ^ 7) where
  low_fits : low_of rest tens (2 ^ 29) ≤ 2 ^ 29 * 10 ^ 7
  low_fits = mul-le-mul {n₂ = 2 ^ 29} {m₂ = 10 ^ 7} (omega arith) few

  high_fits : rest < 2 ^ 60 → high_of rest tens (2 ^ 29) < 2 ^ 63
  high_fits h =
      let p : rest / 2 ^ 29 * tens ≤ 2 ^ 31 * 10 ^ 7 = mul-le-mul {n₂ = 2 ^ 31} {m₂ = 10 ^ 7} (omega arith) few in
      let q = low_fits in
      omega arith

pub overflow_mul-low : goal.overflow_mul-low
overflow_mul-low c = omega (arith, low_fits c.args.rest c.args.tens c.requires.3)

pub overflow_mul-high : goal.overflow_mul-high
overflow_mul-high c = omega (arith, high_fits c.args.rest c.args.tens c.requires.3 c.requires.0)

pub overflow_add-high : goal.overflow_add-high
overflow_add-high c = omega (arith, high_fits c.args.rest c.args.tens c.requires.3 c.requires.0)

pub nonzero_rem-more : goal.nonzero_rem-more
nonzero_rem-more c = rw c.two_to-half.ensures (pow_pos _)

pub nonzero_div-high-3 : goal.nonzero_div-high-3
nonzero_div-high-3 c = rw c.two_to-half.ensures (pow_pos _)

pub nearest_of-requires : goal.nearest_of-requires
nearest_of-requires c = lt_of_le_of_lt (div-le_self _ c.two_to-half.result) (high_fits c.args.rest c.args.tens c.requires.3 c.requires.0)

pub returns : goal.returns
returns c =
    let a = c.args in
    let half = c.two_to-half in
    let some : 0 < half.result = rw half.ensures (pow_pos _) in
    let e : 2 ^ a.shift ≡ half.result * 2 ^ 29 * 2 = rw half.ensures (halves a.shift c.requires.1) in
    c.nearest_of.ensures ∙ sym (ap (closest (a.rest * a.tens)) e ∙ closest_product a.rest a.tens (2 ^ 29) half.result (omega arith) some)
