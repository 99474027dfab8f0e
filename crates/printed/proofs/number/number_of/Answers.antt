-- `printed::number::number_of` meets its contract: from 149 on the power leaves a whole number, below 67 less than half a last digit, and between the two it is split.
use mathlib.Core.Path.{◌≡◌, sym, ap, ◌∙◌}
use Prim.Native.Nat.{ℕ, ◌+◌, ◌-◌, ◌*◌, ◌^◌, ◌≤◌, ◌<◌}
use native.Mathlib.Nat.{add-zero, zero-mul, lt_of_lt_of_le, lt_of_le_of_lt, le_trans, le_of_eq, mul_assoc, mul-le-mul_left}
use native.Mathlib.Omega.{arith}
use lib.Pow.{shl_lt, pow_mono}
use lib.Ieee.Nearest.{closest}
use Rattle.printed.specs.Steps.{together}
use Rattle.printed.proofs.Rounding.{closest_none, closest_widened, closest_power}
use Rattle.printed.proofs.number.number_of.Goals as goal

-- 57, 66 and 25 binary digits are 148
less_than_half : (size power tens : ℕ) → size < 2 ^ 57 → power < 67 → tens ≤ 10 ^ 7 → size * 2 ^ power * tens * 2 < 2 ^ 149
less_than_half size power tens s p t =
    let few : tens * 2 ≤ 2 ^ 25 = omega arith in
    let l = shl_lt (57 + power) 25 (shl_lt 57 power s) in
    let m = pow_mono {i = 57 + power + 25} {j = 149} (omega arith) in
    lt_of_lt_of_le (lt_of_le_of_lt (le_trans (le_of_eq (mul_assoc (size * 2 ^ power) tens 2)) (mul-le-mul_left (size * 2 ^ power) few)) l) m

pub returns-then-power-ge149 : goal.returns-then-power-ge149
returns-then-power-ge149 c =
    let a = c.args in
    let e = closest_power a.size a.tens a.power 149 c.if-power-ge149.true in
    record { is = add-zero _ ∙ sym e; part_below = omega arith; whole_below = omega arith; power_below = omega arith }

pub returns-then-power-lt67 : goal.returns-then-power-lt67
returns-then-power-lt67 c =
    let a = c.args in
    let e = closest_none (a.size * 2 ^ a.power * a.tens) (2 ^ 149) (less_than_half a.size a.power a.tens c.requires.0 c.if-power-lt67.true c.requires.3) in
    record { is = add-zero _ ∙ zero-mul _ ∙ sym e; part_below = omega arith; whole_below = omega arith; power_below = omega arith }

pub returns-else-power-lt67 : goal.returns-else-power-lt67
returns-else-power-lt67 c =
    let a = c.args in
    let r = c.split.result in
    let x = c.split.ensures in
    let e : 149 ≡ 149 - a.power + a.power = omega arith in
    let w = ap (λ (n : ℕ). closest (a.size * 2 ^ a.power * a.tens) (2 ^ n)) e ∙ closest_widened a.size a.tens (149 - a.power) a.power in
    let v : together r a.tens ≡ r.whole * a.tens + r.part = rw x.no_power (omega arith) in
    record { is = v ∙ x.is ∙ sym w; part_below = x.part_below; whole_below = x.whole_below; power_below = rw x.no_power (omega arith) }
