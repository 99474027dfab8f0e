-- The number that is made from the exact fraction is the one that is printed, and it is below zero where the sum is and it is not zero itself.
use mathlib.Core.Path.{◌≡◌, sym, ap, ◌∙◌}
use Prim.Native.Nat.{ℕ, ◌+◌, ◌*◌, ◌^◌, ◌<◌}
use native.Mathlib.Nat.{mul_assoc, mul-pos}
use native.Mathlib.Omega.{arith}
use mathlib.Core.Bool.{Bool, true, not, ◌&&◌, ◌||◌}
use lib.IntN.{ℤ, nat_abs}
use lib.Dec.{eqb}
use lib.Pow.{pow_pos}
use lib.Ieee.{binary32, of_bits}
use lib.Ieee.Nearest.{closest, closest_same}
use lib.Ieee.Positive.{positive, num, den, den_pos}
use Rattle.shown.specs.Value.{negative}
use Rattle.shown.specs.Whole.{digits_of, power_of}
use Rattle.shown.proofs.Bits.{parts}
use Rattle.printed.proofs.Rounding.{left_over}
use Rattle.printed.proofs.Signs.{signed, negative_signed, size_signed}
use Rattle.printed.proofs.Nearby.{nearest_of}

cross : (s m t c q k d : ℕ) → m * c ≡ q * k * d → s * q * k * t * d ≡ s * (m * t) * c
cross s m t c q k d e = let f : m * c * (s * t) ≡ q * k * d * (s * t) = ap (λ (z : ℕ). z * (s * t)) e in omega arith

-- the fraction of the scale's bits is the scale
pub made_is : (sum : ℤ) (bits decimals : ℕ) → positive (of_bits binary32 bits) ≡ true → closest (nat_abs sum * digits_of bits * 2 ^ power_of bits * 10 ^ decimals) (2 ^ 149) ≡ nat_abs (nearest_of sum (of_bits binary32 bits) decimals)
made_is sum bits decimals p =
    let x = of_bits binary32 bits in
    closest_same _ (2 ^ 149) (nat_abs sum * (num x * 10 ^ decimals)) (den x) (pow_pos 149) (den_pos x)
    (cross (nat_abs sum) (num x) (10 ^ decimals) (2 ^ 149) (digits_of bits) (2 ^ power_of bits) (den x) (parts bits p).cross)
    ∙ sym (size_signed (negative sum) _)

-- a number of two parts is zero where both are
pub below_is : (s : Bool) (w part k t : ℕ) → 0 < k → 0 < t → s && (not (eqb w 0) || not (eqb part 0)) ≡ negative (signed s (w * k * t + part))
below_is s w part k t K L = rw (negative_signed s (w * k * t + part), mul_assoc w k t, left_over w part (k * t) (mul-pos K L))
