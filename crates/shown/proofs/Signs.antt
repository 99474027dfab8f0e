-- Laws of numbers below zero: their size, and their product with a number that is not.
use mathlib.Core.Path.{◌≡◌, refl}
use Prim.Native.Nat.{ℕ, zero, suc, ◌*◌}
use native.Mathlib.Nat.{zero-mul}
use lib.IntN.{ℤ, pos, negsuc, neg_ℤ, ◌*ℤ◌, nat_abs}

pub negated_size : (z : ℤ) → nat_abs (neg_ℤ z) ≡ nat_abs z
negated_size (pos zero) = refl
negated_size (pos (suc n)) = refl
negated_size (negsuc n) = refl

pub negated_times : (a c : ℕ) → neg_ℤ (pos a) *ℤ pos c ≡ neg_ℤ (pos (a * c))
negated_times zero c = rw (zero-mul c)
negated_times (suc a) c = refl
