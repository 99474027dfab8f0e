-- The exact sum of a u32 and an i32 has at most 33 digits: an i64 holds it, and so does an f64.
use mathlib.Core.Path.{◌≡◌}
use Prim.Native.Nat.{ℕ, ◌^◌, ◌≤◌, ◌<◌}
use native.Mathlib.Nat.{le_refl, lt_trans, lt_of_le_of_lt}
use native.Mathlib.Omega.{arith}
use lib.IntN.{ℤ, pos, negsuc, nat_abs}
use lib.Signed.{mag}
use lib.Dec.{T, le→leb, lt→ltb, lit<}
use lib.Ieee.{binary64, in_float}
use mir.Syntax.{w32, w64}
use mir.Val.{Fits, SFits, to_z, of_z}
use mir.Facts.{to_z-of_z}
use Rattle.shown.specs.Value.{sum_of}
use Rattle.shown.proofs.Bits.{sum_few}

mag_le : (z : ℤ) → mag z ≤ nat_abs z
mag_le (pos n) = le_refl n
mag_le (negsuc n) = omega arith

in_float_lem : (z : ℤ) → mag z < 2 ^ 53 → T (in_float binary64 z)
unfolding in_float
in_float_lem (pos n) h = le→leb n (2 ^ 53) (omega arith)
in_float_lem (negsuc n) h = lt→ltb n (2 ^ 53) h

module _ {v : ℕ} {o : ℤ} (fv : Fits w32 v) (fo : SFits w32 o) where
  pub bounded : mag (sum_of v o) < 2 ^ 53
  bounded = lt_trans (lt_of_le_of_lt (mag_le (sum_of v o)) (sum_few v o fv.fits fo.sfits)) (lit< tt)

  pub in_word : SFits w64 (sum_of v o)
  in_word = record { sfits = lt_trans bounded (lit< tt) }

  -- z is what `sum_of` gives back, which was handed the offset's bits
  module _ {z : ℤ} (e : z ≡ sum_of v (to_z w32 (of_z w32 o))) where
    pub is_sum : to_z w64 (of_z w64 z) ≡ sum_of v o
    is_sum = rw (e, to_z-of_z fo, to_z-of_z in_word)

    pub sum_in_float : T (in_float binary64 (to_z w64 (of_z w64 z)))
    sum_in_float = rw is_sum (in_float_lem (sum_of v o) bounded)
