-- A number that was put into a set is in it, and no other went in or out.
use mathlib.Core.Path.{◌≡◌, refl, ap}
use mathlib.Core.Bool.{Bool, true, false, ◌||◌}
use mathlib.Core.List.{List}
use Prim.Native.Nat.{ℕ, suc, ◌+◌, ◌-◌, ◌/◌, ◌%◌, ◌^◌, ◌<◌, ◌≤◌, max}
use native.Mathlib.Omega.{arith}
use borrow.Author.Tests.{ltb-true, ltb-false, eqb-true, eqb-false}
use native.Mathlib.Nat.{zero-div, div_self, div-eq_of_lt, pow-suc}
use lib.Pow.{pow_pos, pow-lt, pow-add, shl-shr}
use lib.Dec.{eqb, ltb}
use lib.Bits.{bit_or, or_shr, or_step}
use lib.ListN.{length, get_or, drop, drop_of_length-le}
use lib.Seq.{drop-cons}
use native.Mathlib.Numerals.{add-one}
use Rattle.octets.specs.Pick.{pick}
use Rattle.octets.specs.Bits.{has_bit, with_bit, bits_of}

-- the last binary digit of a bit_or
or_odd : (a b : ℕ) → bit_or a b % 2 ≡ max (a % 2) (b % 2)
or_odd a b = rw (or_step a b) (omega arith)

-- digit t of a bit_or
or_digit : (a b t : ℕ) → bit_or a b / 2 ^ t % 2 ≡ max (a / 2 ^ t % 2) (b / 2 ^ t % 2)
or_digit a b t = rw (or_shr a b t) (or_odd _ _)

digit_same : (s : ℕ) → 2 ^ s / 2 ^ s % 2 ≡ 1
digit_same s = rw (div_self (pow_pos s))

digit_below : (s t : ℕ) → s < t → 2 ^ s / 2 ^ t % 2 ≡ 0
digit_below s t h = rw (div-eq_of_lt (pow-lt h))

-- 2 ^ s is 2 ^ (s - t - 1) twice, at digit t
digit_above : (s t : ℕ) → t < s → 2 ^ s / 2 ^ t % 2 ≡ 0
digit_above s t h =
    let e : s ≡ suc (s - t - 1) + t = omega arith in
    rw (e, pow-add 2 (suc (s - t - 1)) t, shl-shr, pow-suc) (omega arith)

digit_other : (s t : ℕ) → (s ≡ t → ⊥) → 2 ^ s / 2 ^ t % 2 ≡ 0
digit_other s t h = go (ltb s t) refl
  where
    go : (b : Bool) → ltb s t ≡ b → 2 ^ s / 2 ^ t % 2 ≡ 0
    go true e = digit_below s t (ltb-true s t e)
    go false e = let l : t ≤ s = ltb-false s t e in digit_above s t (omega arith)

-- t is in the set with s in it if t is s, or was in the set
pub has_with : (x s t : ℕ) → has_bit (with_bit x s) t ≡ (eqb s t || has_bit x t)
unfolding has_bit with_bit
has_with x s t = go (eqb s t) refl
  where
    go : (b : Bool) → eqb s t ≡ b → has_bit (with_bit x s) t ≡ (b || has_bit x t)
    go true e =
        let d : 2 ^ s / 2 ^ t % 2 ≡ 1 = rw (eqb-true s t e) (digit_same t) in
        let m : max (x / 2 ^ t % 2) (2 ^ s / 2 ^ t % 2) ≡ 1 = omega arith in
        rw (or_digit x (2 ^ s) t, m)
    go false e =
        let d : 2 ^ s / 2 ^ t % 2 ≡ 0 = digit_other s t (eqb-false s t e) in
        let m : max (x / 2 ^ t % 2) (2 ^ s / 2 ^ t % 2) ≡ x / 2 ^ t % 2 = omega arith in
        rw (or_digit x (2 ^ s) t, m)

pub has_none : (t : ℕ) → has_bit 0 t ≡ false
unfolding has_bit
has_none t = rw (zero-div)

-- ---- a set from a list, from its element k on

module _ (l : List ℕ) (k : ℕ) where
  pub bits_end : length l ≤ k → bits_of (drop k l) ≡ 0
  unfolding bits_of
  bits_end h = ap bits_of (drop_of_length-le l h)

  pub bits_next : k < length l → bits_of (drop k l) ≡ pick (ltb (get_or l k 0) 64) (with_bit (bits_of (drop (k + 1) l)) (get_or l k 0)) (bits_of (drop (k + 1) l))
  unfolding bits_of
  bits_next h = rw (add-one, drop-cons l k 0)
