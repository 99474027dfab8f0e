-- `is_held` tests that a size has at most 53 digits before zeros, in binary, which is what an f64 holds.
use mathlib.Core.Path.{◌≡◌, refl, sym, ap, ◌∙◌}
use Prim.Native.Nat.{ℕ, zero, suc, ◌-◌, ◌*◌, ◌/◌, ◌%◌, ◌^◌, ◌≤◌, ◌<◌}
use native.Mathlib.Nat.{le_of_lt, lt_of_le_of_lt, mul-one, mul_assoc, mul-le-mul_left, pow-suc, mul-mod_left, mul-div_cancel, div-add-mod', eq_of_mul-eq-mul_right}
use native.Mathlib.Omega.{arith}
use mathlib.Core.Bool.{Bool, true, false, ◌&&◌, ◌||◌, true-or, or-true}
use borrow.Author.Tests.{leb-true, leb-false, lt-ltb, eq-eqb}
use lib.Dec.{T, eqb, leb, ltb, eqb→eq, ltb→lt}
use lib.Pow.{pow-add, pow_pos}
use lib.Ieee.Digits.{back}
use lib.Ieee.Fits.{and_l, and_r}
use Rattle.shown.specs.Whole.{is_held}

-- the digits of size, and the zeros behind them
pub record Held (size : ℕ) : Type 0 where
  pub digits : ℕ
  pub zeros : ℕ
  pub few : digits < 2 ^ 53
  pub is : size ≡ digits * 2 ^ zeros

-- one of five tests
one_of : {P : Type 0} (a b c d e : Bool) → (T a → P) → (T b → P) → (T c → P) → (T d → P) → (T e → P) → T (a || b || c || d || e) → P
one_of true b c d e p q r s u t = p tt
one_of false true c d e p q r s u t = q tt
one_of false false true d e p q r s u t = r tt
one_of false false false true e p q r s u t = s tt
one_of false false false false e p q r s u t = u t

four : (m i : ℕ) → m * 2 ^ suc (suc (suc (suc i))) ≡ m * 2 ^ i * 16
four m i = simp (pow-suc, mul_assoc)

cancel : (a b u w : ℕ) → w ≤ u → a * 2 ^ u ≡ b * 2 ^ w → a * 2 ^ (u - w) ≡ b
cancel a b u w h e = eq_of_mul-eq-mul_right (2 ^ w) (pow_pos w) (a * 2 ^ (u - w)) b (rw (mul_assoc, ← pow-add 2 (u - w) w, back u w h) e)

module _ (size : ℕ) where
  -- i zeros at the end, and at most 53 digits before them
  abbrev ends : ℕ → Bool
  ends i = eqb (size % 2 ^ i) 0 && ltb (size / 2 ^ i) (2 ^ 53)

  divided : (i : ℕ) → T (eqb (size % 2 ^ i) 0) → size ≡ size / 2 ^ i * 2 ^ i
  divided i t = omega (arith, div-add-mod' size (2 ^ i), eqb→eq (size % 2 ^ i) 0 t)

  held_by : (i : ℕ) → T (ends i) → Held size
  held_by i t =
      record {
        digits = size / 2 ^ i;
        zeros = i;
        few = ltb→lt (size / 2 ^ i) (2 ^ 53) (and_r (eqb (size % 2 ^ i) 0) _ t);
        is = divided i (and_l (eqb (size % 2 ^ i) 0) (ltb (size / 2 ^ i) (2 ^ 53)) t);
      }

  pub few_held : size < 2 ^ 53 → Held size
  few_held h = record { digits = size; zeros = 0; few = h; is = sym (mul-one size) }

  pub held_of : size < 2 ^ 57 → T (is_held size) → Held size
  held_of h =
      one_of (ltb size (2 ^ 53)) (ends 1) (ends 2) (ends 3) (eqb (size % 16) 0) (λ t. few_held (ltb→lt size (2 ^ 53) t)) (held_by 1) (held_by 2) (held_by 3)
      (λ t. record { digits = size / 16; zeros = 4; few = omega arith; is = divided 4 t })

  ends_by : (m i : ℕ) → m < 2 ^ 53 → size ≡ m * 2 ^ i → ends i ≡ true
  ends_by m i h e = rw (e, mul-mod_left m (2 ^ i), mul-div_cancel m (pow_pos i)) (lt-ltb m (2 ^ 53) h)

  pub of_held : Held size → is_held size ≡ true
  of_held r = go r.digits r.zeros r.few r.is
    where
      go : (m i : ℕ) → m < 2 ^ 53 → size ≡ m * 2 ^ i → is_held size ≡ true
      go m zero h e = simp (lt-ltb size (2 ^ 53) (omega arith), true-or)
      go m (suc zero) h e = simp (ends_by m 1 h e, true-or, or-true)
      go m (suc (suc zero)) h e = simp (ends_by m 2 h e, true-or, or-true)
      go m (suc (suc (suc zero))) h e = simp (ends_by m 3 h e, true-or, or-true)
      go m (suc (suc (suc (suc i)))) h e = simp (eq-eqb (size % 16) 0 (ap (λ (n : ℕ). n % 16) (e ∙ four m i) ∙ mul-mod_left (m * 2 ^ i) 16), or-true)

  -- size * 2 ^ w is a number of at most 53 digits, and zeros
  pub moved : (m u w : ℕ) → m < 2 ^ 53 → m * 2 ^ u ≡ size * 2 ^ w → Held size
  moved m u w h e = go (leb w u) refl
    where
      go : (b : Bool) → leb w u ≡ b → Held size
      go true t = record { digits = m; zeros = u - w; few = h; is = sym (cancel m size u w (leb-true w u t) e) }
      go false t =
          let c : size * 2 ^ (w - u) ≡ m = cancel size m w u (le_of_lt (leb-false w u t)) (sym e) in
          few_held (lt_of_le_of_lt (rw (mul-one size) at (mul-le-mul_left size (pow_pos (w - u)))) (rw (← c) at h))
