-- Distances of numbers with signs: of two of one sign the sizes are subtracted, of two signs they are added.
use mathlib.Core.Path.{◌≡◌, refl, sym, ap, ◌∙◌}
use Prim.Native.Nat.{ℕ, zero, suc, ◌+◌, ◌-◌, ◌*◌}
use native.Mathlib.Nat.{add-mul, mul_assoc, mul_comm, mul-sub}
use native.Mathlib.Omega.{arith}
use mathlib.Core.Bool.{Bool, true, false, cond, not, ◌&&◌}
use borrow.Author.Tests.{ltb-true, ltb-false, ne_eqb}
use lib.IntN.{ℤ, pos, negsuc, neg_ℤ, ◌+ℤ◌, ◌-ℤ◌, ◌*ℤ◌, nat_abs, neg_ℤ-+ℤ}
use lib.Dec.{ltb, eqb}
use Rattle.shown.specs.Value.{negative}
use Rattle.shown.proofs.Signs.{negated_size, negated_times}

abbrev pub apart : ℕ → ℕ → ℕ
apart a b = (a - b) + (b - a)

abbrev pub signed : Bool → ℕ → ℤ
signed false n = pos n
signed true n = neg_ℤ (pos n)

abbrev pub spread : Bool → Bool → ℕ → ℕ → ℕ
spread false false a b = apart a b
spread false true a b = a + b
spread true false a b = a + b
spread true true a b = apart a b

pub size_signed : (s : Bool) (n : ℕ) → nat_abs (signed s n) ≡ n
size_signed false n = refl
size_signed true n = negated_size (pos n)

pub negative_signed : (s : Bool) (n : ℕ) → negative (signed s n) ≡ s && not (eqb n 0)
negative_signed false n = refl
negative_signed true zero = refl
negative_signed true (suc n) = rw (ne_eqb (suc n) 0 (omega arith))

minus : (a b : ℕ) → nat_abs (pos a -ℤ pos b) ≡ apart a b
minus a zero = omega arith
minus a (suc b) = go (ltb a (suc b)) refl
  where
    go : (t : Bool) → ltb a (suc b) ≡ t → nat_abs (cond t (negsuc (suc b - suc a)) (pos (a - suc b))) ≡ apart a (suc b)
    go true e = omega (arith, ltb-true a (suc b) e)
    go false e = omega (arith, ltb-false a (suc b) e)

plus : (a b : ℕ) → nat_abs (pos a -ℤ neg_ℤ (pos b)) ≡ a + b
plus a zero = refl
plus a (suc b) = refl

-- both turned round
turned : (x y : ℤ) → nat_abs (neg_ℤ x +ℤ neg_ℤ y) ≡ nat_abs (x +ℤ y)
turned x y = ap nat_abs (sym (neg_ℤ-+ℤ x y)) ∙ negated_size (x +ℤ y)

pub spread_is : (x y : ℤ) (j k : ℕ) → nat_abs (x *ℤ pos j -ℤ y *ℤ pos k) ≡ spread (negative x) (negative y) (nat_abs x * j) (nat_abs y * k)
spread_is (pos a) (pos b) j k = minus (a * j) (b * k)
spread_is (pos a) (negsuc b) j k = plus (a * j) (suc b * k)
spread_is (negsuc a) (pos b) j k = turned (pos (suc a * j)) (pos (b * k))
spread_is (negsuc a) (negsuc b) j k = turned (pos (suc a * j)) (neg_ℤ (pos (suc b * k))) ∙ minus (suc a * j) (suc b * k)

-- a common factor
less_times : (a b m : ℕ) → a * m - b * m ≡ (a - b) * m
less_times a b m = rw (mul_comm a m, mul_comm b m, mul_comm (a - b) m) (sym (mul-sub m a b))

apart_times : (a b m : ℕ) → apart (a * m) (b * m) ≡ apart a b * m
apart_times a b m = rw (less_times a b m, less_times b a m) (sym (add-mul (a - b) (b - a) m))

spread_times : (s t : Bool) (a b m : ℕ) → spread s t (a * m) (b * m) ≡ spread s t a b * m
spread_times false false a b m = apart_times a b m
spread_times false true a b m = sym (add-mul a b m)
spread_times true false a b m = sym (add-mul a b m)
spread_times true true a b m = apart_times a b m

pub common : (x y : ℤ) (j k m : ℕ) → nat_abs (x *ℤ pos (j * m) -ℤ y *ℤ pos (k * m)) ≡ nat_abs (x *ℤ pos j -ℤ y *ℤ pos k) * m
common x y j k m =
    spread_is x y (j * m) (k * m)
    ∙ rw (← mul_assoc (nat_abs x) j m, ← mul_assoc (nat_abs y) k m) (spread_times (negative x) (negative y) (nat_abs x * j) (nat_abs y * k) m)
    ∙ ap (λ (n : ℕ). n * m) (sym (spread_is x y j k))

-- one factor after the other
signed_times : (s : Bool) (n k : ℕ) → signed s n *ℤ pos k ≡ signed s (n * k)
signed_times false n k = refl
signed_times true n k = negated_times n k

pub times_times : (z : ℤ) (a b : ℕ) → z *ℤ pos a *ℤ pos b ≡ z *ℤ pos (a * b)
times_times (pos n) a b = ap pos (mul_assoc n a b)
times_times (negsuc n) a b = signed_times true (suc n * a) b ∙ ap (signed true) (mul_assoc (suc n) a b)
