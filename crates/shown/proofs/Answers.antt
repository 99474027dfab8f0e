-- The two answers: number 0 with the product and whether it is exact, and number 4 with 0.
use mathlib.Core.Path.{◌≡◌, refl, sym, ap}
use Prim.Native.Nat.{ℕ, ◌*◌, ◌^◌, ◌<◌}
use native.Mathlib.Nat.{lt_trans}
use native.Mathlib.Omega.{arith}
use mathlib.Core.Bool.{Bool, true, false, cond}
use denote.Floats.{passes}
use lib.IntN.{ℤ, pos, negsuc, ◌*ℤ◌, nat_abs}
use lib.Dec.{T, eqb→eq, eqb_refl, lit<}
use lib.Ieee.{Float, fin, binary32, of_bits}
use lib.Ieee.Bits.{is_true}
use lib.Ieee.Fits.{and_i, and_l, and_r}
use lib.Ieee.Scale.{finite}
use lib.Ieee.Positive.{positive, num, den}
use Rattle.octets.specs.Numbers.{completed, wrong_value}
use Rattle.shown.specs.Value.{sum_of, product_of, numerator, equal, is_product, shown_of, IsProduct, SaysExact, Exact}
use Rattle.shown.specs.Whole.{digits_of, power_of, is_held}
use Rattle.shown.specs.declared.Shown.{Shown}
use Rattle.shown.proofs.Bits.{parts, digits_few, times_lt}
use Rattle.shown.proofs.Zeros.{few_held, held_of, of_held}
use Rattle.shown.proofs.Product.{exact_where_held, held_where_exact}

-- ---- the test of the product
equal_says : (a b : ℤ) → T (equal a b) → a ≡ b
equal_says (pos a) (pos b) t = ap pos (eqb→eq a b t)
equal_says (pos a) (negsuc b) t = absurd t
equal_says (negsuc a) (pos b) t = absurd t
equal_says (negsuc a) (negsuc b) t = ap negsuc (eqb→eq a b t)

equal_itself : (a : ℤ) → T (equal a a)
equal_itself (pos a) = eqb_refl a
equal_itself (negsuc a) = eqb_refl a

module _ (y : Float) (z : ℤ) (x : Float) where
  abbrev sides : Bool
  sides = equal (numerator y *ℤ pos (den x)) (z *ℤ pos (num x * den y))

  pub product_says : T (is_product y z x) → IsProduct y z x
  product_says t = (and_l (finite y) sides t, equal_says _ _ (and_r (finite y) sides t))

  pub product_tested : IsProduct y z x → T (is_product y z x)
  product_tested p = and_i (finite y) sides p.0 (rw p.1 (equal_itself (z *ℤ pos (num x * den y))))

alike : (a b : Bool) → (T a → T b) → (T b → T a) → a ≡ b
alike true b f g = sym (is_true b (f tt))
alike false true f g = absurd (g tt)
alike false false f g = refl

one : (b : Bool) → ◌≡◌ {A = ℕ} (cond b 1 0) 1 → T b
one true e = tt
one false e = absurd (omega arith)

-- ---- of any scale: exact is 1 only where the product is exact, and where the scale is taken it is 1 there
module _ (value : ℕ) (offset : ℤ) (x : Float) where
  abbrev sum : ℤ
  sum = sum_of value offset

  abbrev product : Float
  product = product_of sum x

  pub only_exact : (shown_of value offset x).exact ≡ 1 → IsProduct (shown_of value offset x).value sum x
  only_exact = go (positive x) refl
    where
      go : (p : Bool) → positive x ≡ p → (shown_of value offset x).exact ≡ 1 → IsProduct (shown_of value offset x).value sum x
      go true e = rw e (λ h. product_says product sum x (one (is_product product sum x) h))
      go false e = rw e (λ h. absurd (omega arith))

  pub every_exact : positive x ≡ true → IsProduct (shown_of value offset x).value sum x → (shown_of value offset x).exact ≡ 1
  every_exact e = rw e (λ p. rw (is_true (is_product product sum x) (product_tested product sum x p)))

-- ---- a scale that is finite and above zero, by its bits
module _ (value : ℕ) (offset : ℤ) (bits : ℕ) (taken : positive (of_bits binary32 bits) ≡ true) where
  abbrev scale : Float
  scale = of_bits binary32 bits

  abbrev size : ℕ
  size = nat_abs (sum_of value offset) * digits_of bits

  -- what the code tests is what the definition tests
  test_is : size < 2 ^ 57 → is_product (product_of (sum_of value offset) scale) (sum_of value offset) scale ≡ is_held size
  test_is h =
      let z = sum_of value offset in
      let p = parts bits taken in
      alike (is_product (product_of z scale) z scale) (is_held size)
      (λ t. passes _ (of_held size (held_where_exact z scale (digits_of bits) (power_of bits) p (product_says (product_of z scale) z scale t))))
      (λ t. product_tested (product_of z scale) z scale (exact_where_held z scale (digits_of bits) (power_of bits) p h (held_of size h t)))

  -- 29 digits of the sum and 24 of the scale are 53
  pub small_exact : nat_abs (sum_of value offset) < 2 ^ 29 → IsProduct (shown_of value offset scale).value (sum_of value offset) scale
  small_exact h =
      let few : size < 2 ^ 53 = times_lt 29 24 h (digits_few bits) in
      rw taken (exact_where_held (sum_of value offset) scale (digits_of bits) (power_of bits) (parts bits taken) (lt_trans few (lit< tt)) (few_held size few))

  says : SaysExact value offset scale (shown_of value offset scale)
  says =
      let every = every_exact value offset scale taken in record { only = only_exact value offset scale; every = every; small = λ h. every (small_exact h) }

  abbrev pub given : Shown
  given = record { number = completed; exact = cond (is_held size) 1 0; value = product_of (sum_of value offset) scale }

  pub shows : size < 2 ^ 57 → (given ≡ shown_of value offset scale) × Exact value offset scale given
  shows h = let e : given ≡ shown_of value offset scale = rw (taken, test_is h) in (e, λ t. rw e says)

-- ---- any other
abbrev pub refusal : Shown
refusal = record { number = wrong_value; exact = 0; value = fin false 0 (pos 0) }

pub refuses : (value : ℕ) (offset : ℤ) (x : Float) → positive x ≡ false → (refusal ≡ shown_of value offset x) × Exact value offset x refusal
refuses value offset x e = rw e (refl, λ t. absurd t)
