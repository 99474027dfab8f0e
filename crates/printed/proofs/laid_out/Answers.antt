-- `printed::laid_out` meets its contract: the two parts that are made are those of the nearest number, and the digits are taken from it.
use mathlib.Core.Path.{◌≡◌, refl, ap, ◌∙◌}
use Prim.Native.Nat.{ℕ, ◌^◌, ◌≤◌, ◌<◌}
use native.Mathlib.Nat.{zero-lt-suc, pow-le-pow_right}
use native.Mathlib.Omega.{arith}
use mathlib.Core.Bool.{true}
use lib.IntN.{ℤ, nat_abs}
use lib.Signed.{nat_abs-le}
use lib.Pow.{pow_pos}
use lib.Ieee.{binary32, of_bits}
use lib.Ieee.Positive.{positive}
use mir.Facts.{to_z-of_z}
use Rattle.shown.specs.Value.{sum_of, negative}
use Rattle.shown.specs.Whole.{fraction_of}
use Rattle.shown.specs.declared.Fraction.{Fraction}
use Rattle.shown.proofs.Bits.{parts, size_few}
use Rattle.printed.specs.Steps.{together, low_digits, Rounds}
use Rattle.printed.specs.declared.number.Number.{Number}
use Rattle.printed.proofs.Decimal.{tens_pos}
use Rattle.printed.proofs.Signs.{signed, size_signed}
use Rattle.printed.proofs.Nearby.{nearest_of, is_nearest}
use Rattle.printed.proofs.Sizes.{fits}
use Rattle.printed.proofs.Made.{made_is, below_is}
use Rattle.printed.proofs.Outcome.{number_back, room}
use Rattle.printed.proofs.laid_out.Goals as goal

tens_few : (decimals tens : ℕ) → tens ≡ 10 ^ decimals → decimals ≤ 7 → (1 ≤ tens) × (tens ≤ 10 ^ 7)
tens_few decimals tens e h = rw e (tens_pos decimals, pow-le-pow_right (zero-lt-suc 9) h)

-- ---- what is printed, of the arguments alone
module _ (v : ℕ) (o : ℤ) (bits decimals : ℕ) where
  abbrev n : ℤ
  n = nearest_of (sum_of v o) (of_bits binary32 bits) decimals

  n_fits : v < 2 ^ 32 → nat_abs o ≤ 2 ^ 31 → positive (of_bits binary32 bits) ≡ true → decimals ≤ 7 → nat_abs n < 10 ^ 56
  n_fits hv ho p d = fits v o bits decimals n hv ho p d (is_nearest (of_bits binary32 bits) decimals (sum_of v o))

  -- the two parts of the number make the one that is printed
  value_is :
      (fraction : Fraction) (tens : ℕ) (x : Number) →
      fraction ≡ fraction_of v o bits →
      tens ≡ 10 ^ decimals →
      positive (of_bits binary32 bits) ≡ true →
      Rounds fraction.size fraction.power tens x →
      together x tens ≡ nat_abs n
  unfolding fraction_of
  value_is fraction tens x f t p r = r.is ∙ rw (f, t) (made_is (sum_of v o) bits decimals p)

pub number_of-printed-requires : goal.number_of-printed-requires
unfolding fraction_of
number_of-printed-requires c =
    let a = c.args in
    let f : c.fraction_of-fraction.result ≡ fraction_of a.value a.offset a.scale = rw (to_z-of_z c.ranges.offset) at c.fraction_of-fraction.ensures in
    let t = tens_few a.decimals c.ten_to-tens.result c.ten_to-tens.ensures c.requires.1 in
    rw f (size_few a.value a.offset a.scale c.ranges.value.fits c.ranges.offset.sfits, (parts a.scale c.requires.0).low, t.0, t.1)

pub digits_of-digits-requires : goal.digits_of-digits-requires
digits_of-digits-requires c =
    let r = c.number_of-printed.ensures in
    let t = tens_few c.args.decimals c.ten_to-tens.result c.ten_to-tens.ensures c.requires.1 in
    (r.whole_below, r.power_below, omega (arith, r.part_below, t.1), t.1)

-- the digits are those of the number that is printed
pub places_of-requires : goal.places_of-requires
places_of-requires c =
    let a = c.args in
    let f : c.fraction_of-fraction.result ≡ fraction_of a.value a.offset a.scale = rw (to_z-of_z c.ranges.offset) at c.fraction_of-fraction.ensures in
    let value = value_is a.value a.offset a.scale a.decimals c.fraction_of-fraction.result c.ten_to-tens.result c.number_of-printed.result f c.ten_to-tens.ensures c.requires.0 c.number_of-printed.ensures in
    let small = n_fits a.value a.offset a.scale a.decimals c.ranges.value.fits (nat_abs-le a.offset c.ranges.offset.sfits) c.requires.0 c.requires.1 in
    (c.requires.1, (number_back _ c.digits_of-digits.result (c.digits_of-digits.ensures ∙ ap (low_digits 56) value) small).1)

pub invariant_of-result : goal.invariant_of-result
invariant_of-result c =
    let a = c.args in
    let f : c.fraction_of-fraction.result ≡ fraction_of a.value a.offset a.scale = rw (to_z-of_z c.ranges.offset) at c.fraction_of-fraction.ensures in
    let value = value_is a.value a.offset a.scale a.decimals c.fraction_of-fraction.result c.ten_to-tens.result c.number_of-printed.result f c.ten_to-tens.ensures c.requires.0 c.number_of-printed.ensures in
    let small = n_fits a.value a.offset a.scale a.decimals c.ranges.value.fits (nat_abs-le a.offset c.ranges.offset.sfits) c.requires.0 c.requires.1 in
    let back = number_back _ c.digits_of-digits.result (c.digits_of-digits.ensures ∙ ap (low_digits 56) value) small in
    record { room = room _ _ a.decimals small (c.places_of.ensures ∙ rw back.0) c.requires.1; few = c.requires.1; are = back.1 }

pub returns : goal.returns
unfolding fraction_of
returns c =
    let a = c.args in
    let z = sum_of a.value a.offset in
    let r = c.number_of-printed.result in
    let tens = c.ten_to-tens.result in
    let f : c.fraction_of-fraction.result ≡ fraction_of a.value a.offset a.scale = rw (to_z-of_z c.ranges.offset) at c.fraction_of-fraction.ensures in
    let value = value_is a.value a.offset a.scale a.decimals c.fraction_of-fraction.result tens r f c.ten_to-tens.ensures c.requires.0 c.number_of-printed.ensures in
    let small = n_fits a.value a.offset a.scale a.decimals c.ranges.value.fits (nat_abs-le a.offset c.ranges.offset.sfits) c.requires.0 c.requires.1 in
    let digits_are = c.digits_of-digits.ensures ∙ ap (low_digits 56) value in
    let sign = below_is (negative z) r.whole r.part (2 ^ r.power) tens (pow_pos r.power) (tens_few a.decimals tens c.ten_to-tens.ensures c.requires.1).0 in
    record {
      n = n a.value a.offset a.scale a.decimals;
      nearest = is_nearest (of_bits binary32 a.scale) a.decimals z;
      same = refl;
      below = rw f (sign ∙ ap (λ (k : ℕ). negative (signed (negative z) k)) (value ∙ size_signed (negative z) _));
      digits = digits_are;
      fits = small;
      before_point = c.places_of.ensures ∙ rw (number_back _ c.digits_of-digits.result digits_are small).0;
    }
