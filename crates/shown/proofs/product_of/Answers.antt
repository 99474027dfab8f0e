-- `shown::product_of` meets its contract.
use borrow.Author.Rules.{rules}
use mathlib.Core.Path.{◌≡◌, refl, sym, ◌∙◌}
use Prim.Native.Nat.{ℕ, ◌*◌}
use mathlib.Core.Bool.{true, not}
use denote.Floats.{passes}
use lib.IntN.{ℤ, nat_abs}
use lib.Dec.{T}
use lib.Ieee.{binary32, of_bits, is_nan}
use lib.Ieee.Bits.{nan_bits_is}
use lib.Ieee.Positive.{positive}
use mir.Syntax.{w32}
use mir.Val.{SFits, to_z, of_z}
use mir.Facts.{to_z-of_z}
use Rattle.shown.specs.Value.{sum_of}
use Rattle.shown.specs.Whole.{digits_of, fraction_of}
use Rattle.shown.specs.declared.Fraction.{Fraction}
use Rattle.shown.proofs.Bits.{number, size_few}
use Rattle.shown.proofs.Sum.{bounded, is_sum, sum_in_float}
use Rattle.shown.proofs.Product.{mul_is}
use Rattle.shown.proofs.Answers.{shows, refuses}
use Rattle.shown.proofs.product_of.Goals as goal

pub int_to_float-product : goal.int_to_float-product
int_to_float-product c = sum_in_float c.ranges.value c.ranges.offset c.sum_of.ensures

-- where the product is made, the scale is finite and above zero, and so it is no NaN
none : (bits : ℕ) → positive (of_bits binary32 bits) ≡ true → T (not (is_nan (of_bits binary32 bits)))
none bits e = number positive (of_bits binary32 bits) refl e

pub float_from_bits-product : goal.float_from_bits-product
float_from_bits-product c = rw (nan_bits_is binary32) (none c.args.scale (sym c.finite_above_zero.ensures ∙ c.if-not-finite_above_zero.false))

pub float_to_float-product : goal.float_to_float-product
float_to_float-product c = search (rules, none c.args.scale (sym c.finite_above_zero.ensures ∙ c.if-not-finite_above_zero.false))

-- from the size `held` says whether the product is exact; the offset was handed on by its bits
size_is : (v : ℕ) (o : ℤ) (bits : ℕ) (r : Fraction) → SFits w32 o → r ≡ fraction_of v (to_z w32 (of_z w32 o)) bits → r.size ≡ nat_abs (sum_of v o) * digits_of bits
unfolding fraction_of
size_is v o bits r fo e = rw (e, to_z-of_z fo)

pub held-requires : goal.held-requires
held-requires c =
    let a = c.args in
    rw (size_is a.value a.offset a.scale c.fraction_of.result c.ranges.offset c.fraction_of.ensures)
    (size_few a.value a.offset a.scale c.ranges.value.fits c.ranges.offset.sfits)

pub returns : goal.returns
returns c =
    let a = c.args in
    let r = c.ranges in
    let taken = sym c.finite_above_zero.ensures ∙ c.if-not-finite_above_zero.false in
    let few = size_few a.value a.offset a.scale r.value.fits r.offset.sfits in
    let p = shows a.value a.offset a.scale taken few in
    rw (
      c.held.ensures,
      size_is a.value a.offset a.scale c.fraction_of.result r.offset c.fraction_of.ensures,
      is_sum r.value r.offset c.sum_of.ensures,
      mul_is (sum_of a.value a.offset) (of_bits binary32 a.scale) (bounded r.value r.offset) (passes _ taken),
    )
    (record { value = p.0; exact = p.1 })

pub returns-then-not-finite_above_zero : goal.returns-then-not-finite_above_zero
returns-then-not-finite_above_zero c =
    let a = c.args in
    let p = refuses a.value a.offset (of_bits binary32 a.scale) (sym c.finite_above_zero.ensures ∙ c.if-not-finite_above_zero.true) in
    record { value = p.0; exact = p.1 }
