-- `shown::fraction_of` meets its contract.
use native.Mathlib.Nat.{lt_trans}
use lib.Dec.{lit<}
use mir.Facts.{to_z-of_z}
use Rattle.shown.specs.Whole.{fraction_of}
use Rattle.shown.proofs.Bits.{size_few}
use Rattle.shown.proofs.fraction_of.Goals as goal

pub overflow_mul-result : goal.overflow_mul-result
overflow_mul-result c =
    rw (c.sum_size.ensures, c.digits_of.ensures, to_z-of_z c.ranges.offset)
    (record { fits = lt_trans (size_few c.args.value c.args.offset c.args.scale c.ranges.value.fits c.ranges.offset.sfits) (lit< tt) })

pub returns : goal.returns
unfolding fraction_of
returns c =
    rw (c.sum_below.ensures, c.sum_size.ensures, c.digits_of.ensures, c.power_of.ensures, to_z-of_z c.ranges.offset)
