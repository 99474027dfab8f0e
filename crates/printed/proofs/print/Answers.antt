-- `printed::print` meets its contract: a NaN is refused, and any other scale is the value of its bits.
use mathlib.Core.Path.{sym, ◌∙◌}
use denote.Floats.{passes}
use lib.Ieee.{binary32}
use lib.Ieee.Bits.{of_bits-to_bits}
use mir.Facts.{to_z-of_z}
use Rattle.shown.proofs.Bits.{nan_refused}
use Rattle.printed.proofs.Outcome.{not_printable, bad_scale}
use Rattle.printed.proofs.print.Goals as goal

pub returns-then-is_nan : goal.returns-then-is_nan
returns-then-is_nan c =
    not_printable c.args.value c.args.offset c.args.scale c.args.decimals c.args.out.now c.from.result
    (bad_scale c.args.scale c.args.decimals (nan_refused c.args.scale (sym c.is_nan.ensures.value ∙ c.if-is_nan.true)))
    c.from.ensures

-- the callee is handed the offset and the scale as their bits
pub returns : goal.returns
returns c =
    rw c.from-2.ensures (rw (to_z-of_z c.ranges.offset, of_bits-to_bits binary32 c.args.scale (passes _ c.well_formed.1.1.0.1)) at c.print_bits.ensures)
