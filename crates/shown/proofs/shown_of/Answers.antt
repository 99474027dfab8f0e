-- `shown::shown_of` meets its contract.
use mathlib.Core.Path.{◌≡◌, refl, sym, ◌∙◌}
use mathlib.Core.Bool.{true, false, true≢false}
use denote.Floats.{passes}
use lib.Ieee.{Float, nan, inf, fin, binary32, is_nan}
use lib.Ieee.Bits.{of_bits-to_bits}
use lib.Ieee.Positive.{positive}
use mir.Facts.{to_z-of_z}
use Rattle.shown.proofs.Bits.{nan_refused}
use Rattle.shown.proofs.Answers.{refuses}
use Rattle.shown.proofs.shown_of.Goals as goal

pub returns-then-is_nan : goal.returns-then-is_nan
returns-then-is_nan c =
    let a = c.args in
    let p = refuses a.value a.offset a.scale (nan_refused a.scale (sym c.is_nan.ensures.value ∙ c.if-is_nan.true)) in
    rw c.from.ensures (record { value = p.0; exact = p.1 })

-- the callee is handed the offset and the scale as their bits
pub returns : goal.returns
returns c =
    rw (to_z-of_z c.ranges.offset, of_bits-to_bits binary32 c.args.scale (passes _ c.well_formed.1.1.0.1)) at c.shown_bits.ensures
