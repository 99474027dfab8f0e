-- `printed::print_bits` meets its contract: by its tests, in their order.
use mathlib.Core.Path.{◌≡◌, refl, sym, ◌∙◌}
use mathlib.Core.Bool.{true, false}
use borrow.Author.Tests.{le-leb, lt-leb}
use lib.Ieee.{Float, binary32, of_bits}
use lib.Ieee.Positive.{positive}
use mir.Facts.{to_z-of_z}
use Prim.Native.Nat.{ℕ, ◌≤◌, ◌<◌}
use Rattle.printed.specs.LaidOut.{LaidOut}
use Rattle.printed.specs.Printing.{printable}
use Rattle.printed.proofs.Outcome.{not_printable, bad_scale, too_short_lem, written}
use Rattle.printed.proofs.print_bits.Goals as goal

-- ---- 4 first
bad_decimals : (x : Float) (decimals : ℕ) → positive x ≡ true → 7 < decimals → printable x decimals ≡ false
bad_decimals x decimals e h = rw (e, lt-leb decimals 7 h)

pub returns-then-not-finite_above_zero : goal.returns-then-not-finite_above_zero
returns-then-not-finite_above_zero c =
    let a = c.args in
    let x = of_bits binary32 a.scale in
    not_printable a.value a.offset x a.decimals a.out.now _ (bad_scale x a.decimals (sym c.finite_above_zero.ensures ∙ c.if-not-finite_above_zero.true)) refl

pub returns-then-decimals-gt7 : goal.returns-then-decimals-gt7
returns-then-decimals-gt7 c =
    let a = c.args in
    let x = of_bits binary32 a.scale in
    not_printable a.value a.offset x a.decimals a.out.now _
    (bad_decimals x a.decimals (sym c.finite_above_zero.ensures ∙ c.if-not-finite_above_zero.false) c.if-decimals-gt7.true)
    refl

-- ---- then 1
good : (x : Float) (decimals : ℕ) → positive x ≡ true → decimals ≤ 7 → printable x decimals ≡ true
good x decimals e h = rw (e, le-leb decimals 7 h)

pub returns-then-out-length : goal.returns-then-out-length
returns-then-out-length c =
    let a = c.args in
    let laid : LaidOut a.value a.offset (of_bits binary32 a.scale) a.decimals c.laid_out-laid.result = rw (to_z-of_z c.ranges.offset) at c.laid_out-laid.ensures in
    let d = c.if-decimals-gt7.false in
    let g = good (of_bits binary32 a.scale) a.decimals (sym c.finite_above_zero.ensures ∙ c.if-not-finite_above_zero.false) d in
    let n = c.length-length in
    too_short_lem laid d g a.out.now n.result n.ensures _ c.if-out-length.true refl

pub returns : goal.returns
returns c =
    let a = c.args in
    let laid : LaidOut a.value a.offset (of_bits binary32 a.scale) a.decimals c.laid_out-laid.result = rw (to_z-of_z c.ranges.offset) at c.laid_out-laid.ensures in
    let d = c.if-decimals-gt7.false in
    let g = good (of_bits binary32 a.scale) a.decimals (sym c.finite_above_zero.ensures ∙ c.if-not-finite_above_zero.false) d in
    let n = c.length-length in
    written laid d g a.out.now n.result n.ensures _ c.if-out-length.false c.put.ensures
