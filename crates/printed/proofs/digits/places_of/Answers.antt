-- `printed::digits::places_of` meets its contract: what the highest digit that is not zero says of the number.
use mathlib.Core.Path.{◌≡◌, sym}
use Prim.Native.Nat.{◌+◌, ◌-◌}
use native.Mathlib.Omega.{arith}
use borrow.Author.Rules.{rules}
use Rattle.printed.specs.Steps.{number_in}
use Rattle.printed.proofs.Decimal.{digit_of, below_digits, highest_digit, one_place, places_from_top}
use Rattle.printed.proofs.digits.places_of.Goals as goal

pub returns-in-Some : goal.returns-in-Some
returns-in-Some c =
    let digits = c.args.digits.now in
    let top = c.in-Some.top in
    let below = below_digits digits (top + 1) c.requires.1 (search rules) (search rules) in
    let looked = digit_of 56 digits c.requires.1 top (search rules) in
    let least = highest_digit (number_in digits) top (λ e. absurd (search rules)) in
    let e : top + 1 - 1 ≡ top = omega arith in
    sym (places_from_top (number_in digits) c.args.decimals (top + 1) (omega (arith, c.if-decimals-top.true)) (rw e least) below)

pub returns-in_default : goal.returns-in_default
returns-in_default c =
    let digits = c.args.digits.now in
    let below = below_digits digits (c.in-Some.top + 1) c.requires.1 (search rules) (search rules) in
    sym (one_place (number_in digits) c.args.decimals (c.in-Some.top + 1) (omega (arith, c.if-decimals-top.false)) below)

pub returns-in_default-2 : goal.returns-in_default-2
returns-in_default-2 c =
    let digits = c.args.digits.now in
    let below = below_digits digits 0 c.requires.1 (search rules) (search rules) in
    sym (one_place (number_in digits) c.args.decimals 0 (omega arith) below)
