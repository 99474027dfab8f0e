-- `printed::digits::scaled` meets its contract. A digit times the factor, with what is carried, fits, and a tenth of it is as small as what is carried has to be.
use mathlib.Core.Path.{◌≡◌, refl, sym, ◌∙◌}
use native.Mathlib.Omega.{arith}
use lib.ListN.{length, get_or, length-set}
use mir.Syntax.{w8}
use mir.Val.{Fits}
use borrow.Author.Rules.{rules}
use Rattle.printed.proofs.Decimal.{scaled_step, scaled_end, carry_below}
use Rattle.printed.proofs.digits.scaled.Goals as goal

pub loop-k-init : goal.loop-k-init
loop-k-init c = (omega arith, c.requires.1, refl, refl)

pub overflow_mul-sum : goal.overflow_mul-sum
overflow_mul-sum c =
    let byte : Fits w8 (get_or c.args.digits.now c.loop-k.k 0) = search rules in
    omega (arith, carry_below _ _ _ byte.fits c.requires.0 c.loop-k.invariant.1)

pub overflow_add-sum : goal.overflow_add-sum
overflow_add-sum c =
    let byte : Fits w8 (get_or c.args.digits.now c.loop-k.k 0) = search rules in
    omega (arith, carry_below _ _ _ byte.fits c.requires.0 c.loop-k.invariant.1)

pub loop-k-preserved : goal.loop-k-preserved
loop-k-preserved c =
    let a = c.args in
    let l = c.loop-k in
    let byte : Fits w8 (get_or a.digits.now l.k 0) = search rules in
    let many : length a.digits.now ≡ 56 = search rules in
    let next = scaled_step 56 l.k a.digits.now l.r a.times l.carry c.loop-k-test.true (omega arith) (omega arith) in
    (omega arith, (carry_below _ _ _ byte.fits c.requires.0 l.invariant.1).1, length-set l.r l.k _ ∙ l.invariant.2, l.invariant.3 ∙ next)

pub returns : goal.returns
returns c =
    let l = c.loop-k in
    let a = c.args in
    sym (l.invariant.3 ∙ scaled_end 56 l.k a.digits.now l.r a.times l.carry c.loop-k-test.false (omega arith))
