-- `printed::digits::doubled` meets its contract: what is doubled 26 times is doubled the other times.
use mathlib.Core.Path.{◌≡◌}
use Prim.Native.Nat.{◌+◌, ◌-◌, ◌^◌, ◌≤◌}
use native.Mathlib.Nat.{add-zero}
use native.Mathlib.Omega.{arith}
use lib.Pow.{pow_mono}
use Rattle.printed.specs.Steps.{number_in}
use Rattle.printed.proofs.Decimal.{low_doubled}
use Rattle.printed.proofs.digits.+doubled.Goals as goal

pub scaled-requires : goal.scaled-requires
scaled-requires t c =
    let l : 2 ^ c.args.power ≤ 2 ^ 26 = pow_mono c.if-power-le26.true in
    (rw c.two_to.ensures l, omega arith)

pub returns-then-power-le26 : goal.returns-then-power-le26
returns-then-power-le26 t c = rw (c.scaled.ensures, c.two_to.ensures, add-zero)

pub returns : goal.returns
returns t c =
    let a = c.args in
    let e : a.power ≡ 26 + (a.power - 26) = omega arith in
    let twice = low_doubled 56 (number_in a.digits.now) 26 (a.power - 26) in
    rw (c.doubled.ensures, c.scaled-more.ensures) (rw (← e) at twice)
