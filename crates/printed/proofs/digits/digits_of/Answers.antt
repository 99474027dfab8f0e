-- `printed::digits::digits_of` meets its contract: what goes beyond 56 digits on the way does not count.
use Prim.Native.Nat.{◌^◌}
use Rattle.printed.proofs.Decimal.{low_product}
use Rattle.printed.proofs.digits.digits_of.Goals as goal

pub returns : goal.returns
returns c =
    let a = c.args in
    let x = a.number in
    rw (c.scaled.ensures, c.doubled-doubles.ensures, c.scaled-whole.ensures) (low_product 56 _ x.whole (2 ^ x.power) a.tens x.part)
