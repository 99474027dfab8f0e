-- `printed::text::Laid::put_part` meets its contract: the point, and the digits behind it; without decimals nothing.
use native.Mathlib.Nat.{div-one}
use native.Mathlib.Numerals.{add-one}
use Rattle.printed.specs.Steps.{number_in}
use Rattle.printed.proofs.Texts.{part_some, part_none}
use Rattle.printed.proofs.text.Laid.put_part.Goals as goal

pub returns-then-self-gt0 : goal.returns-then-self-gt0
returns-then-self-gt0 c =
    let a = c.args in
    rw (c.put_digits.ensures, c.put_byte.ensures, part_some a.self.now.decimals (number_in a.self.now.digits) c.if-self-gt0.true, add-one, div-one)

pub returns-else-self-gt0 : goal.returns-else-self-gt0
returns-else-self-gt0 c =
    let a = c.args in
    rw (part_none a.self.now.decimals (number_in a.self.now.digits) c.if-self-gt0.false)
