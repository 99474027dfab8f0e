-- `printed::text::part_length` meets its contract: with decimals above 0 the point is one more.
use native.Mathlib.Omega.{arith}
use Rattle.printed.proofs.Texts.{length_digits, part_some}
use Rattle.printed.proofs.text.part_length.Goals as goal

pub returns-else-decimals-eq0 : goal.returns-else-decimals-eq0
returns-else-decimals-eq0 c =
    let decimals = c.args.decimals in
    rw (part_some decimals 0 (omega arith)) (omega (arith, length_digits decimals 0))
