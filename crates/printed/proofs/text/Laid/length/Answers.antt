-- `printed::text::Laid::length` meets its contract: the sign is at most one byte and the part at most eight, so the sum fits.
use native.Mathlib.Omega.{arith}
use Rattle.printed.proofs.Texts.{sign_most, part_most}
use Rattle.printed.proofs.text.Laid.length.Goals as goal

pub overflow_add-result : goal.overflow_add-result
overflow_add-result c = omega (arith, sign_most c.args.self.now.below)

pub overflow_add-result-2 : goal.overflow_add-result-2
overflow_add-result-2 c =
    let a = c.args in
    omega (arith, sign_most a.self.now.below, part_most a.self.now.decimals 0)
