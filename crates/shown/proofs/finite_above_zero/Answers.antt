-- `shown::finite_above_zero` meets its contract.
use mathlib.Core.Path.{sym}
use Rattle.shown.proofs.Bits.{positive_bits}
use Rattle.shown.proofs.finite_above_zero.Goals as goal

pub returns : goal.returns
returns c = sym (positive_bits c.args.scale)
