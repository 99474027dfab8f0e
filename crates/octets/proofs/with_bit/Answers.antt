-- `octets::with_bit` meets its contract: a 1 shifted by less than 64 places loses nothing.
use native.Mathlib.Omega.{arith}
use lib.Dec.{lit<}
use lib.Pow.{shl_exact}
use Rattle.octets.specs.Bits.{with_bit}
use native.Mathlib.Nat.{one-mul}
use Rattle.octets.proofs.with_bit.Goals as goal

pub returns : goal.returns
unfolding with_bit
returns c = rw (shl_exact {a = 1} 1 c.args.k 64 (lit< tt) (omega arith), one-mul)
