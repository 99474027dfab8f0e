-- `shown::examples` meets its contract: the definitions are computed.
use mathlib.Core.Path.{refl}
use lib.Ieee.{round, of_bits}
use Rattle.shown.specs.Value.{product_of}
use Rattle.shown.proofs.examples.Goals as goal

pub returns : goal.returns
unfolding product_of round of_bits
returns c = record { value_240 = refl; value_220 = refl; below_zero = refl; rounded = refl; far = refl; style_00 = refl }
