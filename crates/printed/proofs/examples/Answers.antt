-- `printed::examples` meets its contract: the definitions are computed.
use borrow.Author.Rules.{rules}
use lib.Ieee.{of_bits}
use Rattle.printed.specs.Text.{text_of, last_digits, places}
use Rattle.printed.proofs.examples.Goals as goal

pub returns : goal.returns
unfolding of_bits text_of last_digits places
returns c = search rules
