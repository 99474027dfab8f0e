-- `message::forms::valued` meets its contract: the library's four bytes are the definition's.
use mathlib.Core.Path.{◌∙◌}
use Rattle.octets.proofs.Laws.{bytes_of_four}
use Rattle.message.proofs.forms.valued.Goals as goal

pub returns : goal.returns
returns c = rw (bytes_of_four c.args.value) (c.of_eight.ensures ∙ rw c.to_le_bytes.ensures)
