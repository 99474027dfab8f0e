-- `message::forms::capability` meets its contract: the library's two bytes are the definition's.
use mathlib.Core.Path.{◌∙◌}
use Rattle.octets.proofs.Laws.{bytes_of_two}
use Rattle.message.proofs.forms.capability.Goals as goal

pub returns : goal.returns
returns c = rw (bytes_of_two c.args.c.characters) (c.sized.ensures ∙ rw c.to_le_bytes.ensures)
