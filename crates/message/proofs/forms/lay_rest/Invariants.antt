-- `message::forms::lay_rest` meets its contract: the body is copied, and what is left after it laid byte by byte. The loop's invariant: the bytes before
-- i are laid.
use mathlib.Core.Path.{◌≡◌}
use mathlib.Core.List.{◌++◌}
use lib.ListN.{drop}
use Rattle.octets.specs.Label.{row_of}
use Rattle.message.specs.Messages.{octet_of}
use Rattle.message.proofs.forms.lay_rest.Given as goal

abbrev pub invariant-loop-i : goal.invariant-loop-i
invariant-loop-i l = l.out ≡ row_of l.i (octet_of l.form l.label l.pool) ++ drop l.i l.fn.out
