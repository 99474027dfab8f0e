-- `octets::number_of` meets its contract: the bytes are filled up to eight with 0.
use mathlib.Core.Path.{◌∙◌}
use Prim.Native.Nat.{ℕ}
use lib.ListN.{length}
use Rattle.std.proofs.lemmas.List.{drop-replicate}
use Rattle.octets.proofs.Laws.{number_of_list}
use Rattle.octets.proofs.number_of.Goals as goal

pub returns : goal.returns
returns c = let b = c.args.bytes.now in c.from_le_bytes.ensures ∙ rw (c.copy_from_slice.ensures.after, drop-replicate {X = ℕ} (length b) 8 0) (number_of_list b _)
