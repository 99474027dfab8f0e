-- What was stored before there were editions is, byte for byte, what is stored in edition 1: the edition less one is then zero, as the fill was.
use mathlib.Core.Path.{◌≡◌}
use Rattle.octets.specs.Octets.{bytes_of}
use Rattle.sequence.specs.Editions.{first_edition}
use Rattle.sequence.specs.declared.Sequence.{Sequence}
use Rattle.store.specs.Stored.{contents_of, sealed, stored_of}
use Rattle.store.specs.Promises.{stored_before}

pub before : (q : Sequence) → q.edition ≡ first_edition → stored_before q ≡ stored_of q
unfolding bytes_of sealed contents_of stored_of
before q e = rw e
