-- `message::clauses` meets its contract: each message is computed, both ways.
use mathlib.Core.Path.{refl}
use Rattle.octets.specs.Pick.{pick}
use Rattle.octets.specs.Octets as octets
use Rattle.octets.specs.Label.{label_at}
use Rattle.message.specs.Fields.{status_from, packed}
use Rattle.message.specs.Layout.{from_client, from_master, layout_of}
use Rattle.message.specs.Messages.{read_of, octet_of, written_as, left_as}
use Rattle.message.proofs.clauses.Goals as goal

pub returns : goal.returns
unfolding pick octets.number_at octets.bytes_of label_at status_from packed from_client from_master layout_of read_of octet_of written_as left_as
returns c =
    record {
      c2 = record { read = λ r. refl; done = refl; written = refl };
      c3 = record { read = λ r. refl; done = refl; written = refl };
      c4 = record { read = λ r. refl; done = refl; written = refl };
      c5 = record { read = λ r. refl; done = refl; written = refl };
      d2 = record { read = λ r. refl; done = refl; written = refl };
      d3 = record { read = λ r. refl; done = refl; written = refl };
      d3_long = record { read = λ r. refl; done = refl; written = refl };
      d3_error = record { read = λ r. refl; done = refl; written = refl };
      d4 = record { read = λ r. refl; done = refl; written = refl };
      d5 = record { read = λ r. refl; done = refl; written = refl };
      d5_long = record { read = λ r. refl; done = refl; written = refl };
      d5_error = record { read = λ r. refl; done = refl; written = refl };
      d6 = record { read = λ r. refl; done = refl; written = refl };
      d7 = record { read = λ r. refl; done = refl; written = refl };
      d8 = record { read = λ r. refl; done = refl; written = refl };
      d9 = record { read = λ r. refl; done = refl; written = refl };
      d10 = record { read = λ r. refl; done = refl; written = refl };
      d11 = record { read = λ r. refl; done = refl; written = refl };
      d12 = record { read = λ r. refl; done = refl; written = refl };
      d13 = record { read = λ r. refl; done = refl; written = refl };
      d14 = record { read = λ r. refl; done = refl; written = refl };
      d15 = record { read = λ r. refl; done = refl; written = refl };
      e2 = record { read = λ r. refl; done = refl; written = refl };
      e3 = record { read = λ r. refl; done = refl; written = refl };
      e4 = record { read = λ r. refl; done = refl; written = refl };
      e5 = record { read = λ r. refl; done = refl; written = refl };
      e6 = record { read = λ r. refl; done = refl; written = refl };
      e7 = record { read = λ r. refl; done = refl; written = refl };
      e8 = record { read = λ r. refl; done = refl; written = refl };
      d3_bits = refl;
      e6_bits = refl;
    }
