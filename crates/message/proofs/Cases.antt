-- The cases, closed by computation.
use mathlib.Core.Path.{refl}
use Rattle.octets.specs.Pick.{pick}
use Rattle.octets.specs.Octets as octets
use Rattle.octets.specs.Label.{label_at}
use Rattle.message.specs.Fields.{status_from, packed}
use Rattle.message.specs.Layout.{from_client, from_master, layout_of}
use Rattle.message.specs.Messages.{read_of, octet_of, written_as, left_as}
use Rattle.message.specs.Promises.{MessageCases}

pub cases : MessageCases
unfolding pick octets.number_at octets.bytes_of label_at status_from packed from_client from_master layout_of read_of octet_of written_as left_as
cases =
    record {
      command = record { read = λ r. refl; done = refl; written = refl };
      start = record { read = λ r. refl; done = refl; written = refl };
      finish = record { read = λ r. refl; done = refl; written = refl };
      answer = record { read = λ r. refl; done = refl; written = refl };
      acknowledged = record { read = λ r. refl; done = refl; written = refl };
    }
