-- The layout, by computation.
use mathlib.Core.Path.{refl}
use Rattle.octets.specs.{Octets.number_at, Octets.bytes_of}
use Rattle.client.specs.Records.{blank_record}
use Rattle.sequence.specs.Sequence.{steps_of}
use Rattle.store.specs.Blocks.{sum_at, check_at}
use Rattle.store.specs.Stored.{client_bytes, step_bytes, slots_in, contents_of, sealed}
use Rattle.store.specs.Example.{Layout}

pub layout : Layout
unfolding number_at bytes_of blank_record steps_of sum_at check_at client_bytes step_bytes slots_in contents_of sealed
layout = record { contents = refl; block = refl }
