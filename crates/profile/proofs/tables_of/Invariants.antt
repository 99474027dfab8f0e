-- `profile::tables_of` meets its contract. The loop's invariant: the tables hold what the functions from here on say.
use mathlib.Core.Path.{◌≡◌}
use lib.ListN.{length, drop}
use Rattle.pool.specs.Fields.{numbers_at}
use Rattle.octets.specs.Bits.{bits_of}
use Rattle.profile.specs.Profile.{trigger_in, states_in}
use Rattle.profile.proofs.Laws.{Table}
use Rattle.profile.proofs.tables_of.Given as goal

abbrev pub invariant-loop-k : goal.invariant-loop-k
invariant-loop-k l =
    record {
      triggers : Table (trigger_in l.index.pool.now l.index.places.now (drop l.k (numbers_at 2 l.index.pool.now l.list.at l.list.count))) l.trigger;
      sets : Table (λ id. bits_of (states_in l.index.pool.now l.index.places.now (drop l.k (numbers_at 2 l.index.pool.now l.list.at l.list.count)) id)) l.states;
      long : length l.trigger ≡ 256;
      wide : length l.states ≡ 256;
    }
