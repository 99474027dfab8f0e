-- `events::promises` meets its contract, by the theorems.
use Rattle.events.proofs.Theorems.{refused_same, in_table, ordered, inactive}
use Rattle.events.proofs.Accepts.{never_refused}
use Rattle.events.proofs.Starts.{start_exactly}
use Rattle.events.proofs.Named.{named}
use Rattle.events.proofs.Neighbour.{neighbours}
use Rattle.events.proofs.Editions.{two_rules}
use Rattle.events.proofs.Regular.{never_cut, never_bites}
use Rattle.events.proofs.promises.Goals as goal

pub returns : goal.returns
returns c =
    record {
      refused_same = refused_same;
      in_table = in_table;
      ordered = ordered;
      never_refused = never_refused;
      inactive = inactive;
      start_exactly = start_exactly;
      named = named;
      neighbours = neighbours;
      two_rules = two_rules;
      never_cut = never_cut;
      never_bites = never_bites;
    }
