-- `pool::stage_two::Index::states_fault` meets its contract. The loop's invariant: the answers and the sets are those of the functions from here on.
use mathlib.Core.Path.{◌≡◌}
use lib.ListN.{length, drop}
use Rattle.pool.specs.Faults.{said}
use Rattle.pool.specs.Verdicts.{first_fault}
use Rattle.pool.specs.Fields.{numbers_at}
use Rattle.pool.specs.StageTwo.{states_absent, states_alike}
use Rattle.pool.specs.Search.Look.{Sets}
use Rattle.pool.proofs.stage_two.Index.states_fault.Given as goal

abbrev pub invariant-loop-k : goal.invariant-loop-k
invariant-loop-k l =
    record {
      absent : said l.absent ≡ first_fault (states_absent l.self.pool.now l.self.places.now 0x04) (drop l.k (numbers_at 2 l.self.pool.now l.list.at l.list.count));
      alike : said l.alike ≡ first_fault (states_alike l.self.pool.now l.self.places.now 0x07) (drop l.k (numbers_at 2 l.self.pool.now l.list.at l.list.count));
      sets : Sets l.self.pool.now l.self.places.now (numbers_at 2 l.self.pool.now l.list.at l.list.count) l.sets l.k;
      long : length l.sets ≡ 255;
    }
