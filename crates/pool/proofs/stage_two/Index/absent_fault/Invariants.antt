-- `pool::stage_two::Index::absent_fault` meets its contract. The loop's invariant: the first absent number of the list is the first from here.
use mathlib.Core.Path.{◌≡◌}
use lib.ListN.{drop}
use Rattle.pool.specs.Types.{type_number}
use Rattle.pool.specs.Faults.{code_number}
use Rattle.pool.specs.Verdicts.{first_fault}
use Rattle.pool.specs.Fields.{numbers_at}
use Rattle.pool.specs.StageTwo.{absent_fault}
use Rattle.pool.proofs.stage_two.Index.absent_fault.Given as goal

abbrev pub invariant-loop-k : goal.invariant-loop-k
invariant-loop-k l =
    first_fault (absent_fault l.self.pool.now l.self.places.now (code_number l.code) (type_number l.kind)) (numbers_at 2 l.self.pool.now l.list.at l.list.count)
    ≡ first_fault (absent_fault l.self.pool.now l.self.places.now (code_number l.code) (type_number l.kind)) (drop l.k (numbers_at 2 l.self.pool.now l.list.at l.list.count))
