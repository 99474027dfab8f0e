-- `pool::stage_two::Index::look` meets its contract. The loop's invariant: of the states from here on none is absent and no two are alike, and the set
-- is theirs.
use Rattle.pool.specs.Fields.{numbers_at}
use Rattle.pool.proofs.Looks.{RightFrom}
use Rattle.pool.proofs.stage_two.Index.look.Given as goal

abbrev pub invariant-loop-k : goal.invariant-loop-k
invariant-loop-k l = RightFrom l.self.pool.now l.self.places.now (numbers_at 2 l.self.pool.now l.list.at l.list.count) l.k l.ids
