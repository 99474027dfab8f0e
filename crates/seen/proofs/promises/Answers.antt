-- `seen::promises` meets its contract: each part is what its function ensures.
use Rattle.seen.proofs.Starred.{starred}
use Rattle.seen.proofs.promises.Goals as goal

pub returns : goal.returns
returns c =
    record {
      numbers = c.numbers.ensures;
      written = c.written.ensures;
      ways = c.ways.ensures;
      blank_outside = c.blank_outside.ensures;
      tan = c.tan.ensures;
      all_enabled = c.all_enabled.ensures;
      starred = starred;
    }
