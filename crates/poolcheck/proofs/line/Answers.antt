-- `poolcheck::line` meets its contract: each digit is what `digit` ensures.
use Rattle.poolcheck.specs.Line.{line_of}
use Rattle.poolcheck.proofs.line.Goals as goal

pub returns : goal.returns
unfolding line_of
returns c = cc
