-- `pool::fields::Listed::number` meets its contract: the numbers stand one after the other.
use mathlib.Core.Path.{sym, ◌∙◌}
use Rattle.pool.proofs.Lists.{number_in}
use Rattle.pool.proofs.fields.Listed.number.Goals as goal

pub returns : goal.returns
returns c =
    let a = c.args in
    c.u16_at.ensures ∙ sym (number_in 2 a.s.now a.self.at a.self.count a.k c.requires)
