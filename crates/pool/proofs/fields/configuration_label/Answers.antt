-- `pool::fields::configuration_label` meets its contract: N and M are the base's.
use mathlib.Core.Path.{◌∙◌}
use Rattle.pool.proofs.fields.configuration_label.Goals as goal

pub returns : goal.returns
returns c = c.label_at.ensures ∙ rw c.base_at-base.ensures
