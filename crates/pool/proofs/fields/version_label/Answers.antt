-- `pool::fields::version_label` meets its contract: N is the base's.
use mathlib.Core.Path.{◌∙◌}
use Rattle.pool.proofs.fields.version_label.Goals as goal

pub returns : goal.returns
returns c = c.label_at.ensures ∙ rw c.base_at-base.ensures
