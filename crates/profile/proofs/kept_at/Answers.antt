-- `profile::kept_at` meets its contract: its result is what the definition makes of what the callees return.
use Rattle.profile.specs.Profile.{kept_at}
use Rattle.profile.proofs.kept_at.Goals as goal

pub tables_of-tables-requires : goal.tables_of-tables-requires
tables_of-tables-requires c = rw c.functions_of.ensures c.requires.1

pub returns : goal.returns
unfolding kept_at
returns c =
    rw (
      c.tables_of-tables.ensures.trigger_value,
      c.tables_of-tables.ensures.states_value,
      c.functions_of.ensures,
      c.version_label-version.ensures,
      c.configuration_label-configuration.ensures,
      c.base_at-base.ensures,
    )
