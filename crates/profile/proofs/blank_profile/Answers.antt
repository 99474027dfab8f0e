-- `profile::blank_profile` meets its contract: both labels are blank.
use Rattle.profile.specs.Profile.{blank_profile}
use Rattle.profile.proofs.blank_profile.Goals as goal

pub returns : goal.returns
unfolding blank_profile
returns c = rw (c.blank-version.ensures, c.blank-configuration.ensures)
