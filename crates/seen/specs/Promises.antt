-- All that is seen of the master together, so that none can be left out.
use Rattle.seen.specs.{Written.Written, Numbers.Numbers, Ways.Ways, Tan.Tan, Blank.BlankOutside, AllEnabled.AllEnabled, Starred.Starred}

pub record Promises : Type 0 where
  pub numbers : Numbers
  pub written : Written
  pub ways : Ways
  pub blank_outside : BlankOutside
  pub tan : Tan
  pub all_enabled : AllEnabled
  pub starred : Starred
