-- All that is promised of the events together, so that none can be left out.
use Rattle.events.specs.Demand1.{RefusedSame, InTable, NeverRefused, Inactive, StartExactly, NeverCut, NeverBites}
use Rattle.events.specs.Order.{Ordered}
use Rattle.events.specs.Neighbour.{Neighbours}
use Rattle.events.specs.Editions.{TwoRules}
use Rattle.events.specs.Named.{NamedCheck}

pub record Promises : Type 0 where
  pub refused_same : RefusedSame
  pub in_table : InTable
  pub ordered : Ordered
  pub never_refused : NeverRefused
  pub inactive : Inactive
  pub start_exactly : StartExactly
  pub named : NamedCheck
  pub neighbours : Neighbours
  pub two_rules : TwoRules
  pub never_cut : NeverCut
  pub never_bites : NeverBites
