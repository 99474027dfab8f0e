-- `printed::digits::doubled` meets its contract. The measure is the power.
use Rattle.printed.proofs.digits.+doubled.Given as goal

abbrev pub decreases-doubled : goal.decreases-doubled
decreases-doubled l = l.power
