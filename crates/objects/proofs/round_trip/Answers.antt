-- `objects::round_trip` meets its contract: the theorems are proved in Trips.
use Rattle.objects.proofs.Trips.{round_trip}
use Rattle.objects.proofs.round_trip.Goals as goal

pub returns : goal.returns
returns c = round_trip
