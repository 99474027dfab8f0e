-- `recording::drop_records` meets its contract: the records before this slot are done, the others still to do.
use mathlib.Core.Path.{◌≡◌}
use lib.ListN.{length}
use Rattle.recording.specs.Kept.{records_from}
use Rattle.recording.proofs.Records.{halfway}
use Rattle.recording.proofs.drop_records.Given as goal

abbrev pub invariant-loop-slot : goal.invariant-loop-slot
invariant-loop-slot l = record { long : length l.records ≡ 8; halfway : records_from l.steps 0 l.initial.records ≡ halfway l.steps l.slot l.records }
