-- `playback::promises` meets its contract, by the theorems.
use Rattle.playback.proofs.Verifies.{verifies}
use Rattle.playback.proofs.Agrees.{agrees}
use Rattle.playback.proofs.Changes.{changes}
use Rattle.playback.proofs.Framing.{framing}
use Rattle.playback.proofs.Cases.{cases}
use Rattle.playback.proofs.promises.Goals as goal

pub returns : goal.returns
returns c = record { verifies = verifies; agrees = agrees; changes = changes; framing = framing; cases = cases }
