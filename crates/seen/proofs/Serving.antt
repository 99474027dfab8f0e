-- In playback every step is one of an enabled client, as crate events proves for the answers that are never refused.
use Rattle.events.proofs.Playable.{playable}
use Rattle.seen.specs.AllEnabled.{AllEnabled}
use Rattle.seen.proofs.Tests.{to_enabled}

pub all_enabled : AllEnabled
all_enabled m g p i l = let k = playable m g p i l in record { slot = k.client.0; client = to_enabled _ k.client.1; state = k.state }
