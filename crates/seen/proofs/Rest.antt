-- A master that calls give holds nothing of a recording or a playback that is not on, as crate events proves it.
use Rattle.events.proofs.Rest.{given_blank}
use Rattle.seen.specs.Blank.{BlankOutside}

pub blank_outside : BlankOutside
blank_outside m g = let b = given_blank m g in record { recording = b.recording; playback = b.playback }
