-- The sequence that accepted blocks say is legal, and sound, by what crate store proves of them.
use Prim.Native.Nat.{ℕ}
use mathlib.Core.Path.{◌≡◌}
use mathlib.Core.List.{List}
use Rattle.sequence.specs.Sound.{SoundSequence}
use Rattle.store.specs.Legal.{Legal}
use Rattle.store.specs.Loaded.{load_number, loaded_of}
use Rattle.store.proofs.Accepted.{accepted}

module _ (blocks : List ℕ) (z : load_number blocks ≡ 0) where
  pub legal_loaded : Legal (loaded_of blocks).sequence
  unfolding loaded_of
  legal_loaded = (accepted blocks z).legal

  pub sound_loaded : SoundSequence (loaded_of blocks).sequence
  sound_loaded = legal_loaded.sound
