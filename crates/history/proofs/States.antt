-- States in which no recording is on, and a master that is as it was but for a slot.
use Prim.Native.Nat.{ℕ}
use mathlib.Core.Path.{◌≡◌, refl, sym, ◌∙◌}
use mathlib.Core.Bool.{true, false, ◌||◌, true≢false}
use lib.Dec.{eqb}
use borrow.Author.Tests.{ne_eqb}
use Rattle.master.specs.declared.Master.{Master}
use Rattle.master.specs.States as state
use Rattle.master.specs.States.{is_recording}
use Rattle.events.proofs.Changes.{Near, itself, slotted, Rests}

pub is_not : (s : ℕ) → Rests s → (eqb s state.recording || eqb s state.record_complete) ≡ false
is_not s r = rw (ne_eqb s 2 r.0, ne_eqb s 3 r.1)

pub not_ready : (m : Master) → is_recording m ≡ true → m.state ≡ state.ready → ⊥
not_ready m i z = true≢false (sym i ∙ rw z)

pub record Alike (m k : Master) : Type 0 where
  pub recording : k.recording ≡ m.recording
  pub state : k.state ≡ m.state
  pub sequence : k.sequence ≡ m.sequence

pub alike : (m k : Master) → Near m k → Alike m k
alike m k itself = record { recording = refl; state = refl; sequence = refl }
alike m k (slotted i s) = record { recording = refl; state = refl; sequence = refl }
