-- A master that calls give holds nothing of a recording or a playback that is not on: every change keeps it so.
use Prim.Native.Nat.{ℕ}
use mathlib.Core.Path.{◌≡◌, refl}
use mathlib.Core.Bool.{true}
use mathlib.Core.Logic.{◌⊎◌, inl, inr}
use lib.Dec.{eqb}
use borrow.Author.Tests.{eqb-true, eqb-false}
use Rattle.recording.specs.State.{blank_recording}
use Rattle.recording.specs.declared.Recording.{Recording}
use Rattle.playback.specs.State.{blank_playback}
use Rattle.playback.specs.declared.Playback.{Playback}
use Rattle.master.specs.declared.Master.{Master}
use Rattle.master.specs.States as state
use Rattle.master.specs.States.{is_recording, is_playing, new_master, with_state, with_recording, with_playback, ended}
use Rattle.master.specs.Recording.{recording_ended}
use Rattle.events.specs.Events.{Event, Given}
use Rattle.events.proofs.Changes.{Near, itself, slotted, Rests, Change, rested, moved, dropped, broken, record_starts, record_waits, record_ends, record_hears, record_hears_last, record_ticks, play_starts, play_ticks, play_ticks_last, play_hears, play_hears_last, replaced, one_of, not_playing}
use Rattle.events.proofs.Invariant.{given_by, done_change}

pub record Blank (m : Master) : Type 0 where
  pub recording : (m.state ≡ state.recording → ⊥) → (m.state ≡ state.record_complete → ⊥) → m.recording ≡ blank_recording
  pub playback : (m.state ≡ state.playback → ⊥) → m.playback ≡ blank_playback

near : (m n : Master) → Near m n → Blank m → Blank n
near m n itself h = h
near m n (slotted i s) h = record { recording = h.recording; playback = h.playback }

moves : (m k : Master) (s : ℕ) → Near m k → Rests m.state → Blank m → Blank (with_state k s)
moves m k s itself (two, three, four) h = record { recording = λ _ _. h.recording two three; playback = λ _. h.playback four }
moves m k s (slotted i c) (two, three, four) h = record { recording = λ _ _. h.recording two three; playback = λ _. h.playback four }

over : (m : Master) (s : ℕ) → Blank (ended m s)
unfolding ended
over m s = record { recording = λ _ _. refl; playback = λ _. refl }

module _ (m : Master) (h : Blank m) where
  -- a recording that is on stays on
  recording_on : is_recording m ≡ true → (r : Recording) → Blank (with_recording m r)
  recording_on i r = record { recording = λ two three. absurd (go two three (one_of _ _ i)); playback = h.playback }
    where
      go : (m.state ≡ 2 → ⊥) → (m.state ≡ 3 → ⊥) → (eqb m.state 2 ≡ true) ⊎ (eqb m.state 3 ≡ true) → ⊥
      go two three (inl t) = two (eqb-true _ _ t)
      go two three (inr t) = three (eqb-true _ _ t)

  waits : is_recording m ≡ true → Blank (with_state m 3)
  waits i = record { recording = λ _ three. absurd (three refl); playback = λ _. h.playback (eqb-false _ _ (not_playing m i)) }

  playback_on : is_playing m ≡ true → (tan : ℕ) (p : Playback) → Blank (with_playback m tan p)
  playback_on i tan p = record { recording = h.recording; playback = λ four. absurd (four (eqb-true _ _ i)) }

changed : (m : Master) (e : Event) (n : Master) → Change m e n → Blank m → Blank n
unfolding recording_ended
changed m e n (rested x y) h = near m n x h
changed m e n (moved x s r b) h = moves m _ s x r h
changed m e n (dropped x i y) h = over _ 1
changed m e n (broken x p c) h = over _ 5
changed m e n (record_starts (two, three, four)) h = record { recording = λ _ _. refl; playback = λ _. h.playback four }
changed m e n (record_waits i) h = waits m h i
changed m e n (record_ends i) h = over _ 1
changed m e n (record_hears slot msg out i l) h = recording_on m h i _
changed m e n (record_hears_last slot msg out i l) h = over _ 1
changed m e n (record_ticks mm out i l t) h = recording_on m h i _
changed m e n (play_starts (two, three, four)) h = record { recording = λ _ _. h.recording two three; playback = λ _. refl }
changed m e n (play_ticks mm out p l t) h = playback_on m h p _ _
changed m e n (play_ticks_last mm out p) h = over m 5
changed m e n (play_hears slot msg out p) h = playback_on m h p _ _
changed m e n (play_hears_last slot msg out s p r l) h = over m s
changed m e n (replaced r x) h = record { recording = h.recording; playback = h.playback }

new_blank : Blank new_master
unfolding new_master
new_blank = record { recording = λ _ _. refl; playback = λ _. refl }

pub given_blank : (m : Master) → Given m → Blank m
given_blank = given_by Blank (λ m e _ z h. changed m e _ (done_change m e z) h) new_blank
