-- The TAN rises with each command that leaves: by every change, and so along every run.
use Prim.Native.Nat.{ℕ, ◌+◌, ◌-◌, ◌%◌, ◌≤◌}
use mathlib.Core.Path.{◌≡◌, refl, ap, ◌∙◌}
use mathlib.Core.Bool.{true}
use mathlib.Core.Logic.{◌⊎◌, inl, inr}
use mathlib.Core.List.{List, [], ◌∷◌}
use native.Mathlib.Omega.{arith}
use borrow.Author.Tests.{eqb-true, leb-true, leb-false}
use Rattle.recording.specs.declared.Recording.{Recording}
use Rattle.sequence.specs.declared.Sequence.{Sequence}
use Rattle.playback.specs.State.{blank_playback}
use Rattle.playback.specs.Tick.{next_tan, counted_playback, after_leaving, tick_of}
use Rattle.playback.specs.declared.Playback.{Playback}
use Rattle.playback.specs.Tick.{Ticked}
use Rattle.master.specs.declared.Master.{Master}
use Rattle.master.specs.Messages.{reply_in}
use Rattle.master.specs.States.{is_playing, new_master, with_state, with_recording, with_playback, ended}
use Rattle.master.specs.Recording.{recording_ended}
use Rattle.events.specs.Events.{Event, tick, call_of, apply, run_from}
use Rattle.events.proofs.Choices.{chosen, chosen_by}
use Rattle.events.proofs.Calls.{number_is, either_way}
use Rattle.events.proofs.Changes.{Near, itself, slotted, ticked_in, Change, rested, moved, dropped, broken, record_starts, record_waits, record_ends, record_hears, record_hears_last, record_ticks, play_starts, play_ticks, play_ticks_last, play_hears, play_hears_last, replaced}
use Rattle.events.proofs.Invariant.{done_change}
use Rattle.events.proofs.Regular.{answered_sent}
use Rattle.seen.specs.Words.{Done}
use Rattle.seen.specs.Tan.{left_from, Leaving, at_tick, Tan}

-- what an event does to the TAN, with the commands that leave at it
record Counts (m : Master) (e : Event) (n : Master) : Type 0 where
  one : n.playback.sent - m.playback.sent ≤ 1
  only : (n.playback.sent - m.playback.sent ≡ 0 → ⊥) → Leaving m e
  tan : m.tan ≤ 255 → n.tan ≡ (m.tan + (n.playback.sent - m.playback.sent)) % 256

-- nothing leaves
quiet : (m : Master) (e : Event) (n : Master) → n.playback.sent ≤ m.playback.sent → n.tan ≡ m.tan → Counts m e n
quiet m e n l t = record { one = omega arith; only = λ h. absurd (h (omega arith)); tan = λ few. omega (arith, l, t, few) }

none_sent : (n : ℕ) → blank_playback.sent ≤ n
unfolding blank_playback
none_sent n = omega arith

-- ---- a tick: nothing leaves, or one command does, with the next TAN

next_is : (tan : ℕ) → tan ≤ 255 → next_tan tan ≡ (tan + 1) % 256
unfolding next_tan
next_is tan few =
    chosen_by (λ (n : ℕ). n ≡ (tan + 1) % 256) _ _ _ (λ t. let k = leb-true 255 tan t in omega arith) (λ t. let k = leb-false 255 tan t in omega arith)

Leaves : Playback → ℕ → Ticked → Type 0
Leaves p tan t = ((t.playback.sent ≡ p.sent) × (t.tan ≡ tan)) ⊎ ((t.playback.sent ≡ p.sent + 1) × (t.tan ≡ next_tan tan))

leaves : (p : Playback) (q : Sequence) (tan mm : ℕ) → Leaves p tan (tick_of p q tan mm)
unfolding Leaves tick_of counted_playback after_leaving
leaves p q tan mm = chosen (Leaves p tan) _ _ _ (inl (refl, refl)) (chosen (Leaves p tan) _ _ _ (inl (refl, refl)) (inr (refl, refl)))

ticked : (m : Master) (mm : ℕ) (out : List ℕ) → is_playing m ≡ true → Done m (tick mm out)
    → Counts m (tick mm out) (with_playback m (ticked_in m mm).tan (ticked_in m mm).playback)
unfolding Leaves
ticked m mm out p z = go (leaves m.playback m.sequence m.tan mm)
  where
    go : Leaves m.playback m.tan (ticked_in m mm) → Counts m (tick mm out) (with_playback m (ticked_in m mm).tan (ticked_in m mm).playback)
    go (inl (s, t)) = quiet m (tick mm out) _ (omega arith) t
    go (inr (s, t)) = record {
      one = omega arith;
      only = λ _. at_tick mm out (eqb-true _ _ p) z;
      tan = λ few. t ∙ next_is m.tan few ∙ (let w : m.tan + 1 ≡ m.tan + ((ticked_in m mm).playback.sent - m.playback.sent) = omega arith in ap (λ (n : ℕ). n % 256) w);
    }

-- ---- every change

near : (m : Master) (e : Event) (n : Master) → Near m n → Counts m e n
near m e n itself = quiet m e n (omega arith) refl
near m e n (slotted i s) = quiet m e n (omega arith) refl

moves : (m : Master) (e : Event) (k : Master) (s : ℕ) → Near m k → Counts m e (with_state k s)
moves m e k s itself = quiet m e _ (omega arith) refl
moves m e k s (slotted i c) = quiet m e _ (omega arith) refl

over : (m : Master) (e : Event) (k : Master) (s : ℕ) → Near m k → Counts m e (ended k s)
unfolding ended
over m e k s itself = quiet m e _ (none_sent _) refl
over m e k s (slotted i c) = quiet m e _ (none_sent _) refl

stays : (m : Master) (e : Event) (r : Recording) → Counts m e (recording_ended (with_recording m r))
unfolding recording_ended ended
stays m e r = quiet m e _ (none_sent _) refl

changed : (m : Master) (e : Event) (n : Master) → Done m e → Change m e n → Counts m e n
changed m e n z (rested x y) = near m e n x
changed m e n z (moved x s r b) = moves m e _ s x
changed m e n z (dropped x i y) = over m e _ 1 x
changed m e n z (broken x p c) = over m e _ 5 x
changed m e n z (record_starts r) = quiet m e _ (omega arith) refl
changed m e n z (record_waits i) = quiet m e _ (omega arith) refl
changed m e n z (record_ends i) = stays m e m.recording
changed m e n z (record_hears slot msg out i l) = quiet m e _ (omega arith) refl
changed m e n z (record_hears_last slot msg out i l) = stays m e _
changed m e n z (record_ticks mm out i l t) = quiet m e _ (omega arith) refl
changed m e n z (play_starts r) = quiet m e _ (none_sent _) refl
changed m e n z (play_ticks mm out p l t) = ticked m mm out p z
changed m e n z (play_ticks_last mm out p) = over m e m 5 itself
changed m e n z (play_hears slot msg out p) =
    quiet m e _ (let s = answered_sent m.playback m.sequence slot (reply_in msg) in omega arith) refl
changed m e n z (play_hears_last slot msg out s p r l) = over m e m s itself
changed m e n z (replaced r x) = quiet m e _ (omega arith) refl

counted : (m : Master) (e : Event) → Counts m e (apply m e).master
counted m e =
    either_way m (call_of m e) (Counts m e) (λ _. quiet m e m (omega arith) refl)
    (λ z. changed m e _ (number_is m (call_of m e) ∙ z) (done_change m e z))

-- ---- every run

along : (events : List Event) (m : Master) → m.tan ≤ 255 → (run_from m events).tan ≡ (m.tan + left_from m events) % 256
along [] m few = omega arith
along (e ∷ events) m few =
    let c = (counted m e).tan few in
    let h = along events (apply m e).master (omega (arith, c)) in
    omega (arith, c, h)

none_yet : new_master.tan ≡ 0
unfolding new_master
none_yet = refl

pub tan : Tan
tan = record {
  counts = λ events. omega (arith, along events new_master (omega (arith, none_yet)), none_yet);
  one = λ m e. (counted m e).one;
  only = λ m e. (counted m e).only;
}
