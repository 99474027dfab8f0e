-- Calls through which a playback lasts are a run of crate `replay`, with the same ticks.
use mathlib.Core.Path.{◌≡◌, refl, sym, ap, ◌∙◌, subst}
use mathlib.Core.Bool.{true}
use mathlib.Core.List.{List, [], ◌∷◌, ◌++◌, append_assoc}
use Prim.Native.Nat.{ℕ, ◌≤◌}
use native.Mathlib.Omega.{arith}
use borrow.Author.Tests.{ltb-false, eqb-true}
use lib.Dec.{eqb}
use Rattle.octets.specs.Pick.{pick}
use Rattle.sequence.specs.declared.Sequence.{Sequence}
use Rattle.playback.specs.declared.Playback.{Playback}
use Rattle.playback.specs.State.{blank_playback}
use Rattle.master.specs.declared.Master.{Master}
use Rattle.master.specs.States.{with_state, with_playback}
use Rattle.master.specs.States as states
use Rattle.master.specs.Messages.{reply_in}
use Rattle.master.specs.Playback.{start_call}
use Rattle.master.specs.Tick.{tick_call}
use Rattle.master.proofs.Calls.{passed}
use Rattle.replay.specs.Run.{State, going, step_of, Whole, Fair, ticks_of}
use Rattle.replay.specs.Run as replay
use Rattle.events.specs.Events.{Event, start, tick, answer, apply, run_from, Given}
use Rattle.plays.specs.Plays.{Started, Playing, Lasts, tick_in, ticks_in}
use Rattle.events.proofs.Calls.{number_is, after_is}
use Rattle.events.proofs.Choices.{chosen, chosen_by, either}
use Rattle.events.proofs.Regular.{length_steps, given_regular}
use Rattle.plays.proofs.Calls.{seen, Shows, goes, is_done, is_aborted, View, a_tick, an_answer, another, view, one}

-- the calls, as crate `replay` has them
abbrev pub seen_all : Master → List Event → List replay.PlaybackEvent
seen_all m [] = []
seen_all m (e ∷ es) = seen m e ∷ seen_all (apply m e).master es

-- ---- accepted ticks have at most 65,535 mm

pub accepted_mm : (m : Master) (mm : ℕ) (out : List ℕ) → eqb (apply m (tick mm out)).number 0 ≡ true → mm ≤ 65535
unfolding tick_call
accepted_mm m mm out e = ltb-false 65535 mm (passed _ _ _ _ _ (sym (number_is m (tick_call m mm out)) ∙ eqb-true _ 0 e)).right

-- ---- the events are fair, with the same ticks

fair_one : (m : Master) (e : Event) (es : List replay.PlaybackEvent) → Fair es → View m e → Fair (seen m e ∷ es)
fair_one m e es f (a_tick mm out) =
    chosen_by (λ x. Fair (x ∷ es)) (eqb (apply m (tick mm out)).number 0) (replay.tick mm) replay.message (λ q. (accepted_mm m mm out q, f)) (λ _. f)
fair_one m e es f (an_answer slot msg out) =
    chosen (λ x. Fair (x ∷ es)) (eqb (apply m (answer slot msg out)).number 0) (replay.answer slot (reply_in msg)) replay.message f f
fair_one m e es f (another a q t) =
    subst (λ (x : replay.PlaybackEvent). Fair (x ∷ es)) (sym q)
    (chosen (λ x. Fair (x ∷ es)) (eqb (apply m e).master.state states.playback) replay.message replay.ends f f)

pub fair : (m : Master) (es : List Event) → Fair (seen_all m es)
fair m [] = tt
fair m (e ∷ es) = fair_one m e (seen_all (apply m e).master es) (fair (apply m e).master es) (view m e)

ticks_one : (m : Master) (e : Event) (es : List replay.PlaybackEvent) → View m e → ticks_of (seen m e ∷ es) ≡ tick_in m e ++ ticks_of es
unfolding pick
ticks_one m e es (a_tick mm out) = either (eqb (apply m (tick mm out)).number 0) (λ b. rw b) (λ b. rw b)
ticks_one m e es (an_answer slot msg out) = either (eqb (apply m (answer slot msg out)).number 0) (λ b. rw b) (λ b. rw b)
ticks_one m e es (another a q t) = either (eqb (apply m e).master.state states.playback) (λ b. rw (q, t, b)) (λ b. rw (q, t, b))

pub same_ticks : (m : Master) (es : List Event) → ticks_of (seen_all m es) ≡ ticks_in m es
same_ticks m [] = refl
same_ticks m (e ∷ es) =
    ticks_one m e (seen_all (apply m e).master es) (view m e) ∙ ap (λ (l : List ℕ). tick_in m e ++ l) (same_ticks (apply m e).master es)

-- ---- lists of calls

pub run_append : (a b : List Event) (m : Master) → run_from m (a ++ b) ≡ run_from (run_from m a) b
run_append [] b m = refl
run_append (e ∷ a) b m = run_append a b (apply m e).master

pub seen_append : (a b : List Event) (m : Master) → seen_all m (a ++ b) ≡ seen_all m a ++ seen_all (run_from m a) b
seen_append [] b m = refl
seen_append (e ∷ a) b m = ap (λ (l : List replay.PlaybackEvent). seen m e ∷ l) (seen_append a b (apply m e).master)

pub ticks_append : (a b : List Event) (m : Master) → ticks_in m (a ++ b) ≡ ticks_in m a ++ ticks_in (run_from m a) b
ticks_append [] b m = refl
ticks_append (e ∷ a) b m =
    ap (λ (l : List ℕ). tick_in m e ++ l) (ticks_append a b (apply m e).master) ∙ sym (append_assoc (tick_in m e) _ _)

pub lasts_head : (m : Master) (es : List Event) → Lasts m es → Playing m
lasts_head m [] h = h
lasts_head m (e ∷ es) h = h.0

pub lasts_last : (es : List Event) (m : Master) → Lasts m es → Playing (run_from m es)
lasts_last [] m h = h
lasts_last (e ∷ es) m h = lasts_last es (apply m e).master h.1

pub lasts_left : (a b : List Event) (m : Master) → Lasts m (a ++ b) → Lasts m a
lasts_left [] b m h = lasts_head m b h
lasts_left (e ∷ a) b m h = (h.0, lasts_left a b (apply m e).master h.1)

pub lasts_right : (a b : List Event) (m : Master) → Lasts m (a ++ b) → Lasts (run_from m a) b
lasts_right [] b m h = h
lasts_right (e ∷ a) b m h = lasts_right a b (apply m e).master h.1

pub lasts_append : (a b : List Event) (m : Master) → Lasts m a → Lasts (run_from m a) b → Lasts m (a ++ b)
lasts_append [] b m h k = k
lasts_append (e ∷ a) b m h k = (h.0, lasts_append a b (apply m e).master h.1 k)

-- ---- a playback that lasts is a run

same_run : (q r : Sequence) (p s : Playback) (x y : ℕ) (es : List replay.PlaybackEvent) → r ≡ q → s ≡ p → y ≡ x
    → replay.play_run_from q (going p x) es ≡ replay.play_run_from r (going s y) es
same_run q r p s x y es a b c = rw (a, b, c)

-- a master that plays shows its own playback
pub shown : (q : Sequence) (n : Master) (s : State) → Shows q n s → Playing n → (n.sequence ≡ q) × (s ≡ going n.playback n.tan)
shown q n s (goes p x a b c d) h = (b, rw (c, d))
shown q n s (is_done p a) h = absurd (omega (arith, a, h))
shown q n s (is_aborted a) h = absurd (omega (arith, a, h))

pub lasting : (es : List Event) (m : Master) → Lasts m es
    → (replay.play_run_from m.sequence (going m.playback m.tan) (seen_all m es) ≡ going (run_from m es).playback (run_from m es).tan)
    × ((run_from m es).sequence ≡ m.sequence)
lasting [] m h = (refl, refl)
lasting (e ∷ es) m h =
    let n = (apply m e).master in
    let w = shown m.sequence n (step_of m.sequence (going m.playback m.tan) (seen m e)) (one m e h.0) (lasts_head n es h.1) in
    let r = lasting es n h.1 in (
      ap (λ (s : State). replay.play_run_from m.sequence s (seen_all n es)) w.1
          ∙ same_run m.sequence n.sequence n.playback n.playback n.tan n.tan (seen_all n es) w.0 refl refl
          ∙ r.0,
      r.1 ∙ w.0,
    )

-- ---- from an accepted start

pub given_whole : (m : Master) → Given m → Whole m.sequence
given_whole m g = length_steps m.sequence (given_regular m g).sequence

pub record Begins (m : Master) : Type 0 where
  pub plays : Playing m
  pub blank : m.playback ≡ blank_playback
  pub whole : Whole m.sequence

pub begun : (b : Master) → (apply b start).number ≡ 0 → (apply b start).master ≡ with_state (with_playback b b.tan blank_playback) states.playback
unfolding start_call
begun b z = after_is b (start_call b) z

pub begins : (m : Master) → Started m → Begins m
begins m s =
    subst Begins (sym (begun s.before s.accepted) ∙ s.after)
    (record { plays = refl; blank = refl; whole = given_whole s.before s.given })

pub run_is : (m : Master) → Begins m → (es : List Event) → Lasts m es
    → replay.play_run m.sequence m.tan (seen_all m es) ≡ going (run_from m es).playback (run_from m es).tan
run_is m b es h =
    ap (λ (p : Playback). replay.play_run_from m.sequence (going p m.tan) (seen_all m es)) (sym b.blank) ∙ (lasting es m h).0

pub whole_at : (m : Master) → Started m → (es : List Event) → Lasts m es → Whole (run_from m es).sequence
whole_at m s es l = subst Whole (sym (lasting es m l).1) (begins m s).whole
