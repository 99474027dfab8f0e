-- What each call does to a playback that lasts: a tick and an answer do what crate `replay` says, and every other call leaves the playback as it is or
-- aborts it, for a cause that 01 names.
use mathlib.Core.Path.{◌≡◌, refl, sym, ap, subst, ◌∙◌}
use mathlib.Core.Bool.{Bool, true, false, true≢false}
use mathlib.Core.List.{List, []}
use Prim.Native.Nat.{ℕ}
use native.Mathlib.Omega.{arith}
use lib.Dec.{eqb}
use Rattle.octets.specs.Pick.{pick}
use Rattle.sequence.specs.declared.Sequence.{Sequence}
use Rattle.playback.specs.declared.Playback.{Playback}
use Rattle.playback.specs.Tick as playback
use Rattle.playback.specs.Tick.{Ticked}
use Rattle.playback.specs.Answer.{Answered}
use Rattle.master.specs.declared.Master.{Master}
use Rattle.master.specs.Call.{Call, number_of, outcome_of}
use Rattle.master.specs.States.{is_recording, is_playing, with_playback, ended}
use Rattle.master.specs.States as states
use Rattle.master.specs.Messages.{reply_in}
use Rattle.master.specs.Playback.{answered, replied, answer_call}
use Rattle.master.specs.Tick.{playback_ticked, ticked, tick_call}
use Rattle.replay.specs.Run.{State, going, done, aborted, after_tick, after_answer, step_of}
use Rattle.replay.specs.Run as replay
use Rattle.events.specs.Events.{Event, tick, answer, Sort, stops, hears, ticks, answers, loads, sort_of, number_by, which_call, call_of, apply}
use Rattle.events.specs.Events as events
use Rattle.events.proofs.Outside.{Outside}
use Rattle.events.proofs.Calls.{either_way}
use Rattle.events.proofs.Changes.{Near, itself, slotted, Change, rested, moved, dropped, broken, record_starts, record_waits, record_ends, record_hears, record_hears_last, record_ticks, play_starts, play_ticks, play_ticks_last, play_hears, play_hears_last, replaced, not_recording}
use Rattle.events.proofs.Invariant.{done_change}
use Rattle.plays.specs.Plays.{Playing, tick_by, tick_in}
use Rattle.playback.specs.State.{goes_on, to_ready, to_abort, same_end}

-- ---- every call but a tick and an answer

abbrev pub Aside : Event → Type 0
Aside e = (which_call e ≡ 2 → ⊥) × (which_call e ≡ 3 → ⊥)

pub data Stays (m : Master) (e : Event) (n : Master) : Type 0 where
  keeps : n.state ≡ states.playback → n.sequence ≡ m.sequence → n.playback ≡ m.playback → n.tan ≡ m.tan → Stays m e n
  aborts : Outside m e → n.state ≡ states.abort → Stays m e n

-- no recording is on, and no other state
module _ (m : Master) (h : Playing m) where
  is_playing_lem : is_playing m ≡ true
  is_playing_lem = rw h

  not_recorded : is_recording m ≡ true → ⊥
  not_recorded i = true≢false (sym i ∙ not_recording m is_playing_lem)

  near : (e : Event) (n : Master) → Near m n → Stays m e n
  near e n itself = keeps h refl refl refl
  near e n (slotted i s) = keeps h refl refl refl

  changed : (e : Event) (n : Master) → Aside e → Change m e n → Stays m e n
  unfolding ended
  changed e n a (rested x y) = near e n x
  changed e n a (moved x s r t) = absurd (r.2 h)
  changed e n a (dropped x i y) = absurd (not_recorded i)
  changed e n a (broken x p c) = aborts c refl
  changed e n a (record_starts r) = absurd (r.2 h)
  changed e n a (record_waits i) = absurd (not_recorded i)
  changed e n a (record_ends i) = absurd (not_recorded i)
  changed e n a (record_hears slot msg out i l) = absurd (not_recorded i)
  changed e n a (record_hears_last slot msg out i l) = absurd (not_recorded i)
  changed e n a (record_ticks mm out i l t) = absurd (not_recorded i)
  changed e n a (play_starts r) = absurd (r.2 h)
  changed e n a (play_ticks mm out p l t) = absurd (a.0 refl)
  changed e n a (play_ticks_last mm out p) = absurd (a.0 refl)
  changed e n a (play_hears slot msg out p) = absurd (a.1 refl)
  changed e n a (play_hears_last slot msg out s p r l) = absurd (a.1 refl)
  changed e n a (replaced r x) = absurd (omega (arith, r, h))

  -- refused, or done
  pub stays : (e : Event) → Aside e → Stays m e (apply m e).master
  stays e a = either_way m (call_of m e) (Stays m e) (λ _. near e m itself) (λ z. changed e (call_of m e).after a (done_change m e z))

-- ---- the calls as crate `replay` has them

-- any call but an accepted tick or answer: it goes on, or it ends
abbrev pub heeded : ℕ → replay.PlaybackEvent
heeded state = pick (eqb state states.playback) replay.message replay.ends

abbrev seen_by : Master → (e : Event) → Sort e → replay.PlaybackEvent
seen_by m e stops = heeded (apply m e).master.state
seen_by m e (hears slot msg out) = heeded (apply m e).master.state
seen_by m e (ticks mm out) = pick (eqb (apply m e).number 0) (replay.tick mm) replay.message
seen_by m e (answers slot msg out) = pick (eqb (apply m e).number 0) (replay.answer slot (reply_in msg)) replay.message
seen_by m e (loads blocks) = heeded (apply m e).master.state
seen_by m e (events.other n) = heeded (apply m e).master.state

abbrev pub seen : Master → Event → replay.PlaybackEvent
seen m e = seen_by m e (sort_of e)

-- the master shows this state of a playback of the sequence
pub data Shows (q : Sequence) (n : Master) : State → Type 0 where
  goes : (p : Playback) (tan : ℕ) → n.state ≡ states.playback → n.sequence ≡ q → n.playback ≡ p → n.tan ≡ tan → Shows q n (going p tan)
  is_done : (p : Playback) → n.state ≡ states.ready → Shows q n (done p)
  is_aborted : n.state ≡ states.abort → Shows q n aborted

keeps_on : (state : ℕ) → state ≡ states.playback → heeded state ≡ replay.message
unfolding pick
keeps_on state e = rw e

ends_it : (state : ℕ) → state ≡ states.abort → heeded state ≡ replay.ends
unfolding pick
ends_it state e = rw e

other : (m : Master) (e : Event) (n : Master) → Stays m e n → Shows m.sequence n (step_of m.sequence (going m.playback m.tan) (heeded n.state))
other m e n (keeps a b c d) =
    subst (λ (x : replay.PlaybackEvent). Shows m.sequence n (step_of m.sequence (going m.playback m.tan) x)) (sym (keeps_on n.state a))
    (goes m.playback m.tan a b c d)
other m e n (aborts c a) =
    subst (λ (x : replay.PlaybackEvent). Shows m.sequence n (step_of m.sequence (going m.playback m.tan) x)) (sym (ends_it n.state a)) (is_aborted a)

-- a call that is refused is seen as any other
done_or_not : (m : Master) (c : Call) (x : replay.PlaybackEvent) → Playing m
    → Shows m.sequence c.after (step_of m.sequence (going m.playback m.tan) x)
    → Shows m.sequence (outcome_of m c).master
    (step_of m.sequence (going m.playback m.tan) (pick (eqb (outcome_of m c).number 0) x replay.message))
unfolding pick outcome_of
done_or_not m c x h k = go (eqb (number_of c) 0)
  where
    go : (b : Bool) → Shows m.sequence (pick b c.after m) (step_of m.sequence (going m.playback m.tan) (pick b x replay.message))
    go true = k
    go false = goes m.playback m.tan h refl refl refl

-- ---- a tick

after_tick_lem : (m : Master) (t : Ticked) → Playing m
    → Shows m.sequence (pick (same_end t.end goes_on) (with_playback m t.tan t.playback) (ended m states.abort)) (after_tick t)
unfolding after_tick ended pick
after_tick_lem m t h = go (same_end t.end goes_on)
  where
    go : (b : Bool) → Shows m.sequence (pick b (with_playback m t.tan t.playback) (ended m states.abort)) (pick b (going t.playback t.tan) aborted)
    go true = goes t.playback t.tan h refl refl refl
    go false = is_aborted refl

is_ticked : (m : Master) (mm : ℕ) → Playing m → ticked m mm ≡ playback_ticked m mm
unfolding ticked pick
is_ticked m mm h = rw h

one_tick : (m : Master) (mm : ℕ) → Playing m → Shows m.sequence (ticked m mm) (after_tick (playback.tick_of m.playback m.sequence m.tan mm))
unfolding playback_ticked
one_tick m mm h =
    subst (λ (n : Master). Shows m.sequence n (after_tick (playback.tick_of m.playback m.sequence m.tan mm))) (sym (is_ticked m mm h))
    (after_tick_lem m (playback.tick_of m.playback m.sequence m.tan mm) h)

by_tick : (m : Master) (mm : ℕ) (out : List ℕ) → Playing m
    → Shows m.sequence (apply m (tick mm out)).master (step_of m.sequence (going m.playback m.tan) (seen m (tick mm out)))
unfolding tick_call
by_tick m mm out h = done_or_not m (tick_call m mm out) (replay.tick mm) h (one_tick m mm h)

-- ---- an answer

after_answer_lem : (m : Master) (a : Answered) → Playing m → Shows m.sequence (replied m a) (after_answer m.tan a)
unfolding replied after_answer ended pick
after_answer_lem m a h = go (same_end a.end to_ready) (same_end a.end to_abort)
  where
    go : (b c : Bool)
        → Shows m.sequence (pick b (ended m states.ready) (pick c (ended m states.abort) (with_playback m m.tan a.playback)))
        (pick b (done a.playback) (pick c aborted (going a.playback m.tan)))
    go true c = is_done a.playback refl
    go false true = is_aborted refl
    go false false = goes a.playback m.tan h refl refl refl

by_answer : (m : Master) (slot : ℕ) (msg out : List ℕ) → Playing m
    → Shows m.sequence (apply m (answer slot msg out)).master (step_of m.sequence (going m.playback m.tan) (seen m (answer slot msg out)))
unfolding answer_call
by_answer m slot msg out h = done_or_not m (answer_call m slot msg out) (replay.answer slot (reply_in msg)) h (after_answer_lem m (answered m slot msg) h)

-- which call it is
pub data View (m : Master) : Event → Type 0 where
  a_tick : (mm : ℕ) (out : List ℕ) → View m (tick mm out)
  an_answer : (slot : ℕ) (msg out : List ℕ) → View m (answer slot msg out)
  another : {e : Event} → Aside e → seen m e ≡ heeded (apply m e).master.state → tick_in m e ≡ [] → View m e

aside : (m : Master) (e : Event) (s : Sort e) → sort_of e ≡ s → (number_by s ≡ 2 → ⊥) → (number_by s ≡ 3 → ⊥)
    → seen_by m e s ≡ heeded (apply m e).master.state → tick_by m e s ≡ [] → View m e
aside m e s q a b x y =
    another (λ z. a (ap number_by (sym q) ∙ z), λ z. b (ap number_by (sym q) ∙ z)) (ap (seen_by m e) q ∙ x) (ap (tick_by m e) q ∙ y)

view_by : (m : Master) (e : Event) (s : Sort e) → sort_of e ≡ s → View m e
view_by m e stops q = aside m e stops q (λ z. omega arith) (λ z. omega arith) refl refl
view_by m e (hears slot msg out) q = aside m e (hears slot msg out) q (λ z. omega arith) (λ z. omega arith) refl refl
view_by m e (ticks mm out) q = a_tick mm out
view_by m e (answers slot msg out) q = an_answer slot msg out
view_by m e (loads blocks) q = aside m e (loads blocks) q (λ z. omega arith) (λ z. omega arith) refl refl
view_by m e (events.other n) q = aside m e (events.other n) q (λ z. omega arith) (λ z. omega arith) refl refl

pub view : (m : Master) (e : Event) → View m e
view m e = view_by m e (sort_of e) refl

viewed : (m : Master) (e : Event) → Playing m → View m e → Shows m.sequence (apply m e).master (step_of m.sequence (going m.playback m.tan) (seen m e))
viewed m e h (a_tick mm out) = by_tick m mm out h
viewed m e h (an_answer slot msg out) = by_answer m slot msg out h
viewed m e h (another a q t) =
    subst (λ (x : replay.PlaybackEvent). Shows m.sequence (apply m e).master (step_of m.sequence (going m.playback m.tan) x)) (sym q) (other m e _ (stays m h e a))

-- EACH CALL DOES TO A PLAYBACK THAT LASTS WHAT CRATE `replay` SAYS OF THE EVENT THAT IT IS
pub one : (m : Master) (e : Event) → Playing m → Shows m.sequence (apply m e).master (step_of m.sequence (going m.playback m.tan) (seen m e))
one m e h = viewed m e h (view m e)
