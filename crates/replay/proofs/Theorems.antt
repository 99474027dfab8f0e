-- When the steps of a playback leave, by the definitions that the calls meet: carried over from crate `ticks` by `follows`.
use mathlib.Core.Path.{◌≡◌, refl, sym, ap, ◌∙◌, subst}
use mathlib.Core.Logic.{◌↔◌, ◌⊎◌, inl, inr}
use mathlib.Core.Bool.{Bool, true, false, not, ◌&&◌, ◌||◌}
use mathlib.Core.List.{List, [], ◌∷◌, ◌++◌}
use Prim.Native.Nat.{ℕ, ◌+◌, ◌≤◌, ◌<◌}
use native.Mathlib.Omega.{arith}
use borrow.Author.Tests.{lt-ltb, le-leb, ltb-true, leb-true, eqb-true, eqb-false}
use lib.Dec.{T, eqb, leb, ltb}
use lib.ListN.{length, get_or, take, length-drop}
use Rattle.sequence.specs.Sequence.{blank_step, length_of}
use Rattle.sequence.specs.declared.Sequence.{Sequence}
use Rattle.playback.specs.declared.Playback.{Playback}
use Rattle.playback.specs.State.{blank_playback}
use Rattle.playback.specs.Tick.{answer_ticks, is_due}
use Rattle.replay.specs.Run.{PlaybackEvent, tick, answer, message, ends, State, going, done, aborted, step_of, play_run_from, play_run, Going, Whole, Fair, ticks_of, HasLeftAt, AnsweredAt, Reaches, DueAt, Latest}
use Rattle.replay.proofs.Cells.{marks_in, few, reached_is, length_lefts, left_cell, answered_back}
use Rattle.replay.proofs.Follows.{played, project, seen, seen_all, Sound, sound_start, keeps_all, follows, same_ticks}
use Rattle.replay.proofs.Done.{Finished, finished, each_done}
use Rattle.ticks.specs.Queue as abs
use Rattle.ticks.proofs.Theorems as theorems
use Rattle.ticks.proofs.Follows as queue

-- ---- the words of the two crates

left_to : (s : State) → Sound s → (i t : ℕ) → HasLeftAt s i t → (i < length (abs.leavings (project s))) × (get_or (abs.leavings (project s)) i 0 ≡ t)
left_to (going p tan) g i t h =
    let n = length_lefts p.sent p.commands (omega (arith, g.cells, g.within)) in
    (omega (arith, h.0), left_cell p.sent p.commands i h.0 (omega (arith, g.cells, g.within)) ∙ h.1)
left_to (done p) g i t h = absurd h
left_to aborted g i t h = absurd h

left_from : (s : State) → Sound s → (i t : ℕ) → (i < length (abs.leavings (project s))) × (get_or (abs.leavings (project s)) i 0 ≡ t) → HasLeftAt s i t
left_from (going p tan) g i t h =
    let n = length_lefts p.sent p.commands (omega (arith, g.cells, g.within)) in
    let k : i < p.sent = omega (arith, h.0) in
    (k, sym (left_cell p.sent p.commands i k (omega (arith, g.cells, g.within))) ∙ h.1)
left_from (done p) g i t h = absurd (omega (arith, h.0))
left_from aborted g i t h = absurd (omega (arith, h.0))

lasts : (s : State) → Going s → abs.QueueLasts (project s)
lasts (going p tan) h = tt
lasts (done p) h = absurd h
lasts aborted h = absurd h

left_going : (s : State) (i t : ℕ) → HasLeftAt s i t → Going s
left_going (going p x) i t h = tt
left_going (done p) i t h = h
left_going aborted i t h = h

-- the code's test of a mark, and what it says
abbrev due_after : Sequence → List ℕ → ℕ → ℕ → Bool
due_after sequence mms j t = ltb j (length_of sequence) && is_due (get_or sequence.steps j blank_step) t (abs.sum (take t mms))

module _ (sequence : Sequence) (mms : List ℕ) (j t : ℕ) where
  reaches_by : T (due_after sequence mms j t) → Reaches sequence mms j t
  reaches_by h =
      let s = get_or sequence.steps j blank_step in
      let d = abs.sum (take t mms) in
      go (ltb j (length_of sequence)) (eqb s.distance 0) (leb s.mark t) (leb s.mark d) refl refl refl refl h
    where
      go : (a b x y : Bool) → ltb j (length_of sequence) ≡ a → eqb (get_or sequence.steps j blank_step).distance 0 ≡ b
          → leb (get_or sequence.steps j blank_step).mark t ≡ x → leb (get_or sequence.steps j blank_step).mark (abs.sum (take t mms)) ≡ y
          → T (a && ((b && x) || (not b && y))) → Reaches sequence mms j t
      go true true true y p q u v k = record { there = ltb-true _ _ p; by_ticks = λ _. leb-true _ _ u; by_millimetres = λ n. absurd (n (eqb-true _ _ q)) }
      go true false x true p q u v k = record { there = ltb-true _ _ p; by_ticks = λ z. absurd (eqb-false _ _ q z); by_millimetres = λ _. leb-true _ _ v }
      go true true false y p q u v k = absurd k
      go true false x false p q u v k = absurd k
      go false b x y p q u v k = absurd k

  by_reaches : Reaches sequence mms j t → T (due_after sequence mms j t)
  by_reaches r = go (eqb (get_or sequence.steps j blank_step).distance 0) refl
    where
      go : (b : Bool) → eqb (get_or sequence.steps j blank_step).distance 0 ≡ b → T (due_after sequence mms j t)
      go true q = rw (lt-ltb j (length_of sequence) r.there, q, le-leb _ _ (r.by_ticks (eqb-true _ _ q))) tt
      go false q = rw (lt-ltb j (length_of sequence) r.there, q, le-leb _ _ (r.by_millimetres (eqb-false _ _ q))) tt

module _ (sequence : Sequence) (whole : Whole sequence) (es : List abs.QueueEvent) (mms : List ℕ) (e : abs.tick_list es ≡ mms) where
  same_due : (j u : ℕ) → abs.reached_after (marks_in sequence) (abs.tick_list es) j u ≡ due_after sequence mms j u
  same_due j u = rw e (reached_is sequence.steps (length_of sequence) j u (abs.sum (take u mms)) (omega (arith, whole, few sequence)))

  to_reaches : (j u : ℕ) → T (abs.reached_after (marks_in sequence) (abs.tick_list es) j u) → Reaches sequence mms j u
  to_reaches j u h = reaches_by sequence mms j u (subst T (same_due j u) h)

  from_reaches : (j u : ℕ) → Reaches sequence mms j u → T (abs.reached_after (marks_in sequence) (abs.tick_list es) j u)
  from_reaches j u r = subst T (sym (same_due j u)) (by_reaches sequence mms j u r)

  to_due : (j t : ℕ) → abs.QueueDueAt (marks_in sequence) es j t → DueAt sequence mms j t
  to_due j t d =
      record {
        numbered = d.numbered;
        within = rw e at d.within;
        reaching = to_reaches j t d.reaching;
        first = λ u a b h. d.first u a b (from_reaches j u h);
      }

  from_due : (j t : ℕ) → DueAt sequence mms j t → abs.QueueDueAt (marks_in sequence) es j t
  from_due j t d =
      record {
        numbered = d.numbered;
        within = rw e d.within;
        reaching = from_reaches j t d.reaching;
        first = λ u a b h. d.first u a b (to_reaches j u h);
      }

  to_latest : (i t : ℕ) → abs.QueueLatest (marks_in sequence) es i t → Latest sequence mms i t
  to_latest i t m =
      record {
        none_later = λ j k. let p = m.none_later j k in (p.0, to_due j p.0 p.1, p.2);
        one_of_them = let p = m.one_of_them in (p.0, p.1, (p.2.0, to_due p.0 p.2.0 p.2.1, p.2.2));
      }

  from_latest : (i t : ℕ) → Latest sequence mms i t → abs.QueueLatest (marks_in sequence) es i t
  from_latest i t m =
      record {
        none_later = λ j k. let p = m.none_later j k in (p.0, from_due j p.0 p.1, p.2);
        one_of_them = let p = m.one_of_them in (p.0, p.1, (p.2.0, from_due p.0 p.2.0 p.2.1, p.2.2));
      }

module _ (sequence : Sequence) (whole : Whole sequence) (tan : ℕ) where
  -- the events as `ticks` has them
  pub events : List PlaybackEvent → List abs.QueueEvent
  events es = seen_all sequence (going blank_playback tan) es

  pub run_is : (es : List PlaybackEvent) → Fair es → project (play_run sequence tan es) ≡ abs.queue_run (marks_in sequence) (events es)
  unfolding blank_playback events
  run_is es f = follows sequence whole es (going blank_playback tan) f (sound_start tan)

  pub events_ticks : (es : List PlaybackEvent) → abs.tick_list (events es) ≡ ticks_of es
  unfolding events
  events_ticks es = same_ticks sequence es (going blank_playback tan)

  pub sound : (es : List PlaybackEvent) → Fair es → Sound (play_run sequence tan es)
  sound es f = keeps_all sequence whole es (going blank_playback tan) f (sound_start tan)

  -- ---- 1. WHILE THE PLAYBACK GOES ON, STEP i LEAVES AT EXACTLY THE LATEST OF THE TICKS

  pub leaves_exactly : (es : List PlaybackEvent) → Fair es → Going (play_run sequence tan es)
      → (i t : ℕ) → HasLeftAt (play_run sequence tan es) i t ↔ (Latest sequence (ticks_of es) i t × (t ≤ length (ticks_of es)))
  leaves_exactly es f g i t =
      let s = play_run sequence tan es in
      let iff = theorems.leaves_exactly (marks_in sequence) (events es) (subst abs.QueueLasts (run_is es f) (lasts s g)) i t in (
        λ h.
            let r = iff.0 (rw (run_is es f) at (left_to s (sound es f) i t h)) in
            (to_latest sequence whole (events es) (ticks_of es) (events_ticks es) i t r.0, rw (events_ticks es) at r.1),
        λ h.
            left_from s (sound es f) i t
            (rw (run_is es f) (iff.1 (from_latest sequence whole (events es) (ticks_of es) (events_ticks es) i t h.0, rw (events_ticks es) h.1))),
      )

-- ---- while one of the steps up to i is not yet due, step i does not leave

pub not_yet_due : (sequence : Sequence) → Whole sequence → (tan : ℕ) (es : List PlaybackEvent) → Fair es → (i j : ℕ) → j ≤ i
    → ((d : ℕ) → ¬ DueAt sequence (ticks_of es) j d) → (t : ℕ) → ¬ HasLeftAt (play_run sequence tan es) i t
not_yet_due sequence whole tan es f i j h none t l =
    let p = ((leaves_exactly sequence whole tan es f (left_going (play_run sequence tan es) i t l) i t).0 l).0.none_later j h in
    none p.0 p.1

-- ---- 2. MESSAGES DO NOT MOVE THE LEAVINGS: THE SAME TICKS GIVE THE SAME LEAVINGS, WHATEVER THE TAN

pub messages_do_not_move : (sequence : Sequence) → Whole sequence → (tan tan' : ℕ) (es fs : List PlaybackEvent) → Fair es → Fair fs
    → Going (play_run sequence tan es) → Going (play_run sequence tan' fs) → ticks_of es ≡ ticks_of fs
    → (i t : ℕ) → HasLeftAt (play_run sequence tan es) i t → HasLeftAt (play_run sequence tan' fs) i t
messages_do_not_move sequence whole tan tan' es fs fe ff ge gf e i t h =
    (leaves_exactly sequence whole tan' fs ff gf i t).1 (rw e at ((leaves_exactly sequence whole tan es fe ge i t).0 h))

-- ---- 3. BY THE SIXTEENTH TICK AFTER A STEP FIRST LEFT, IT IS ANSWERED OR THE PLAYBACK IS OVER

seen_append : (sequence : Sequence) (a b : List PlaybackEvent) (s : State) → seen_all sequence s (a ++ b) ≡ seen_all sequence s a ++ seen_all sequence (play_run_from sequence s a) b
seen_append sequence [] b s = refl
seen_append sequence (e ∷ a) b s = ap (λ (l : List abs.QueueEvent). seen sequence s e ∷ l) (seen_append sequence a b (step_of sequence s e))

fair_left : (a b : List PlaybackEvent) → Fair (a ++ b) → Fair a
fair_left [] b f = tt
fair_left (tick mm ∷ a) b f = (f.0, fair_left a b f.1)
fair_left (answer c r ∷ a) b f = fair_left a b f
fair_left (message ∷ a) b f = fair_left a b f
fair_left (ends ∷ a) b f = fair_left a b f

answered_from : (sequence : Sequence) (s : State) (i : ℕ) → Sound s → Finished sequence s → i < length_of sequence
    → abs.QueueAnswered (project s) i ⊎ (project s ≡ abs.over) → AnsweredAt s i ⊎ (s ≡ aborted)
answered_from sequence (going p tan) i g f k (inl a) = inl (answered_back p.sent p.commands i a)
answered_from sequence (going p tan) i g f k (inr e) = let z : ◌≡◌ {A = ℕ} 0 1 = cc in absurd (omega arith)
answered_from sequence (done p) i g f k h = let d = each_done sequence p g f i k in inl (d.0, λ z. omega (arith, d.1))
answered_from sequence aborted i g f k h = inr refl

-- a step that is due is one of the sequence
pub due_step : (sequence : Sequence) (mms : List ℕ) (i t : ℕ) → DueAt sequence mms i t → i < length_of sequence
due_step sequence mms i t d = d.reaching.there

pub sixteen : (sequence : Sequence) → Whole sequence → (tan : ℕ) (a b : List PlaybackEvent) → Fair (a ++ b)
    → (i t : ℕ) → HasLeftAt (play_run sequence tan a) i t → t + answer_ticks ≤ length (ticks_of (a ++ b))
    → AnsweredAt (play_run sequence tan (a ++ b)) i ⊎ (play_run sequence tan (a ++ b) ≡ aborted)
unfolding events
sixteen sequence whole tan a b f i t h l =
    let s = play_run sequence tan a in
    let fa = fair_left a b f in
    let e = seen_append sequence a b (going blank_playback tan) in
    let m = ((leaves_exactly sequence whole tan a fa (left_going s i t h) i t).0 h).0.none_later i (omega arith) in
    answered_from sequence (play_run sequence tan (a ++ b)) i (sound sequence whole tan (a ++ b) f) (finished sequence (a ++ b) (going blank_playback tan) tt)
    (due_step sequence (ticks_of a) i m.0 m.1)
    (rw (run_is sequence whole tan (a ++ b) f, e)
    (theorems.sixteen (marks_in sequence) (events sequence whole tan a) (seen_all sequence s b) i t
    (rw (run_is sequence whole tan a fa) at (left_to s (sound sequence whole tan a fa) i t h))
    (rw (← e, same_ticks sequence (a ++ b) (going blank_playback tan)) l)))

-- ---- 4. A PLAYBACK COUNTS ITS TICKS

module _ (sequence : Sequence) (whole : Whole sequence) (tan : ℕ) where
  pub ticks_are : (es : List PlaybackEvent) → Fair es → (p : Playback) (x : ℕ) → play_run sequence tan es ≡ going p x → p.ticks ≡ length (ticks_of es)
  ticks_are es f p x e =
      let m : queue.Matched (marks_in sequence) (abs.tick_list (events sequence whole tan es)) [] (abs.playing (played p)) =
      subst (λ (s : abs.Queue). queue.Matched (marks_in sequence) (abs.tick_list (events sequence whole tan es)) [] s)
      (sym (run_is sequence whole tan es f) ∙ ap project e)
      (queue.follows (marks_in sequence) (events sequence whole tan es)) in
      omega (arith, m.within, length-drop p.ticks (abs.tick_list (events sequence whole tan es)), ap length m.ahead, ap length (events_ticks sequence whole tan es))
