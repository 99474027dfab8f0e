-- A playback ends for a reason, and in time.
use mathlib.Core.Path.{◌≡◌, refl, sym, ap, ◌∙◌, subst}
use mathlib.Core.Logic.{◌⊎◌, inl, inr}
use mathlib.Core.Bool.{Bool, true, false, ◌&&◌, ◌||◌, true≢false, or-true}
use mathlib.Core.List.{List, [], ◌∷◌}
use Prim.Native.Nat.{ℕ, zero, suc, ◌+◌, ◌≤◌, ◌<◌}
use native.Mathlib.Omega.{arith}
use borrow.Author.Tests.{le-leb, leb-true, eq-eqb, eqb-true}
use lib.Dec.{eqb, leb}
use lib.ListN.{length, get_or, take}
use Rattle.sequence.specs.Sequence.{last_tick, length_of}
use Rattle.sequence.specs.declared.Sequence.{Sequence}
use Rattle.playback.specs.declared.Sent.{Sent}
use Rattle.playback.specs.declared.Playback.{Playback}
use Rattle.playback.specs.Answer.{Answered}
use Rattle.octets.specs.Pick.{pick}
use Rattle.arrays.specs.Arrays.{some}
use Rattle.playback.specs.State.{answer_none, answer_done, goes_on, blank_sent, blank_playback}
use Rattle.playback.specs.Tick.{answer_ticks, counted_playback, is_late, some_late, does_stop, does_leave}
use Rattle.playback.specs.Answer.{answered_of}
use Rattle.replay.specs.Run.{PlaybackEvent, tick, answer, message, ends, State, going, done, aborted, after_answer, step_of, play_run, Going, Whole, Fair, ticks_of, sent_at, PlaybackCause, outside, answered, too_long, no_answer}
use Rattle.replay.proofs.Cells.{marks_in}
use Rattle.replay.proofs.Follows.{project, tick_state, tick_shape, ticks_counted, sent_counted, commands_counted, Good, Sound}
use Rattle.replay.proofs.Done.{Finished, finished, each_done}
use Rattle.replay.proofs.Theorems.{events, run_is, events_ticks, sound}
use Rattle.ticks.specs.Queue as abs
use Rattle.ticks.proofs.Theorems as theorems

either : (a b : Bool) → (a || b) ≡ true → (a ≡ true) ⊎ (b ≡ true)
either true b e = inl refl
either false b e = inr e

both : (a b : Bool) → (a && b) ≡ true → (a ≡ true) × (b ≡ true)
both true b e = (refl, e)
both false b e = absurd (true≢false (sym e))

record Late (t n : ℕ) (cs : List Sent) : Type 0 where
  i : ℕ
  has_left : i < n
  waits : (get_or cs i blank_sent).answer ≡ answer_none
  long_ago : (get_or cs i blank_sent).left + answer_ticks ≤ t

late : (t n : ℕ) (cs : List Sent) → some (is_late t) (take n cs) ≡ true → Late t n cs
late t zero cs e = absurd (true≢false (sym e))
late t (suc n) [] e = absurd (true≢false (sym e))
late t (suc n) (c ∷ cs) e = go (either (is_late t c) (some (is_late t) (take n cs)) e) (λ f. late t n cs f)
  where
    go : (is_late t c ≡ true) ⊎ (some (is_late t) (take n cs) ≡ true) → (some (is_late t) (take n cs) ≡ true → Late t n cs) → Late t (suc n) (c ∷ cs)
    go (inl f) r =
        let w = both (eqb c.answer answer_none) (leb (c.left + answer_ticks) t) f in
        record { i = 0; has_left = omega arith; waits = eqb-true c.answer answer_none w.0; long_ago = leb-true (c.left + answer_ticks) t w.1 }
    go (inr f) r = let l = r f in record { i = suc l.i; has_left = omega (arith, l.has_left); waits = l.waits; long_ago = l.long_ago }

-- and the other way
is_late_lem : (t n : ℕ) (cs : List Sent) (i : ℕ) → i < n → n ≤ length cs → (get_or cs i blank_sent).answer ≡ answer_none → (get_or cs i blank_sent).left + answer_ticks ≤ t
    → some (is_late t) (take n cs) ≡ true
is_late_lem t zero cs i h k w l = absurd (omega arith)
is_late_lem t (suc n) [] i h k w l = absurd (omega arith)
is_late_lem t (suc n) (c ∷ cs) zero h k w l = rw (eq-eqb c.answer answer_none w, le-leb (c.left + answer_ticks) t l)
is_late_lem t (suc n) (c ∷ cs) (suc i) h k w l = rw (is_late_lem t n cs i (omega arith) (omega arith) w l) (or-true (is_late t c))

stopped : (a b : Bool) (q : Playback) (tan : ℕ) → ¬ Going (tick_state a b q tan) → a ≡ true
stopped true b q tan e = refl
stopped false true q tan e = absurd (e tt)
stopped false false q tan e = absurd (e tt)

not_over : (r : Answered) (tan : ℕ) → ¬ Going (after_answer tan r) → r.end ≡ goes_on → ⊥
unfolding pick after_answer
not_over r tan e z = e (rw z tt)

module _ (sequence : Sequence) (whole : Whole sequence) (tan : ℕ) where
  -- NOTHING ELSE ENDS IT
  pub over_for_a_cause : (es : List PlaybackEvent) → Fair es → (p : Playback) (x : ℕ) → play_run sequence tan es ≡ going p x
      → (e : PlaybackEvent) → Fair (e ∷ []) → ¬ Going (step_of sequence (going p x) e) → PlaybackCause sequence p e
  unfolding does_stop some_late
  over_for_a_cause es f p x r (tick mm) g o =
      let good = subst Sound r (sound sequence whole tan es f) in
      go (either (leb last_tick (suc p.ticks)) (some (is_late (suc p.ticks)) (take p.sent p.commands))
      (rw (ticks_counted p mm good g.0, sent_counted p mm good g.0, commands_counted p mm good g.0)
      at (stopped (does_stop (counted_playback p mm)) (does_leave (counted_playback p mm) sequence.steps (length_of sequence)) (counted_playback p mm) x (rw tick_shape at o))))
    where
      go : (leb last_tick (suc p.ticks) ≡ true) ⊎ (some (is_late (suc p.ticks)) (take p.sent p.commands) ≡ true) → PlaybackCause sequence p (tick mm)
      go (inl h) = too_long mm (omega (arith, leb-true last_tick (suc p.ticks) h))
      go (inr h) = let l = late (suc p.ticks) p.sent p.commands h in no_answer mm l.i l.has_left l.waits (omega (arith, l.long_ago))
  over_for_a_cause es f p x r (answer slot reply) g o =
      answered slot reply (not_over (answered_of p sequence slot reply) x o)
  over_for_a_cause es f p x r message g o = absurd (o tt)
  over_for_a_cause es f p x r ends g o = outside

  -- AND A TICK WITH SUCH A CAUSE ABORTS IT
  pub aborts_for_a_cause : (p : Playback) → Good p → (x mm : ℕ) → mm ≤ 65535 → PlaybackCause sequence p (tick mm) → step_of sequence (going p x) (tick mm) ≡ aborted
  unfolding does_stop some_late
  aborts_for_a_cause p g x mm f c =
      tick_shape p sequence x mm
      ∙ ap (λ (b : Bool). tick_state b (does_leave (counted_playback p mm) sequence.steps (length_of sequence)) (counted_playback p mm) x) (stops c)
    where
      stops : PlaybackCause sequence p (tick mm) → does_stop (counted_playback p mm) ≡ true
      stops (too_long _ h) = rw (ticks_counted p mm g f, le-leb last_tick (suc p.ticks) (omega (arith, h)))
      stops (no_answer _ i a w h) =
          rw (ticks_counted p mm g f, sent_counted p mm g f, commands_counted p mm g f, is_late_lem (suc p.ticks) p.sent p.commands i a (omega (arith, g.cells, g.within)) w (omega (arith, h)))
          (or-true (leb last_tick (suc p.ticks)))

  over_is : (s : State) → project s ≡ abs.over → ¬ Going s
  over_is (done p) e g = g
  over_is aborted e g = g
  over_is (going p x) e g = let z : ◌≡◌ {A = ℕ} 0 1 = cc in omega arith

  -- TICK 36,000 ENDS EVERY PLAYBACK
  pub ends_in_time : (es : List PlaybackEvent) → Fair es → last_tick ≤ length (ticks_of es) → ¬ Going (play_run sequence tan es)
  ends_in_time es f h =
      over_is (play_run sequence tan es)
      (run_is sequence whole tan es f ∙ theorems.ends_in_time (marks_in sequence) (events sequence whole tan es) (omega (arith, ap length (events_ticks sequence whole tan es))))

  -- WHERE ALL STEPS ARE DONE, EACH HAS LEFT AND IS DONE
  pub all_done : (es : List PlaybackEvent) → Fair es → (p : Playback) → play_run sequence tan es ≡ done p
      → (i : ℕ) → i < length_of sequence → (i < p.sent) × ((sent_at p i).answer ≡ answer_done)
  all_done es f p e i k =
      each_done sequence p (subst Sound e (sound sequence whole tan es f)) (subst (Finished sequence) e (finished sequence es (going blank_playback tan) tt)) i k
