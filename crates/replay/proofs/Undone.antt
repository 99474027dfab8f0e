-- While a playback lasts, not every step is done.
use mathlib.Core.Path.{◌≡◌, refl, ap, subst}
use mathlib.Core.Bool.{Bool, true, false}
use mathlib.Core.List.{List, [], ◌∷◌}
use Prim.Native.Nat.{ℕ, ◌<◌}
use native.Mathlib.Omega.{arith}
use borrow.Author.Tests.{lt-leb, ltb-true}
use lib.Dec.{eqb, leb, ltb}
use lib.ListN.{get_or}
use lib.Seq.{get_or-set_same}
use Rattle.message.specs.Fields.{status_number}
use Rattle.sequence.specs.Sequence.{length_of}
use Rattle.sequence.specs.declared.Sequence.{Sequence}
use Rattle.playback.specs.declared.Sent.{Sent}
use Rattle.playback.specs.declared.Playback.{Playback}
use Rattle.playback.specs.State.{answer_none, answer_done, blank_sent, blank_playback}
use Rattle.playback.specs.Tick.{counted_playback, does_stop, does_leave, next_tan, after_leaving}
use Rattle.playback.specs.Answer.{is_error, is_all_done}
use Rattle.playback.proofs.Leaves.{leaves_within, leaves_step}
use Rattle.replay.specs.Run.{PlaybackEvent, tick, answer, message, ends, State, going, done, aborted, step_of, play_run_from, play_run, Whole, Fair, sent_at}
use Rattle.replay.proofs.Follows.{Good, Sound, sound_start, tick_state, tick_shape, verdict, answer_state, answer_shape, matched, heard, FairOne, fair_head, fair_tail, keeps}
use Rattle.replay.proofs.Done.{each_done, both}

module _ (sequence : Sequence) (whole : Whole sequence) where
  abbrev Undone : State → Type 0
  Undone (going p tan) = is_all_done p (length_of sequence) ≡ false
  Undone (done p) = Unit {0}
  Undone aborted = Unit {0}

  -- the step that leaves is not done
  undone_left : (p : Playback) (tan mm : ℕ) → Good p → Sound (going (after_leaving (counted_playback p mm) (next_tan tan)) (next_tan tan))
      → does_leave (counted_playback p mm) sequence.steps (length_of sequence) ≡ true
      → (b : Bool) → is_all_done (after_leaving (counted_playback p mm) (next_tan tan)) (length_of sequence) ≡ b → b ≡ false
  unfolding counted_playback after_leaving
  undone_left p tan mm g k l false e = refl
  undone_left p tan mm g k l true e = absurd (omega (arith, (each_done sequence (after_leaving (counted_playback p mm) (next_tan tan)) k e p.sent there).1, cell))
    where
      there : p.sent < length_of sequence
      there = ltb-true _ _ (both (ltb p.sent (length_of sequence)) _ (rw leaves_step at l)).0

      cell : (sent_at (after_leaving (counted_playback p mm) (next_tan tan)) p.sent).answer ≡ answer_none
      cell =
          ap (λ (c : Sent). c.answer)
          (get_or-set_same p.commands p.sent _ blank_sent
          (omega (arith, g.cells, leaves_within (counted_playback p mm) sequence.steps (length_of sequence) l)))

  undone_tick : (p : Playback) (tan mm : ℕ) → Good p → is_all_done p (length_of sequence) ≡ false → (a b : Bool)
      → does_leave (counted_playback p mm) sequence.steps (length_of sequence) ≡ b → Sound (tick_state a b (counted_playback p mm) tan)
      → Undone (tick_state a b (counted_playback p mm) tan)
  unfolding counted_playback is_all_done
  undone_tick p tan mm g h true b l k = tt
  undone_tick p tan mm g h false false l k = h
  undone_tick p tan mm g h false true l k = undone_left p tan mm g k l _ refl

  undone_answer : (a b c d : Bool) (p q : Playback) (tan : ℕ) → is_all_done p (length_of sequence) ≡ false → is_all_done q (length_of sequence) ≡ d
      → Undone (answer_state (verdict a b c d) p q tan)
  undone_answer true b c d p q tan h e = h
  undone_answer false true c d p q tan h e = h
  undone_answer false false true d p q tan h e = tt
  undone_answer false false false true p q tan h e = tt
  undone_answer false false false false p q tan h e = e

  undone_step : (s : State) (e : PlaybackEvent) → FairOne e → Sound s → Undone s → Undone (step_of sequence s e)
  undone_step (done p) e f g h = tt
  undone_step aborted e f g h = tt
  undone_step (going p tan) (tick mm) f g h =
      rw tick_shape
      (undone_tick p tan mm g h (does_stop (counted_playback p mm)) (does_leave (counted_playback p mm) sequence.steps (length_of sequence)) refl
      (subst Sound (tick_shape p sequence tan mm) (keeps sequence whole (going p tan) (tick mm) f g)))
  undone_step (going p tan) (answer slot reply) f g h =
      rw answer_shape
      (undone_answer (leb 64 (matched sequence p slot reply)) (eqb (get_or p.commands (matched sequence p slot reply) blank_sent).answer answer_done)
      (is_error (status_number reply.status) reply.error) (is_all_done (heard sequence p slot reply) (length_of sequence)) p (heard sequence p slot reply) tan h refl)
  undone_step (going p tan) message f g h = h
  undone_step (going p tan) ends f g h = tt

  undone_from : (es : List PlaybackEvent) (s : State) → Fair es → Sound s → Undone s → Undone (play_run_from sequence s es)
  undone_from [] s f g h = h
  undone_from (e ∷ es) s f g h =
      undone_from es (step_of sequence s e) (fair_tail e es f) (keeps sequence whole s e (fair_head e es f) g) (undone_step s e (fair_head e es f) g h)

  undone_start : (tan : ℕ) → 0 < length_of sequence → Undone (going blank_playback tan)
  unfolding blank_playback is_all_done
  undone_start tan h = rw (lt-leb (length_of sequence) 0 h)

  -- NOT EVERY STEP IS DONE
  pub undone : (tan : ℕ) → 0 < length_of sequence → (es : List PlaybackEvent) → Fair es → (p : Playback) (x : ℕ) → play_run sequence tan es ≡ going p x
      → is_all_done p (length_of sequence) ≡ false
  undone tan h es f p x e = subst Undone e (undone_from es (going blank_playback tan) f (sound_start tan) (undone_start tan h))
