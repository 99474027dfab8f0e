-- What stays of a step that has left, and the tick at which it leaves.
use mathlib.Core.Path.{◌≡◌, refl, ap, ◌∙◌, subst}
use mathlib.Core.Bool.{Bool, true, false}
use mathlib.Core.List.{List, [], ◌∷◌, ◌++◌}
use Prim.Native.Nat.{ℕ, suc, ◌≤◌, ◌<◌}
use native.Mathlib.Omega.{arith}
use lib.Seq.{get_or-set_same, get_or-set_other}
use Rattle.message.specs.Fields.{status_number}
use Rattle.message.specs.declared.Reply.{Reply}
use Rattle.arrays.specs.Arrays.{more}
use Rattle.sequence.specs.Sequence.{length_of}
use Rattle.sequence.specs.declared.Sequence.{Sequence}
use Rattle.playback.specs.declared.Sent.{Sent}
use Rattle.playback.specs.declared.Playback.{Playback}
use Rattle.playback.specs.State.{answer_none, blank_sent}
use Rattle.playback.specs.Tick.{counted_playback, does_stop, does_leave, next_tan, after_leaving}
use Rattle.playback.specs.Answer.{with_answer}
use Rattle.playback.specs.Answer as ans
use Rattle.playback.proofs.Leaves.{leaves_within}
use Rattle.replay.specs.Run.{PlaybackEvent, tick, answer, message, ends, State, going, done, aborted, step_of, play_run_from, Whole, sent_at}
use Rattle.replay.proofs.Cells.{marked_left, marked_tan}
use Rattle.replay.proofs.Follows.{tick_state, tick_shape, Verdict, nothing, fails, finishes, marks, answer_state, answer_shape, matched, verdict_of, Good, Sound, ticks_counted, keeps}

-- ---- a step that has left keeps its TAN and its tick, until the playback is over

abbrev pub Holds : ℕ → ℕ → ℕ → State → Type 0
Holds i x t (going p tan) = (i < p.sent) × ((sent_at p i).tan ≡ x) × ((sent_at p i).left ≡ t)
Holds i x t (done p) = Unit {0}
Holds i x t aborted = Unit {0}

module _ (i x t : ℕ) where
  holds_tick : (a b : Bool) (p : Playback) (mm tan : ℕ) → Holds i x t (going p tan) → Holds i x t (tick_state a b (counted_playback p mm) tan)
  unfolding counted_playback after_leaving
  holds_tick true b p mm tan h = tt
  holds_tick false true p mm tan h =
      let o = get_or-set_other p.commands p.sent i (record { tan = next_tan tan; answer = answer_none; left = more p.ticks 1 }) blank_sent (λ e. omega (arith, h.0)) in
      (omega (arith, h.0), ap (λ (c : Sent). c.tan) o ∙ h.1, ap (λ (c : Sent). c.left) o ∙ h.2)
  holds_tick false false p mm tan h = h

  holds_answer : (v : Verdict) (p : Playback) (j a tan : ℕ) → Holds i x t (going p tan) → Holds i x t (answer_state v p (with_answer p j a) tan)
  unfolding with_answer
  holds_answer nothing p j a tan h = h
  holds_answer fails p j a tan h = tt
  holds_answer finishes p j a tan h = tt
  holds_answer marks p j a tan h = (h.0, marked_tan p.commands j i a ∙ h.1, marked_left p.commands j i a ∙ h.2)

  module _ (sequence : Sequence) where
    holds_step : (s : State) (e : PlaybackEvent) → Holds i x t s → Holds i x t (step_of sequence s e)
    holds_step (done p) e h = tt
    holds_step aborted e h = tt
    holds_step (going p tan) (tick mm) h = rw tick_shape (holds_tick (does_stop (counted_playback p mm)) (does_leave (counted_playback p mm) sequence.steps (length_of sequence)) p mm tan h)
    holds_step (going p tan) (answer slot reply) h =
        rw answer_shape
        (holds_answer (verdict_of sequence p slot reply) p (matched sequence p slot reply) (ans.answer_from (status_number reply.status)) tan h)
    holds_step (going p tan) message h = h
    holds_step (going p tan) ends h = tt

    pub holds : (es : List PlaybackEvent) (s : State) → Holds i x t s → Holds i x t (play_run_from sequence s es)
    holds [] s h = h
    holds (e ∷ es) s h = holds es (step_of sequence s e) (holds_step s e h)

-- ---- where a step leaves

abbrev pub sent_of : State → ℕ
sent_of (going p tan) = p.sent
sent_of (done p) = 0
sent_of aborted = 0

pub run_append : (sequence : Sequence) (a b : List PlaybackEvent) (s : State) → play_run_from sequence s (a ++ b) ≡ play_run_from sequence (play_run_from sequence s a) b
run_append sequence [] b s = refl
run_append sequence (e ∷ a) b s = run_append sequence a b (step_of sequence s e)

-- a tick of the playback p lets step i leave
pub record Leaving (sequence : Sequence) (p : Playback) (tan mm i : ℕ) : Type 0 where
  pub after : Playback
  pub none : p.sent ≡ i
  pub now : step_of sequence (going p tan) (tick mm) ≡ going after (next_tan tan)
  pub one : after.sent ≡ suc i
  pub kept : Good after
  pub counted : after.ticks ≡ suc p.ticks
  pub cell : sent_at after i ≡ record { tan = next_tan tan; answer = answer_none; left = suc p.ticks }

module _ (sequence : Sequence) (whole : Whole sequence) (i : ℕ) where
  pub leaving_tick : (p : Playback) (g : Good p) (mm tan : ℕ) → mm ≤ 65535 → p.sent ≤ i → i < sent_of (step_of sequence (going p tan) (tick mm)) → Leaving sequence p tan mm i
  unfolding counted_playback after_leaving
  leaving_tick p g mm tan f h k =
      go (does_stop (counted_playback p mm)) (does_leave (counted_playback p mm) sequence.steps (length_of sequence)) (tick_shape p sequence tan mm) (leaves_within (counted_playback p mm) sequence.steps (length_of sequence))
      (subst (λ (s : State). i < sent_of s) (tick_shape p sequence tan mm) k)
    where
      go : (a b : Bool) → step_of sequence (going p tan) (tick mm) ≡ tick_state a b (counted_playback p mm) tan → (b ≡ true → (counted_playback p mm).sent < 64)
          → i < sent_of (tick_state a b (counted_playback p mm) tan) → Leaving sequence p tan mm i
      go true b e w l = absurd (omega arith)
      go false true e w l =
          let z : p.sent ≡ i = omega arith in
          record {
            after = after_leaving (counted_playback p mm) (next_tan tan);
            none = z;
            now = e;
            one = omega arith;
            kept = subst Sound e (keeps sequence whole (going p tan) (tick mm) (f, tt) g);
            counted = ticks_counted p mm g f;
            cell = rw (← z) (get_or-set_same p.commands p.sent _ blank_sent (omega (arith, w refl, g.cells)) ∙ rw (ticks_counted p mm g f));
          }
      go false false e w l = absurd (omega arith)

  same_sent : (v : Verdict) (p : Playback) (j a tan : ℕ) → sent_of (answer_state v p (with_answer p j a) tan) ≤ p.sent
  unfolding with_answer
  same_sent nothing p j a tan = omega arith
  same_sent fails p j a tan = omega arith
  same_sent finishes p j a tan = omega arith
  same_sent marks p j a tan = omega arith

  -- an answer lets no step leave
  pub answer_sent : (p : Playback) (tan slot : ℕ) (reply : Reply) → sent_of (step_of sequence (going p tan) (answer slot reply)) ≤ p.sent
  answer_sent p tan slot reply =
      rw answer_shape (same_sent (verdict_of sequence p slot reply) p (matched sequence p slot reply) (ans.answer_from (status_number reply.status)) tan)
