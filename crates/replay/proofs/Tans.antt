-- "The TAN .. rises by 1 before each new command, 255 to 0": the TAN of step i is that of the last command before the playback, raised
-- i + 1 times.
use mathlib.Core.Path.{◌≡◌, refl, ap, ◌∙◌, subst}
use mathlib.Core.Bool.{Bool, true, false}
use mathlib.Core.List.{List, [], ◌∷◌}
use mathlib.Core.Logic.{inl, inr, ◌⊎◌}
use Prim.Native.Nat.{ℕ, ◌≤◌, ◌<◌}
use native.Mathlib.Nat.{eq-or-lt_of_le}
use native.Mathlib.Numerals.{add-one}
use native.Mathlib.Omega.{arith}
use lib.ListN.{length, get_or, set}
use lib.Seq.{get_or-set_same, get_or-set_other}
use Rattle.message.specs.Fields.{status_number}
use Rattle.arrays.specs.Arrays.{more}
use Rattle.sequence.specs.Sequence.{length_of}
use Rattle.sequence.specs.declared.Sequence.{Sequence}
use Rattle.playback.specs.declared.Sent.{Sent}
use Rattle.playback.specs.declared.Playback.{Playback}
use Rattle.playback.specs.State.{answer_none, blank_sent, blank_playback}
use Rattle.playback.specs.Tick.{counted_playback, does_stop, does_leave, next_tan, after_leaving}
use Rattle.playback.specs.Answer.{with_answer}
use Rattle.playback.specs.Answer as ans
use Rattle.playback.proofs.Leaves.{leaves_within}
use Rattle.replay.specs.Run.{PlaybackEvent, tick, answer, message, ends, State, going, done, aborted, step_of, play_run_from, play_run, Whole, Fair, raised, Raised}
use Rattle.replay.proofs.Cells.{marked_tan}
use Rattle.replay.proofs.Follows.{tick_state, tick_shape, Verdict, nothing, fails, finishes, marks, answer_state, answer_shape, matched, verdict_of, Sound, sound_start, fair_head, fair_tail, keeps}

module _ (start : ℕ) where
  abbrev Tans : State → Type 0
  Tans (going p tan) = Raised start p tan
  Tans (done p) = Unit {0}
  Tans aborted = Unit {0}

  tans_tick : (a b : Bool) (p : Playback) (mm tan : ℕ) → length p.commands ≡ 64 → (b ≡ true → p.sent < 64) → Raised start p tan → Tans (tick_state a b (counted_playback p mm) tan)
  unfolding counted_playback after_leaving
  tans_tick true b p mm tan n w h = tt
  tans_tick false false p mm tan n w h = record { last = h.last; each = h.each }
  tans_tick false true p mm tan n w h =
      record { last = rw add-one (ap next_tan h.last); each = λ i k. let m : i ≤ p.sent = omega arith in go i (eq-or-lt_of_le m) }
    where
      go : (i : ℕ) → (i ≡ p.sent) ⊎ (i < p.sent)
          → (get_or (set p.commands p.sent (record { tan = next_tan tan; answer = answer_none; left = more p.ticks 1 })) i blank_sent).tan ≡ next_tan (raised start i)
      go i (inl e) = rw e (ap (λ (c : Sent). c.tan) (get_or-set_same p.commands p.sent _ blank_sent (omega (arith, w refl))) ∙ ap next_tan h.last)
      go i (inr l) = ap (λ (c : Sent). c.tan) (get_or-set_other p.commands p.sent i _ blank_sent (λ e. omega arith)) ∙ h.each i l

  tans_answer : (v : Verdict) (p : Playback) (j a tan : ℕ) → Raised start p tan → Tans (answer_state v p (with_answer p j a) tan)
  unfolding with_answer
  tans_answer nothing p j a tan h = h
  tans_answer fails p j a tan h = tt
  tans_answer finishes p j a tan h = tt
  tans_answer marks p j a tan h = record { last = h.last; each = λ i k. marked_tan p.commands j i a ∙ h.each i k }

  module _ (sequence : Sequence) (whole : Whole sequence) where
    tans_step : (s : State) (e : PlaybackEvent) → Sound s → Tans s → Tans (step_of sequence s e)
    unfolding counted_playback
    tans_step (done p) e g h = tt
    tans_step aborted e g h = tt
    tans_step (going p tan) (tick mm) g h =
        rw tick_shape (tans_tick (does_stop (counted_playback p mm)) (does_leave (counted_playback p mm) sequence.steps (length_of sequence)) p mm tan g.cells (leaves_within (counted_playback p mm) sequence.steps (length_of sequence)) h)
    tans_step (going p tan) (answer slot reply) g h =
        rw answer_shape
        (tans_answer (verdict_of sequence p slot reply) p (matched sequence p slot reply) (ans.answer_from (status_number reply.status)) tan h)
    tans_step (going p tan) message g h = h
    tans_step (going p tan) ends g h = tt

    tans : (es : List PlaybackEvent) (s : State) → Fair es → Sound s → Tans s → Tans (play_run_from sequence s es)
    tans [] s f g h = h
    tans (e ∷ es) s f g h = tans es (step_of sequence s e) (fair_tail e es f) (keeps sequence whole s e (fair_head e es f) g) (tans_step s e g h)

    tans_start : Tans (going blank_playback start)
    unfolding blank_playback
    tans_start = record { last = refl; each = λ i k. absurd (omega arith) }

    -- THE LAST TAN, AND THE TAN OF EACH STEP THAT HAS LEFT
    pub raised_tans : (es : List PlaybackEvent) → Fair es → (p : Playback) (tan : ℕ) → play_run sequence start es ≡ going p tan → Raised start p tan
    raised_tans es f p tan e = subst Tans e (tans es (going blank_playback start) f (sound_start start) tans_start)
