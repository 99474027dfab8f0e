-- A call takes the master out of a playback exactly where it is accepted and 01 names a cause, in the words of what is seen.
use mathlib.Core.Path.{◌≡◌, refl, sym, ap, ◌∙◌, subst}
use mathlib.Core.Bool.{Bool, true}
use mathlib.Core.Logic.{◌↔◌, ◌⊎◌, inl, inr}
use mathlib.Core.List.{List}
use Prim.Native.Nat.{ℕ}
use native.Mathlib.Omega.{arith}
use borrow.Author.Tests.{eq-eqb, eqb-true, eqb-false}
use lib.ListN.{length}
use Rattle.octets.specs.Pick.{pick}
use Rattle.sequence.specs.Sequence.{length_of}
use Rattle.sequence.specs.declared.Sequence.{Sequence}
use Rattle.playback.specs.Answer.{has_function}
use Rattle.master.specs.declared.Master.{Master}
use Rattle.master.specs.Call.{slot_at}
use Rattle.master.specs.States as states
use Rattle.master.specs.States.{ended}
use Rattle.master.specs.Messages.{execution_in}
use Rattle.master.specs.Clients as clients
use Rattle.master.specs.Clients.{report_from, is_over, end_of, followed, reported, report_call, lost_call}
use Rattle.master.specs.Recording.{interrupted, heard, indication_call}
use Rattle.master.specs.Playback.{abort_call, client_abort_call}
use Rattle.replay.specs.Run.{going, aborted, step_of, Going, sent_at}
use Rattle.replay.specs.Run as replay
use Rattle.replay.proofs.Why as why
use Rattle.events.specs.Events.{Event, abort, report, lost, indication, client_abort, tick, call_of, apply, run_from}
use Rattle.events.proofs.Outside as outside
use Rattle.events.proofs.Calls.{after_is}
use Rattle.events.proofs.Choices.{either, is_true}
use Rattle.plays.specs.Plays.{Started, Playing, Lasts, ticks_in}
use Rattle.seen.specs.{Words.nth, Words.Enabled, Written.IsStep}
use Rattle.seen.proofs.Tests.{is_indication_lem, to_enabled, from_enabled}
use Rattle.seen.proofs.Bytes.{is_step, without_step}
use Rattle.plays.specs.Ends.{Cause, operator, client_aborts, client_lost, client_reports, interrupts, answers_error, is_last, too_long, no_answer}
use Rattle.plays.proofs.Calls.{Aside, Stays, keeps, aborts, stays, Shows, View, a_tick, an_answer, another, view, one}
use Rattle.plays.proofs.Runs.{seen_all, whole_at, accepted_mm, fair, lasts_last, lasting, begins, run_is}
use Rattle.plays.proofs.Bytes.{its_function_is, its_status_is}
use Rattle.plays.proofs.Commands.{steps_few}
use Rattle.plays.proofs.Theorems.{leaves_exactly, ticks_are, not_long_ago, good, goes_shown, shows_aborted, not_refused, seen_tick}
use Rattle.plays.proofs.Replies.{replies}
use Rattle.plays.proofs.LastAnswers as answers

module _ (m : Master) (s : Started m) (es : List Event) (l : Lasts m es) where
  abbrev now : Master
  now = run_from m es

  playing : Playing now
  playing = lasts_last es m l

  same_length : length_of now.sequence ≡ length_of m.sequence
  same_length = answers.same_length m s es l

  -- ---- a tick

  ticks_now : now.playback.ticks ≡ length (ticks_in m es)
  ticks_now = ticks_are m s es l

  ticked_out : (mm : ℕ) (out : List ℕ) → ¬ Playing (apply now (tick mm out)).master → (apply now (tick mm out)).number ≡ 0
      → ¬ Going (step_of m.sequence (going now.playback now.tan) (replay.tick mm))
  ticked_out mm out np z g =
      np
      (goes_shown now.sequence (apply now (tick mm out)).master _ (one now (tick mm out) playing)
      (rw (seen_tick now mm out (eq-eqb _ 0 z), (lasting es m l).1) g))

  tick_state : (mm : ℕ) (out : List ℕ) → (apply now (tick mm out)).number ≡ 0 → replay.PlaybackCause now.sequence now.playback (replay.tick mm)
      → (apply now (tick mm out)).master.state ≡ states.abort
  tick_state mm out z c =
      shows_aborted now.sequence (apply now (tick mm out)).master
      (subst (Shows now.sequence (apply now (tick mm out)).master)
      (ap (step_of now.sequence (going now.playback now.tan)) (seen_tick now mm out (eq-eqb _ 0 z))
      ∙ why.aborts_for_a_cause now.sequence (whole_at m s es l) now.tan now.playback (good m s es l) now.tan mm (accepted_mm now mm out (eq-eqb _ 0 z)) c)
      (one now (tick mm out) playing))

  tick_cause : (mm : ℕ) (out : List ℕ) → replay.PlaybackCause m.sequence now.playback (replay.tick mm) → Cause m es (tick mm out) states.abort
  tick_cause mm out (replay.too_long _ h) = too_long mm out (omega (arith, h, ticks_now, (good m s es l).early))
  tick_cause mm out (replay.no_answer _ i a w h) =
      let t = (sent_at now.playback i).left in
      no_answer mm out i t ((leaves_exactly m s es l i t).0 (a, refl)).0 (omega (arith, h, ticks_now, not_long_ago m s es l i t a w refl)) (λ r. ((replies m s es l i).1 r).1 w)

  ended_by_tick : (mm : ℕ) (out : List ℕ) (state : ℕ) → (apply now (tick mm out)).master.state ≡ state → (state ≡ states.playback → ⊥)
      → (apply now (tick mm out)).number ≡ 0 → Cause m es (tick mm out) state
  ended_by_tick mm out state q np z =
      let b = begins m s in
      let c =
      why.over_for_a_cause m.sequence b.whole m.tan (seen_all m es) (fair m es) now.playback now.tan (run_is m b es l) (replay.tick mm)
      (accepted_mm now mm out (eq-eqb _ 0 z), tt) (ticked_out mm out (λ x. np (sym q ∙ x)) z) in
      let k = subst (λ (x : Sequence). replay.PlaybackCause x now.playback (replay.tick mm)) (sym (lasting es m l).1) c in
      subst (Cause m es (tick mm out)) (sym (tick_state mm out z k) ∙ q) (tick_cause mm out c)

  -- ---- every other call

  function_step : (slot function : ℕ) → has_function now.sequence slot function ≡ true → IsStep m slot function
  function_step slot function e = is_step m slot function (subst (λ (q : Sequence). has_function q slot function ≡ true) (lasting es m l).1 e)

  step_function : (slot function : ℕ) → IsStep m slot function → has_function now.sequence slot function ≡ true
  step_function slot function x =
      subst (λ (q : Sequence). has_function q slot function ≡ true) (sym (lasting es m l).1)
      (is_true _ (λ n. without_step m slot function (omega (arith, steps_few m s, (begins m s).whole)) n x))

  followed_state : (over : Bool) (n : Master) → over ≡ true → n.state ≡ states.playback → (followed over n).state ≡ states.abort
  unfolding followed end_of ended pick
  followed_state over n o p = rw (o, p)

  over_enabled : (slot said : ℕ) → Enabled (slot_at now slot) → (said ≡ 0) ⊎ ((said ≡ 2) ⊎ (said ≡ 5)) → is_over now.state (slot_at now slot) said ≡ true
  over_enabled slot said e (inl x) = rw (from_enabled _ e, playing, x)
  over_enabled slot said e (inr (inl x)) = rw (from_enabled _ e, playing, x)
  over_enabled slot said e (inr (inr x)) = rw (from_enabled _ e, playing, x)

  lost_state : (slot : ℕ) → Enabled (slot_at now slot) → (apply now (lost slot)).number ≡ 0 → (apply now (lost slot)).master.state ≡ states.abort
  unfolding lost_call clients.lost
  lost_state slot x z =
      ap (λ (n : Master). n.state) (after_is now (call_of now (lost slot)) z) ∙ followed_state _ _ (over_enabled slot 0 x (inl refl)) playing

  said_number : (number : ℕ) → (number ≡ 0) ⊎ ((number ≡ 2) ⊎ (number ≡ 5)) → report_from number ≡ number
  unfolding report_from pick
  said_number number (inl x) = rw x
  said_number number (inr (inl x)) = rw x
  said_number number (inr (inr x)) = rw x

  report_state : (slot number : ℕ) → Enabled (slot_at now slot) → (number ≡ 0) ⊎ ((number ≡ 2) ⊎ (number ≡ 5)) → (apply now (report slot number)).number ≡ 0
      → (apply now (report slot number)).master.state ≡ states.abort
  unfolding report_call reported
  report_state slot number x y z =
      ap (λ (n : Master). n.state) (after_is now (call_of now (report slot number)) z)
      ∙ followed_state _ _ (ap (is_over now.state (slot_at now slot)) (said_number number y) ∙ over_enabled slot number x y) playing

  interrupt_state : (slot : ℕ) (msg out : List ℕ) → IsStep m slot (nth 2 msg) → (apply now (indication slot msg out)).number ≡ 0
      → (apply now (indication slot msg out)).master.state ≡ states.abort
  unfolding indication_call heard interrupted ended pick
  interrupt_state slot msg out x z =
      ap (λ (n : Master). n.state) (after_is now (call_of now (indication slot msg out)) z)
      ∙ rw (
        playing,
        step_function slot (execution_in msg).function (subst (IsStep m slot) (sym (its_function_is msg (is_indication_lem now slot msg out z))) x),
      )

  to_cause : (e : Event) → outside.Outside now e → Cause m es e states.abort
  to_cause e outside.operator = operator
  to_cause e (outside.client_aborts slot msg x y) = client_aborts slot msg (to_enabled _ y)
  to_cause e (outside.client_lost slot y) = client_lost slot (to_enabled _ y)
  to_cause e (outside.client_reports slot number y w) = client_reports slot number (to_enabled _ y) w
  to_cause e (outside.interrupts slot msg out x y w f) =
      interrupts slot msg out (to_enabled _ y) (omega (arith, w, its_status_is msg x))
      (subst (IsStep m slot) (its_function_is msg x) (function_step slot (execution_in msg).function f))

  ended_aside : (e : Event) → Aside e → (state : ℕ) → (apply now e).master.state ≡ state → (state ≡ states.playback → ⊥) → Cause m es e state
  ended_aside e a state q np = go (stays now playing e a)
    where
      go : Stays now e (apply now e).master → Cause m es e state
      go (keeps x y z w) = absurd (np (sym q ∙ x))
      go (aborts c x) = subst (Cause m es e) (sym x ∙ q) (to_cause e c)

  -- NOTHING ELSE ENDS IT
  caused : (e : Event) (state : ℕ) → (apply now e).master.state ≡ state → (state ≡ states.playback → ⊥) → (apply now e).number ≡ 0 → View now e → Cause m es e state
  caused e state q np z (a_tick mm out) = ended_by_tick mm out state q np z
  caused e state q np z (an_answer slot msg out) = answers.ended_by m s es l slot msg out state q np z
  caused e state q np z (another a x y) = ended_aside e a state q np

  accepted : (e : Event) (state : ℕ) → (apply now e).master.state ≡ state → (state ≡ states.playback → ⊥) → (apply now e).number ≡ 0
  accepted e state q np = eqb-true _ 0 (not_refused now (call_of now e) playing (λ x. np (sym q ∙ x)))

  -- AND EACH CAUSE DOES
  led : (e : Event) (state : ℕ) → Cause m es e state → (apply now e).number ≡ 0 → (apply now e).master.state ≡ state
  unfolding abort_call client_abort_call ended
  led e state operator z = ap (λ (n : Master). n.state) (after_is now (call_of now abort) z)
  led e state (client_aborts slot msg x) z = ap (λ (n : Master). n.state) (after_is now (call_of now (client_abort slot msg)) z)
  led e state (client_lost slot x) z = lost_state slot x z
  led e state (client_reports slot number x y) z = report_state slot number x y z
  led e state (interrupts slot msg out x y w) z = interrupt_state slot msg out w z
  led e state (answers_error slot msg out i h d o x) z = answers.by_error m s es l slot msg out z i h d o x
  led e state (is_last slot msg out i h d o x y) z = answers.by_last m s es l slot msg out z i h d o x y
  led e state (too_long mm out x) z = tick_state mm out z (replay.too_long mm (omega (arith, x, ticks_now)))
  led e state (no_answer mm out i t x y w) z =
      let k = (leaves_exactly m s es l i t).1 (x, omega (arith, y)) in
      tick_state mm out z
      (replay.no_answer mm i k.0 (eqb-true _ _ (either _ (λ r. r) (λ r. absurd (w ((replies m s es l i).0 (k.0, eqb-false _ _ r))))))
      (omega (arith, k.1, y, ticks_now)))

  ends_there : (e : Event) (state : ℕ) → Cause m es e state → state ≡ states.playback → ⊥
  ends_there e state operator q = omega (arith, q)
  ends_there e state (client_aborts slot msg x) q = omega (arith, q)
  ends_there e state (client_lost slot x) q = omega (arith, q)
  ends_there e state (client_reports slot number x y) q = omega (arith, q)
  ends_there e state (interrupts slot msg out x y w) q = omega (arith, q)
  ends_there e state (answers_error slot msg out i h d o x) q = omega (arith, q)
  ends_there e state (is_last slot msg out i h d o x y) q = omega (arith, q)
  ends_there e state (too_long mm out x) q = omega (arith, q)
  ends_there e state (no_answer mm out i t x y w) q = omega (arith, q)

  pub why_ends : (e : Event) (state : ℕ) → (((apply now e).master.state ≡ state) × (state ≡ states.playback → ⊥)) ↔ (((apply now e).number ≡ 0) × Cause m es e state)
  why_ends e state = (
    λ h. let z = accepted e state h.0 h.1 in (z, caused e state h.0 h.1 z (view now e)),
    λ h. (led e state h.1 h.0, ends_there e state h.1),
  )
