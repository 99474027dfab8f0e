-- Answers that end a playback: an error, and the one that makes the last step done.
use mathlib.Core.Path.{◌≡◌, refl, sym, ap, ◌∙◌, subst}
use mathlib.Core.Bool.{Bool, true, false, not, ◌||◌, true≢false, or-true}
use mathlib.Core.Logic.{◌⊎◌, inl, inr}
use mathlib.Core.List.{List}
use Prim.Native.Nat.{ℕ, zero, suc, ◌≤◌, ◌<◌}
use native.Mathlib.Omega.{arith}
use borrow.Author.Tests.{eq-eqb, ne_eqb, eqb-true, eqb-false, leb-true}
use lib.Dec.{eqb, leb}
use Rattle.message.specs.Fields.{status_number}
use Rattle.message.specs.declared.Reply.{Reply}
use Rattle.message.specs.declared.Status.{Status}
use Rattle.message.specs.declared.Status.TheVariants as status
use Rattle.message.specs.declared.Status.TheVariants.{AtOnce, Done, Failed}
use Rattle.sequence.specs.Sequence.{length_of}
use Rattle.playback.specs.declared.Playback.{Playback}
use Rattle.playback.specs.State.{answer_done}
use Rattle.playback.specs.Answer.{is_error, is_all_done}
use Rattle.master.specs.declared.Master.{Master}
use Rattle.master.specs.States as states
use Rattle.master.specs.Messages.{is_answer, reply_in}
use Rattle.replay.specs.Run.{going, step_of, sent_at}
use Rattle.replay.specs.Run as replay
use Rattle.replay.proofs.Follows as follows
use Rattle.replay.proofs.Follows.{Good, verdict, answer_state, answer_shape, matched, keeps_answer}
use Rattle.replay.proofs.Answers.{matching, marked_here, marked_other, same_sent}
use Rattle.replay.proofs.Done.{each_done, all_done_is}
use Rattle.events.specs.Events.{Event, answer, apply, run_from}
use Rattle.events.proofs.Choices.{either}
use Rattle.plays.specs.Plays.{Started, Playing, Lasts, HasLeft, IsOf, Finishing, Failing, SaidDone}
use Rattle.plays.specs.Ends.{Cause, answers_error, is_last}
use Rattle.plays.proofs.Calls.{Shows, one}
use Rattle.plays.proofs.Runs.{lasts_last, lasting}
use Rattle.plays.proofs.Bytes.{is_answer_lem, finishing_is, failing_is}
use Rattle.plays.proofs.Theorems.{good, left_seen, seen_left, is_step, shows_aborted, shows_done, shows_going, seen_answer}
use Rattle.plays.proofs.Replies.{found, found_is, matches_of, finishing, finishes, are_done}

failing : (status error : ℕ) → status < 4 → is_error status error ≡ true → (status ≡ 3) ⊎ (error ≡ 0 → ⊥)
failing status error l e = go (leb 3 status) (eqb error 0) refl refl e
  where
    go : (a b : Bool) → leb 3 status ≡ a → eqb error 0 ≡ b → (a || not b) ≡ true → (status ≡ 3) ⊎ (error ≡ 0 → ⊥)
    go true b x y z = let h = leb-true 3 status x in inl (omega (arith, h, l))
    go false false x y z = inr (eqb-false _ _ y)
    go false true x y z = absurd (true≢false (sym z))

fails : (status error : ℕ) → (status ≡ 3) ⊎ (error ≡ 0 → ⊥) → is_error status error ≡ true
fails status error (inl e) = rw e
fails status error (inr n) = rw (ne_eqb error 0 n) (or-true (leb 3 status))

no_error : (status error : ℕ) → (status ≡ 0) ⊎ (status ≡ 2) → error ≡ 0 → is_error status error ≡ false
no_error status error (inl a) e = rw (a, e)
no_error status error (inr a) e = rw (a, e)

two_bits : (s : Status) → status_number s < 4
two_bits AtOnce = omega arith
two_bits status.Started = omega arith
two_bits Done = omega arith
two_bits Failed = omega arith

-- ---- an answer, by its tests

module _ (m : Master) (s : Started m) (es : List Event) (l : Lasts m es) where
  abbrev now : Master
  now = run_from m es

  pub playing : Playing now
  playing = lasts_last es m l

  pub same_length : length_of now.sequence ≡ length_of m.sequence
  same_length = ap length_of (lasting es m l).1

  not_done : (i : ℕ) → i < now.playback.sent → ¬ SaidDone m es i → eqb (sent_at now.playback i).answer answer_done ≡ false
  not_done i h d = ne_eqb _ _ (λ z. d ((are_done m s es l i).0 (h, z)))

  not_said : (i : ℕ) → eqb (sent_at now.playback i).answer answer_done ≡ false → ¬ SaidDone m es i
  not_said i f d = eqb-false _ _ f ((are_done m s es l i).1 d).1

  module _ (slot : ℕ) (msg out : List ℕ) where
    abbrev reply : Reply
    reply = reply_in msg

    abbrev after : Master
    after = (apply now (answer slot msg out)).master

    abbrev which : ℕ
    which = matched now.sequence now.playback slot reply

    abbrev told : Playback
    told = follows.heard now.sequence now.playback slot reply

    good_heard : Good told
    good_heard = keeps_answer now.playback which (status_number reply.status) 0 follows.marks (good m s es l)

    shape : (apply now (answer slot msg out)).number ≡ 0
        → Shows now.sequence after
        (answer_state (verdict (leb 64 which) (eqb (sent_at now.playback which).answer answer_done) (is_error (status_number reply.status) reply.error)
        (is_all_done told (length_of now.sequence))) now.playback told now.tan)
    shape z =
        subst (Shows now.sequence after) (answer_shape now.sequence now.playback slot reply now.tan)
        (subst (λ (x : replay.PlaybackEvent). Shows now.sequence after (step_of now.sequence (going now.playback now.tan) x))
        (seen_answer now slot msg out (eq-eqb _ 0 z)) (one now (answer slot msg out) playing))

    -- the last: it says done, and every other step is done
    last_done : is_answer msg ≡ true → leb 64 which ≡ false → is_error (status_number reply.status) reply.error ≡ false → is_all_done told (length_of now.sequence) ≡ true
        → Finishing msg × ((j : ℕ) → j < length_of m.sequence → (j ≡ which → ⊥) → SaidDone m es j)
    last_done a f c d =
        let x = matching now.sequence now.playback slot reply f in
        let g = good m s es l in
        let each = each_done now.sequence told good_heard d in
        let k : which < length_of now.sequence = omega (arith, is_step m es which (left_seen m s es l which x.has_left), same_length) in (
          (finishing_is msg a).1
              (finishing (status_number reply.status) reply.error c (sym (marked_here (λ _. Unit {0}) now.sequence now.playback g slot reply f) ∙ (each which k).1)),
          λ j h n.
              let e = each j (omega (arith, h, same_length)) in
              (are_done m s es l j).0 (
                omega (arith, e.0, same_sent (λ _. Unit {0}) now.sequence now.playback g slot reply),
                sym (marked_other (λ _. Unit {0}) now.sequence now.playback g slot reply j n) ∙ e.1,
              ),
        )

    pub ended_by : (state : ℕ) → after.state ≡ state → (state ≡ states.playback → ⊥) → (apply now (answer slot msg out)).number ≡ 0
        → Cause m es (answer slot msg out) state
    ended_by state q np z =
        go (leb 64 which) (eqb (sent_at now.playback which).answer answer_done) (is_error (status_number reply.status) reply.error)
        (is_all_done told (length_of now.sequence)) refl refl refl refl (shape z)
      where
        a : is_answer msg ≡ true
        a = is_answer_lem now slot msg out z

        f : leb 64 which ≡ false
        f = found now slot msg out playing z

        has : HasLeft m es which
        has = left_seen m s es l which (matching now.sequence now.playback slot reply f).has_left

        own : IsOf m which slot msg
        own = matches_of m s es l slot msg a which (matching now.sequence now.playback slot reply f)

        go : (a b c d : Bool) → leb 64 which ≡ a → eqb (sent_at now.playback which).answer answer_done ≡ b
            → is_error (status_number reply.status) reply.error ≡ c → is_all_done told (length_of now.sequence) ≡ d
            → Shows now.sequence after (answer_state (verdict a b c d) now.playback told now.tan) → Cause m es (answer slot msg out) state
        go true b c d x y u v w = absurd (true≢false (sym x ∙ f))
        go false true c d x y u v w = absurd (np (sym q ∙ shows_going _ _ _ _ w))
        go false false true d x y u v w =
            subst (Cause m es (answer slot msg out)) (sym (shows_aborted _ _ w) ∙ q)
            (answers_error slot msg out which has (not_said which y) own
            ((failing_is msg a).1 (failing (status_number reply.status) reply.error (two_bits reply.status) u)))
        go false false false true x y u v w =
            let e = last_done a f u v in
            subst (Cause m es (answer slot msg out)) (sym (shows_done _ _ _ w) ∙ q)
            (is_last slot msg out which has (not_said which y) own e.0 e.1)
        go false false false false x y u v w = absurd (np (sym q ∙ shows_going _ _ _ _ w))

    -- the other way
    module _ (z : (apply now (answer slot msg out)).number ≡ 0) (i : ℕ) (h : HasLeft m es i) (d : ¬ SaidDone m es i) (o : IsOf m i slot msg) where
      a : is_answer msg ≡ true
      a = is_answer_lem now slot msg out z

      f : leb 64 which ≡ false
      f = found now slot msg out playing z

      is : which ≡ i
      is = found_is m s es l slot msg a f i h o

      undone : eqb (sent_at now.playback which).answer answer_done ≡ false
      undone = ap (λ (j : ℕ). eqb (sent_at now.playback j).answer answer_done) is ∙ not_done i (seen_left m s es l i h) d

      pub by_error : Failing msg → after.state ≡ states.abort
      by_error e =
          shows_aborted now.sequence after
          (rw (f, undone, fails (status_number reply.status) reply.error ((failing_is msg a).0 e)) at (shape z))

      all_heard : Finishing msg → ((j : ℕ) → j < length_of m.sequence → (j ≡ i → ⊥) → SaidDone m es j) → is_all_done told (length_of now.sequence) ≡ true
      all_heard e others =
          all_done_is now.sequence told good_heard (enough (length_of now.sequence) refl) (λ j k. each j (omega (arith, k, sent_same)))
        where
          sent_same : told.sent ≡ now.playback.sent
          sent_same = same_sent (λ _. Unit {0}) now.sequence now.playback (good m s es l) slot reply

          left : (j : ℕ) → j < length_of m.sequence → j < now.playback.sent
          left j k = either (eqb j i) (λ t. rw (eqb-true j i t) (seen_left m s es l i h)) (λ t. ((are_done m s es l j).1 (others j k (eqb-false j i t))).0)

          enough : (n : ℕ) → length_of now.sequence ≡ n → length_of now.sequence ≤ told.sent
          enough zero q = omega (arith, q)
          enough (suc n) q = omega (arith, q, left n (omega (arith, q, same_length)), sent_same)

          each : (j : ℕ) → j < now.playback.sent → (sent_at told j).answer ≡ answer_done
          each j k =
              either (eqb j i)
              (λ t.
              ap (λ (x : ℕ). (sent_at told x).answer) (eqb-true j i t ∙ sym is)
              ∙ marked_here (λ _. Unit {0}) now.sequence now.playback (good m s es l) slot reply f
              ∙ finishes (status_number reply.status) ((finishing_is msg a).0 e).0)
              (λ t.
              let n = eqb-false j i t in
              marked_other (λ _. Unit {0}) now.sequence now.playback (good m s es l) slot reply j (λ x. n (x ∙ is))
              ∙ ((are_done m s es l j).1 (others j (is_step m es j (left_seen m s es l j k)) n)).1)

      pub by_last : Finishing msg → ((j : ℕ) → j < length_of m.sequence → (j ≡ i → ⊥) → SaidDone m es j) → after.state ≡ states.ready
      by_last e others =
          shows_done now.sequence after told
          (rw (f, undone, no_error (status_number reply.status) reply.error ((finishing_is msg a).0 e).0 ((finishing_is msg a).0 e).1, all_heard e others) at (shape z))
