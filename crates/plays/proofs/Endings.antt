-- How a playback ends: in an abort, or in ready with every step done; and what sixteen ticks bring.
use mathlib.Core.Path.{◌≡◌, refl, sym, ap, ◌∙◌, subst}
use mathlib.Core.Bool.{Bool, true, false, true≢false}
use mathlib.Core.Logic.{◌⊎◌, inl, inr}
use mathlib.Core.List.{List, [], ◌∷◌, ◌++◌, append-nil, append_assoc}
use Prim.Native.Nat.{ℕ, zero, suc, ◌+◌, ◌≤◌, ◌<◌}
use native.Mathlib.Omega.{arith}
use borrow.Author.Tests.{eqb-true, eqb-false}
use lib.Dec.{eqb}
use lib.ListN.{length}
use Rattle.sequence.specs.Sequence.{length_of}
use Rattle.master.specs.declared.Master.{Master}
use Rattle.master.specs.States as states
use Rattle.replay.specs.Run.{State, going, aborted, Going, Fair, ticks_of, HasAnswer, Says}
use Rattle.replay.specs.Run as replay
use Rattle.replay.proofs.Done.{all_done_is}
use Rattle.replay.proofs.Undone.{undone}
use Rattle.replay.proofs.Theorems as theorems
use Rattle.events.specs.Events.{Event, answer, apply, run_from}
use Rattle.events.proofs.Choices.{either}
use Rattle.plays.specs.Plays.{Started, Playing, Lasts, ticks_in, LeftAt, HasLeft, IsOf, Replied, Finishing, SaidDone}
use Rattle.plays.specs.Ends.{Cause, operator, client_aborts, client_lost, client_reports, interrupts, answers_error, is_last, too_long, no_answer, Aborts, Finishes}
use Rattle.plays.proofs.Runs.{seen_all, fair, same_ticks, seen_append, lasts_last, lasts_append, begins, run_is}
use Rattle.plays.proofs.Commands.{some_steps}
use Rattle.plays.proofs.Theorems.{good, left_seen, is_step}
use Rattle.plays.proofs.Replies.{said_later, replied, IsDone, replies, are_done}
use Rattle.plays.proofs.Causes.{why_ends}

module _ (m : Master) (s : Started m) where
  -- the last answer itself, and those before it
  all_done : (c : List Event) → Lasts m c → (slot : ℕ) (msg out : List ℕ) (es : List Event) → (apply (run_from m c) (answer slot msg out)).number ≡ 0
      → (i : ℕ) → HasLeft m c i → IsOf m i slot msg → Finishing msg
      → ((j : ℕ) → j < length_of m.sequence → (j ≡ i → ⊥) → SaidDone m c j)
      → (j : ℕ) → j < length_of m.sequence → SaidDone m (c ++ answer slot msg out ∷ es) j
  all_done c l slot msg out es z i h o x others j k =
      either (eqb j i)
      (λ t.
      subst (SaidDone m (c ++ answer slot msg out ∷ es)) (sym (eqb-true j i t))
      (record {
        earlier = c;
        slot = slot;
        msg = msg;
        out = out;
        later = es;
        split = refl;
        lasts = l;
        accepted = z;
        has_left = h;
        own = o;
        says = x;
      }))
      (λ t. said_later Finishing m c (answer slot msg out ∷ es) j (others j k (eqb-false j i t)))

  module _ (c : List Event) (l : Lasts m c) (es : List Event) where
    abbrev Over : Event → Type 0
    Over e = Finishes m (c ++ e ∷ es) ⊎ Aborts m (c ++ e ∷ es)

    in_abort : (e : Event) → (apply (run_from m c) e).master.state ≡ states.abort → Over e
    in_abort e q = inr (record { earlier = c; e = e; later = es; split = refl; lasts = l; now = q })

    end_by : (e : Event) (state : ℕ) → Cause m c e state → (apply (run_from m c) e).number ≡ 0 → (apply (run_from m c) e).master.state ≡ state → Over e
    end_by e state operator z q = in_abort e q
    end_by e state (client_aborts slot msg x) z q = in_abort e q
    end_by e state (client_lost slot x) z q = in_abort e q
    end_by e state (client_reports slot number x y) z q = in_abort e q
    end_by e state (interrupts slot msg out x y w) z q = in_abort e q
    end_by e state (answers_error slot msg out i h d o x) z q = in_abort e q
    end_by e state (is_last slot msg out i h d o x y) z q =
        inl
        (record {
          earlier = c;
          slot = slot;
          msg = msg;
          out = out;
          later = es;
          split = refl;
          lasts = l;
          now = q;
          all = all_done c l slot msg out es z i h o x y;
        })
    end_by e state (too_long mm out x) z q = in_abort e q
    end_by e state (no_answer mm out i t x y w) z q = in_abort e q

    end_here : (e : Event) → ¬ Playing (apply (run_from m c) e).master → Over e
    end_here e np =
        let state = (apply (run_from m c) e).master.state in
        let w = (why_ends m s c l e state).0 (refl, np) in
        end_by e state w.1 w.0 refl

  abbrev Fate : List Event → Type 0
  Fate es = Lasts m es ⊎ (Finishes m es ⊎ Aborts m es)

  lasts_or_ends : (es c : List Event) → Lasts m c → Fate (c ++ es)
  lasts_or_ends [] c l = inl (subst (Lasts m) (sym (append-nil c)) l)
  lasts_or_ends (e ∷ es) c l = go (eqb (apply (run_from m c) e).master.state states.playback) refl (λ k. lasts_or_ends es (c ++ e ∷ []) k)
    where
      go : (x : Bool) → eqb (apply (run_from m c) e).master.state states.playback ≡ x
          → (Lasts m (c ++ e ∷ []) → Fate ((c ++ e ∷ []) ++ es)) → Fate (c ++ e ∷ es)
      go true q r = subst Fate (append_assoc c (e ∷ []) es) (r (lasts_append c (e ∷ []) m l (lasts_last c m l, eqb-true _ _ q)))
      go false q r = inr (end_here c l es e (eqb-false _ _ q))

  pub ends : (es : List Event) → Lasts m es ⊎ (Finishes m es ⊎ Aborts m es)
  ends es = lasts_or_ends es [] (begins m s).plays

  -- ---- sixteen ticks

  heard_by : (es : List Event) (i : ℕ) (x : State) → x ≡ going (run_from m es).playback (run_from m es).tan
      → replay.AnsweredAt x i ⊎ (x ≡ aborted) → HasAnswer (run_from m es).playback i
  heard_by es i x e (inl h) = subst (λ (y : State). replay.AnsweredAt y i) e h
  heard_by es i x e (inr q) = absurd (subst Going (sym e ∙ q) tt)

  pub sixteen : (a b : List Event) → Lasts m a → (i t : ℕ) → LeftAt (run_from m a) i t
      → t + 16 ≤ length (ticks_in m (a ++ b)) → Replied m (a ++ b) i ⊎ Aborts m (a ++ b)
  sixteen a b l i t h k = go (ends (a ++ b))
    where
      go : Fate (a ++ b) → Replied m (a ++ b) i ⊎ Aborts m (a ++ b)
      go (inl x) =
          let z = begins m s in
          inl
          ((replies m s (a ++ b) x i).0
          (heard_by (a ++ b) i _ (sym (ap (λ (y : List replay.PlaybackEvent). replay.play_run m.sequence m.tan y) (seen_append a b m)) ∙ run_is m z (a ++ b) x)
          (theorems.sixteen m.sequence z.whole m.tan (seen_all m a) (seen_all (run_from m a) b) (subst Fair (seen_append a b m) (fair m (a ++ b))) i t
          (subst (λ (y : State). replay.HasLeftAt y i t) (sym (run_is m z a l)) h)
          (omega (arith, ap length (sym (ap ticks_of (seen_append a b m)) ∙ same_ticks m (a ++ b)))))))
      go (inr (inl f)) = inl (replied Finishing m (a ++ b) i (f.all i (is_step m a i (left_seen m s a l i h.0))))
      go (inr (inr f)) = inr f

  -- ---- while it lasts, not every step is done

  pub unfinished : (es : List Event) → Lasts m es → ¬ ((i : ℕ) → i < length_of m.sequence → SaidDone m es i)
  unfinished es l all =
      let b = begins m s in
      let n = run_from m es in
      true≢false
      (sym (all_done_is m.sequence n.playback (good m s es l) (enough (length_of m.sequence) refl) (λ i h. (held i (is_step m es i (left_seen m s es l i h))).1))
      ∙ undone m.sequence b.whole m.tan (some_steps m s) (seen_all m es) (fair m es) n.playback n.tan (run_is m b es l))
    where
      held : (i : ℕ) → i < length_of m.sequence → Says IsDone (run_from m es).playback i
      held i h = (are_done m s es l i).1 (all i h)

      enough : (k : ℕ) → length_of m.sequence ≡ k → length_of m.sequence ≤ (run_from m es).playback.sent
      enough zero q = omega (arith, q)
      enough (suc k) q = omega (arith, q, (held k (omega (arith, q))).0)
