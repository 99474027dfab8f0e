-- When the steps of a playback leave, and when it ends at the latest: by `Queue` (who leaves when, with no events) and `Follows` (a run of events does what
-- the queue does).
use mathlib.Core.Path.{◌≡◌, refl, sym, ap, ◌∙◌}
use mathlib.Core.Logic.{◌↔◌, ◌⊎◌, inl, inr}
use mathlib.Core.Bool.{Bool, true, false, not, ◌&&◌}
use mathlib.Core.List.{List, [], ◌∷◌, ◌++◌}
use Prim.Native.Nat.{ℕ, zero, suc, ◌+◌, ◌≤◌, ◌<◌, max}
use native.Mathlib.Omega.{arith}
use lib.Dec.{T, leb}
use lib.ListN.{length, get_or, length-drop, length-append, get_or-append}
use Rattle.ticks.specs.Queue.{Mark, QueueEvent, tick, answer, message, ends, LeftStep, Queue, playing, over, queue_start, overdue, stops, leave, at_tick, answer_of, step, queue_run_from, queue_run, QueueLasts, tick_list, reached, reached_after, QueueDueAt, QueueLatest, left_ats, leavings, LeavesAt, is_answered, QueueAnswered, before}
use Rattle.ticks.proofs.Queue.{push, gone, FirstReady, Max, inv_gone, gone_iff}
use Rattle.ticks.proofs.Follows.{stays, left_ats_leave, left_ats_answer, Matched, follows, leb_false, or_false}

-- ---- a playback that lasts has sent what its ticks say

-- what is left is fixed by the ticks
lasting_is : (marks : List Mark) (es : List QueueEvent) → QueueLasts (queue_run marks es)
    → leavings (queue_run marks es) ≡ gone (reached_after marks (tick_list es)) (length (tick_list es))
lasting_is marks es lasts = go (queue_run marks es) (follows marks es) lasts
  where
    go : (s : Queue) → Matched marks (tick_list es) [] s → QueueLasts s → leavings s ≡ gone (reached_after marks (tick_list es)) (length (tick_list es))
    go over h l = absurd l
    go (playing p) h l =
        let q : p.ticked ≡ length (tick_list es) = omega (arith, h.within, length-drop p.ticked (tick_list es), ap length h.ahead) in
        rw q at h.queue

module _ (marks : List Mark) (es : List QueueEvent) where
  to_due : (j t : ℕ) → FirstReady (reached_after marks (tick_list es)) j t → t ≤ length (tick_list es) → QueueDueAt marks es j t
  to_due j t f h = record { numbered = f.numbered; within = h; reaching = f.reaching; first = f.first }

  from_due : (j t : ℕ) → QueueDueAt marks es j t → FirstReady (reached_after marks (tick_list es)) j t
  from_due j t f = record { numbered = f.numbered; reaching = f.reaching; first = f.first }

  to_latest : (i t : ℕ) → Max (reached_after marks (tick_list es)) i t → t ≤ length (tick_list es) → QueueLatest marks es i t
  to_latest i t m h =
      record {
        none_later = λ j k. let p = m.none_later j k in (p.0, to_due j p.0 p.1 (omega (arith, p.2)), p.2);
        one_of_them = let p = m.one_of_them in (p.0, p.1, (p.2.0, to_due p.0 p.2.0 p.2.1 (omega (arith, p.2.2)), p.2.2));
      }

  from_latest : (i t : ℕ) → QueueLatest marks es i t → Max (reached_after marks (tick_list es)) i t
  from_latest i t m =
      record {
        none_later = λ j k. let p = m.none_later j k in (p.0, from_due j p.0 p.1, p.2);
        one_of_them = let p = m.one_of_them in (p.0, p.1, (p.2.0, from_due p.0 p.2.0 p.2.1, p.2.2));
      }

-- ---- 1. WHILE THE PLAYBACK LASTS, STEP i LEAVES AT EXACTLY THE LATEST OF THE TICKS

pub leaves_exactly : (marks : List Mark) (es : List QueueEvent) → QueueLasts (queue_run marks es)
    → (i t : ℕ) → LeavesAt marks es i t ↔ (QueueLatest marks es i t × (t ≤ length (tick_list es)))
leaves_exactly marks es lasts i t =
    let ready = reached_after marks (tick_list es) in
    let n = length (tick_list es) in
    let iff = gone_iff ready (stays marks (tick_list es)) n (gone ready n) (inv_gone ready (stays marks (tick_list es)) n) i t in
    rw (lasting_is marks es lasts) (λ h. let m = iff.0 h in (to_latest marks es i t m.0 m.1, m.1), λ h. iff.1 (from_latest marks es i t h.0, h.1))

-- while one of the steps up to i is not yet due, step i does not leave
pub waits_for_each : (marks : List Mark) (es : List QueueEvent) → QueueLasts (queue_run marks es) → (i j : ℕ) → j ≤ i
    → ((d : ℕ) → ¬ QueueDueAt marks es j d) → (t : ℕ) → ¬ LeavesAt marks es i t
waits_for_each marks es lasts i j h none t l = let p = ((leaves_exactly marks es lasts i t).0 l).0.none_later j h in none p.0 p.1

-- ---- 2. MESSAGES DO NOT MOVE THE LEAVINGS: THE SAME TICKS GIVE THE SAME LEAVINGS

pub messages_do_not_move : (marks : List Mark) (es fs : List QueueEvent) → QueueLasts (queue_run marks es) → QueueLasts (queue_run marks fs)
    → tick_list es ≡ tick_list fs → leavings (queue_run marks es) ≡ leavings (queue_run marks fs)
messages_do_not_move marks es fs le lf e =
    lasting_is marks es le ∙ ap (λ (mms : List ℕ). gone (reached_after marks mms) (length mms)) e ∙ sym (lasting_is marks fs lf)

-- ---- a step that has left stays so, at the same tick, until the playback is over

abbrev pub Kept : ℕ → ℕ → Queue → Type 0
Kept i t (playing p) = (i < length (left_ats p.sent)) × (get_or (left_ats p.sent) i 0 ≡ t)
Kept i t over = Unit {0}

kept_push : (b : Bool) (u : ℕ) (l : List ℕ) (i t : ℕ) → (i < length l) × (get_or l i 0 ≡ t) → (i < length (push b u l)) × (get_or (push b u l) i 0 ≡ t)
kept_push true u l i t h = (omega (arith, h.0, length-append l (u ∷ [])), get_or-append l (u ∷ []) 0 i h.0 ∙ h.1)
kept_push false u l i t h = h

kept_tick : (b : Bool) (marks : List Mark) (u d : ℕ) (ss : List LeftStep) (i t : ℕ) → (i < length (left_ats ss)) × (get_or (left_ats ss) i 0 ≡ t)
    → Kept i t (at_tick b marks u d ss)
kept_tick true marks u d ss i t h = tt
kept_tick false marks u d ss i t h = rw left_ats_leave (kept_push (reached marks (length ss) u d) u (left_ats ss) i t h)

kept_step : (marks : List Mark) (s : Queue) (e : QueueEvent) (i t : ℕ) → Kept i t s → Kept i t (step marks s e)
kept_step marks over e i t h = tt
kept_step marks (playing p) (tick m) i t h = kept_tick (stops (suc p.ticked) p.sent) marks (suc p.ticked) (p.moved + m) p.sent i t h
kept_step marks (playing p) (answer k) i t h = rw left_ats_answer h
kept_step marks (playing p) message i t h = h
kept_step marks (playing p) ends i t h = tt

pub kept : (marks : List Mark) (es : List QueueEvent) (s : Queue) (i t : ℕ) → Kept i t s → Kept i t (queue_run_from marks s es)
kept marks [] s i t h = h
kept marks (e ∷ es) s i t h = kept marks es (step marks s e) i t (kept_step marks s e i t h)

pub run_append : (marks : List Mark) (a b : List QueueEvent) (s : Queue) → queue_run_from marks s (a ++ b) ≡ queue_run_from marks (queue_run_from marks s a) b
run_append marks [] b s = refl
run_append marks (e ∷ a) b s = run_append marks a b (step marks s e)

pub kept_of : (s : Queue) (i t : ℕ) → (i < length (leavings s)) × (get_or (leavings s) i 0 ≡ t) → Kept i t s
kept_of (playing p) i t h = h
kept_of over i t h = tt

-- ---- every step of a playback that lasts is answered, or left less than 16 ticks ago

abbrev Timely : ℕ → List LeftStep → Type 0
Timely now [] = Unit {0}
Timely now (s ∷ ss) = (T s.answered ⊎ (now < s.left + 16)) × Timely now ss

abbrev TimelyAll : Queue → Type 0
TimelyAll (playing p) = Timely p.ticked p.sent
TimelyAll over = Unit {0}

timely_one : (a : Bool) (l now : ℕ) → (not a && leb (l + 16) now) ≡ false → T a ⊎ (now < l + 16)
timely_one true l now e = inl tt
timely_one false l now e = inr (leb_false (l + 16) now e)

timely_test : (now : ℕ) (ss : List LeftStep) → overdue now ss ≡ false → Timely now ss
timely_test now [] e = tt
timely_test now (s ∷ ss) e =
    let q = or_false (not s.answered && leb (s.left + 16) now) (overdue now ss) e in
    (timely_one s.answered s.left now q.0, timely_test now ss q.1)

timely_leave : (b : Bool) (now : ℕ) (ss : List LeftStep) → Timely now ss → Timely now (leave b now ss)
timely_leave true now [] h = (inr (omega arith), tt)
timely_leave true now (s ∷ ss) h = (h.0, timely_leave true now ss h.1)
timely_leave false now ss h = h

timely_answer : (now : ℕ) (ss : List LeftStep) (i : ℕ) → Timely now ss → Timely now (answer_of ss i)
timely_answer now [] i h = h
timely_answer now (s ∷ ss) zero h = (inl tt, h.1)
timely_answer now (s ∷ ss) (suc i) h = (h.0, timely_answer now ss i h.1)

timely_tick : (marks : List Mark) (b : Bool) (t d : ℕ) (ss : List LeftStep) → stops t ss ≡ b → TimelyAll (at_tick b marks t d ss)
timely_tick marks true t d ss e = tt
timely_tick marks false t d ss e = timely_leave (reached marks (length ss) t d) t ss (timely_test t ss (or_false (leb 36000 t) (overdue t ss) e).1)

timely_step : (marks : List Mark) (s : Queue) (e : QueueEvent) → TimelyAll s → TimelyAll (step marks s e)
timely_step marks over e h = tt
timely_step marks (playing p) (tick m) h = timely_tick marks (stops (suc p.ticked) p.sent) (suc p.ticked) (p.moved + m) p.sent refl
timely_step marks (playing p) (answer i) h = timely_answer p.ticked p.sent i h
timely_step marks (playing p) message h = h
timely_step marks (playing p) ends h = tt

timely : (marks : List Mark) (es : List QueueEvent) (s : Queue) → TimelyAll s → TimelyAll (queue_run_from marks s es)
timely marks [] s h = h
timely marks (e ∷ es) s h = timely marks es (step marks s e) (timely_step marks s e h)

timely_at : (now : ℕ) (ss : List LeftStep) (i t : ℕ) → Timely now ss → i < length (left_ats ss) → get_or (left_ats ss) i 0 ≡ t → t + 16 ≤ now → T (is_answered ss i)
timely_at now [] i t h k e l = absurd (omega arith)
timely_at now (s ∷ ss) zero t h k e l = go h.0
  where
    go : T s.answered ⊎ (now < s.left + 16) → T s.answered
    go (inl a) = a
    go (inr b) = absurd (omega arith)
timely_at now (s ∷ ss) (suc i) t h k e l = timely_at now ss i t h.1 (omega arith) e l

-- ---- 3. BY THE SIXTEENTH TICK AFTER A STEP FIRST LEFT, IT IS ANSWERED OR THE PLAYBACK IS OVER

pub sixteen : (marks : List Mark) (a b : List QueueEvent) (i t : ℕ) → LeavesAt marks a i t → t + 16 ≤ length (tick_list (a ++ b))
    → QueueAnswered (queue_run marks (a ++ b)) i ⊎ (queue_run marks (a ++ b) ≡ over)
sixteen marks a b i t h l = go (queue_run marks (a ++ b)) (follows marks (a ++ b)) (timely marks (a ++ b) queue_start tt) (rw run_append (kept marks b (queue_run marks a) i t (kept_of (queue_run marks a) i t h)))
  where
    go : (s : Queue) → Matched marks (tick_list (a ++ b)) [] s → TimelyAll s → Kept i t s → QueueAnswered s i ⊎ (s ≡ over)
    go over m y k = inr refl
    go (playing p) m y k =
        inl (timely_at p.ticked p.sent i t y k.0 k.1
        (omega (arith, m.within, length-drop p.ticked (tick_list (a ++ b)), ap length m.ahead)))

-- ---- 4. TICK 36,000 ENDS EVERY PLAYBACK

pub ends_in_time : (marks : List Mark) (es : List QueueEvent) → 36000 ≤ length (tick_list es) → queue_run marks es ≡ over
ends_in_time marks es l = go (queue_run marks es) (follows marks es)
  where
    go : (s : Queue) → Matched marks (tick_list es) [] s → s ≡ over
    go over m = refl
    go (playing p) m = absurd (omega (arith, m.short, length-drop p.ticked (tick_list es), ap length m.ahead))

-- ---- 5. THE RULE STEP BY STEP: EACH STEP LEAVES ONE TICK AFTER THE STEP BEFORE IT, OR WHERE IT IS DUE, WHICHEVER IS LATER

pub leaves_next : (marks : List Mark) (es : List QueueEvent) → QueueLasts (queue_run marks es) → (i t : ℕ) → LeavesAt marks es i t
    → (d : ℕ) × QueueDueAt marks es i d × (t ≡ max (suc (before (leavings (queue_run marks es)) i)) d)
leaves_next marks es lasts i t h = rw (lasting_is marks es lasts) (go (rw (lasting_is marks es lasts) at h))
  where
    l : List ℕ
    l = gone (reached_after marks (tick_list es)) (length (tick_list es))

    go : (i < length l) × (get_or l i 0 ≡ t) → (d : ℕ) × QueueDueAt marks es i d × (t ≡ max (suc (before l i)) d)
    go k =
        let p = (inv_gone (reached_after marks (tick_list es)) (stays marks (tick_list es)) (length (tick_list es))).each i k.0 in
        (p.due, to_due marks es i p.due p.due_is (omega (arith, p.at, p.past)), sym k.1 ∙ p.at)
