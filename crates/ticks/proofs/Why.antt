-- A playback is over for a reason: a message that ends it, tick 36,000, or a step with no answer 16 ticks after it left.
use mathlib.Core.Path.{◌≡◌, refl, sym, ap, subst}
use mathlib.Core.Logic.{◌⊎◌, inl, inr}
use mathlib.Core.Bool.{Bool, true, false, not, ◌&&◌, ◌||◌, true≢false}
use mathlib.Core.List.{List, [], ◌∷◌, ◌++◌}
use Prim.Native.Nat.{ℕ, suc, ◌+◌, ◌≤◌, ◌<◌}
use native.Mathlib.Omega.{arith}
use lib.Dec.{T, leb, leb→le}
use lib.ListN.{length, get_or, length-drop}
use Rattle.ticks.specs.Queue.{Mark, QueueEvent, tick, answer, message, ends, LeftStep, Play, Queue, playing, over, overdue, stops, at_tick, step, queue_run, QueueLasts, tick_list, left_ats, is_answered}
use Rattle.ticks.specs.Promises.{QueueCause, ended, too_long, no_answer}
use Rattle.ticks.proofs.Follows.{Matched, follows}
use Rattle.ticks.proofs.Theorems.{run_append}

record Unanswered (now : ℕ) (ss : List LeftStep) : Type 0 where
  i : ℕ
  has_left : i < length (left_ats ss)
  long_ago : get_or (left_ats ss) i 0 + 16 ≤ now
  not_answered : ¬ T (is_answered ss i)

unanswered_here : (a b : Bool) → (not a && b) ≡ true → (T b) × (¬ T a)
unanswered_here true b e = absurd (true≢false (sym e))
unanswered_here false b e = (subst T (sym e) tt, λ x. x)

unanswered : (now : ℕ) (ss : List LeftStep) → overdue now ss ≡ true → Unanswered now ss
unanswered now [] e = absurd (true≢false (sym e))
unanswered now (s ∷ ss) e = go (not s.answered && leb (s.left + 16) now) refl e (unanswered now ss)
  where
    go : (b : Bool) → (not s.answered && leb (s.left + 16) now) ≡ b → (b || overdue now ss) ≡ true → (overdue now ss ≡ true → Unanswered now ss) → Unanswered now (s ∷ ss)
    go true f g r =
        let q = unanswered_here s.answered (leb (s.left + 16) now) f in
        record { i = 0; has_left = omega arith; long_ago = leb→le (s.left + 16) now q.0; not_answered = q.1 }
    go false f g r = let u = r g in record { i = suc u.i; has_left = omega (arith, u.has_left); long_ago = u.long_ago; not_answered = u.not_answered }

why_tick : (marks : List Mark) (b : Bool) (t d : ℕ) (ss : List LeftStep) → at_tick b marks t d ss ≡ over → b ≡ true
why_tick marks true t d ss e = refl
why_tick marks false t d ss e = cc

why_stops : (a b : Bool) → (a || b) ≡ true → T a ⊎ (b ≡ true)
why_stops true b e = inl tt
why_stops false b e = inr e

pub over_for_a_cause : (marks : List Mark) (es : List QueueEvent) (e : QueueEvent) → QueueLasts (queue_run marks es) → queue_run marks (es ++ e ∷ []) ≡ over → QueueCause marks es e
over_for_a_cause marks es e lasts o = go (queue_run marks es) e refl (follows marks es) lasts (rw run_append at o)
  where
    by_test : (p : Play) (m : ℕ) → queue_run marks es ≡ playing p → p.ticked ≡ length (tick_list es)
        → T (leb 36000 (suc p.ticked)) ⊎ (overdue (suc p.ticked) p.sent ≡ true) → QueueCause marks es (tick m)
    by_test p m q c (inl x) = too_long m (omega (arith, leb→le 36000 (suc p.ticked) x))
    by_test p m q c (inr x) =
        let u = unanswered (suc p.ticked) p.sent x in
        no_answer m u.i (get_or (left_ats p.sent) u.i 0) (rw q (u.has_left, refl)) (omega (arith, u.long_ago)) (rw q u.not_answered)

    go : (s : Queue) (f : QueueEvent) → queue_run marks es ≡ s → Matched marks (tick_list es) [] s → QueueLasts s → step marks s f ≡ over → QueueCause marks es f
    go over f q h l x = absurd l
    go (playing p) (tick m) q h l x =
        by_test p m q (omega (arith, h.within, length-drop p.ticked (tick_list es), ap length h.ahead))
        (why_stops (leb 36000 (suc p.ticked)) (overdue (suc p.ticked) p.sent)
        (why_tick marks (stops (suc p.ticked) p.sent) (suc p.ticked) (p.moved + m) p.sent x))
    go (playing p) (answer j) q h l x = let z : ◌≡◌ {A = ℕ} 0 1 = cc in absurd (omega arith)
    go (playing p) message q h l x = let z : ◌≡◌ {A = ℕ} 0 1 = cc in absurd (omega arith)
    go (playing p) ends q h l x = ended
