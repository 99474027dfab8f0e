-- The tick that is written beside a step that has left is the tick at which it left.
use mathlib.Core.Path.{◌≡◌, refl, ap}
use mathlib.Core.Logic.{◌↔◌}
use mathlib.Core.Bool.{Bool, true, false}
use mathlib.Core.List.{List, [], ◌∷◌, ◌++◌}
use Prim.Native.Nat.{ℕ, suc, ◌+◌, ◌≤◌, ◌<◌}
use native.Mathlib.Decide.{dec_le}
use native.Mathlib.Omega.{arith}
use lib.ListN.{length, get_or, length-append, length-drop}
use lib.Seq.{get_or-append_seam}
use Rattle.ticks.specs.Queue.{Mark, QueueEvent, tick, answer, message, ends, LeftStep, Queue, playing, over, queue_start, stops, at_tick, step, queue_run_from, queue_run, QueueLasts, tick_list, reached, left_ats, leavings, LeavesAt, Leaves}
use Rattle.ticks.proofs.Queue.{push}
use Rattle.ticks.proofs.Follows.{left_ats_leave, left_ats_answer, Matched, follows}
use Rattle.ticks.proofs.Theorems.{Kept, kept, run_append}

-- where a run from s lets step i leave
record Split (marks : List Mark) (s : Queue) (es : List QueueEvent) (i : ℕ) : Type 0 where
  earlier : List QueueEvent
  mm : ℕ
  later : List QueueEvent
  split : es ≡ earlier ++ tick mm ∷ later
  was : length (leavings (queue_run_from marks s earlier)) ≡ i
  now : length (leavings (queue_run_from marks s (earlier ++ tick mm ∷ []))) ≡ suc i

-- at most one step leaves at a tick
push_grows : (b : Bool) (t : ℕ) (l : List ℕ) → length (push b t l) ≤ suc (length l)
push_grows true t l = simp length-append (omega arith)
push_grows false t l = omega arith

grows : (b : Bool) (marks : List Mark) (t d : ℕ) (ss : List LeftStep) → length (leavings (at_tick b marks t d ss)) ≤ suc (length (left_ats ss))
grows true marks t d ss = omega arith
grows false marks t d ss = rw left_ats_leave (push_grows (reached marks (length ss) t d) t (left_ats ss))

-- the first event after which step i has left
here : (marks : List Mark) (s : Queue) (e : QueueEvent) (es : List QueueEvent) (i : ℕ) → length (leavings s) ≤ i → i < length (leavings (step marks s e)) → Split marks s (e ∷ es) i
here marks over e es i h k = absurd (omega arith)
here marks (playing p) (tick m) es i h k =
    let g = grows (stops (suc p.ticked) p.sent) marks (suc p.ticked) (p.moved + m) p.sent in
    record { earlier = []; mm = m; later = es; split = refl; was = omega arith; now = omega arith }
here marks (playing p) (answer j) es i h k = absurd (omega (arith, ap length (left_ats_answer p.sent j)))
here marks (playing p) message es i h k = absurd (omega arith)
here marks (playing p) ends es i h k = absurd (omega arith)

find_split : (marks : List Mark) (es : List QueueEvent) (s : Queue) (i : ℕ) → length (leavings s) ≤ i → i < length (leavings (queue_run_from marks s es)) → Split marks s es i
find_split marks [] s i h k = absurd (omega arith)
find_split marks (e ∷ es) s i h k = go (dec_le (suc i) (length (leavings (step marks s e)))) (find_split marks es (step marks s e) i)
  where
    go : Dec (i < length (leavings (step marks s e)))
        → (length (leavings (step marks s e)) ≤ i → i < length (leavings (queue_run_from marks (step marks s e) es)) → Split marks (step marks s e) es i)
        → Split marks s (e ∷ es) i
    go (yes a) r = here marks s e es i h a
    go (no a) r =
        let q = r (omega arith) k in
        record { earlier = e ∷ q.earlier; mm = q.mm; later = q.later; split = ap (λ (l : List QueueEvent). e ∷ l) q.split; was = q.was; now = q.now }

-- the step that leaves is written down with the tick's number
pushed : (b : Bool) (t : ℕ) (l : List ℕ) (i : ℕ) → length l ≡ i → length (push b t l) ≡ suc i → (i < length (push b t l)) × (get_or (push b t l) i 0 ≡ t)
pushed true t l i e f = (omega arith, rw (← e) (get_or-append_seam l t [] 0))
pushed false t l i e f = absurd (omega arith)

written_tick : (b : Bool) (marks : List Mark) (t d : ℕ) (ss : List LeftStep) (i : ℕ) → length (left_ats ss) ≡ i → length (leavings (at_tick b marks t d ss)) ≡ suc i
    → Kept i t (at_tick b marks t d ss)
written_tick true marks t d ss i e f = tt
written_tick false marks t d ss i e f = rw left_ats_leave (pushed (reached marks (length ss) t d) t (left_ats ss) i e (rw left_ats_leave at f))

written : (marks : List Mark) (mms : List ℕ) (s : Queue) (m i : ℕ) → Matched marks mms [] s → length (leavings s) ≡ i
    → length (leavings (step marks s (tick m))) ≡ suc i → Kept i (suc (length mms)) (step marks s (tick m))
written marks mms over m i h e f = tt
written marks mms (playing p) m i h e f =
    let q : p.ticked ≡ length mms = omega (arith, h.within, length-drop p.ticked mms, ap length h.ahead) in
    rw (← q) (written_tick (stops (suc p.ticked) p.sent) marks (suc p.ticked) (p.moved + m) p.sent i e f)

leaves_kept : (marks : List Mark) (a : List QueueEvent) (m : ℕ) (b : List QueueEvent) (i : ℕ) → length (leavings (queue_run marks a)) ≡ i
    → length (leavings (queue_run marks (a ++ tick m ∷ []))) ≡ suc i → Kept i (suc (length (tick_list a))) (queue_run marks (a ++ tick m ∷ b))
leaves_kept marks a m b i e f =
    rw run_append
    (kept marks b (step marks (queue_run marks a) (tick m)) i (suc (length (tick_list a)))
    (written marks (tick_list a) (queue_run marks a) m i (follows marks a) e (rw run_append at f)))

of_kept : (s : Queue) (i t : ℕ) → QueueLasts s → Kept i t s → (i < length (leavings s)) × (get_or (leavings s) i 0 ≡ t)
of_kept (playing p) i t l h = h
of_kept over i t l h = absurd l

-- what is written beside a step that has left is the tick at which it left
pub leaves_when : (marks : List Mark) (es : List QueueEvent) → QueueLasts (queue_run marks es) → (i t : ℕ) → LeavesAt marks es i t ↔ Leaves marks es i t
leaves_when marks es lasts i t = (λ h. to (find_split marks es queue_start i (omega arith) h.0) h, from)
  where
    to : Split marks queue_start es i → LeavesAt marks es i t → Leaves marks es i t
    to q h =
        let k = of_kept (queue_run marks es) i (suc (length (tick_list q.earlier))) lasts (rw q.split (leaves_kept marks q.earlier q.mm q.later i q.was q.now)) in
        record { earlier = q.earlier; mm = q.mm; later = q.later; split = q.split; number = omega (arith, h.1, k.1); was = q.was; now = q.now }

    from : Leaves marks es i t → LeavesAt marks es i t
    from q =
        of_kept (queue_run marks es) i t lasts
        (rw q.split (rw q.number at (leaves_kept marks q.earlier q.mm q.later i q.was q.now)))
