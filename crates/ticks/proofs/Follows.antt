-- A run of events follows the queue: what a playback that lasts has counted and sent is fixed by its ticks. Each event keeps
-- what `Matches` says, and that is all that the theorems need.
use mathlib.Core.Path.{◌≡◌, refl, sym, ap, ◌∙◌, subst}
use mathlib.Core.Bool.{Bool, true, false, not, ◌||◌, true≢false}
use mathlib.Core.List.{List, [], ◌∷◌, ◌++◌}
use Prim.Native.Nat.{ℕ, zero, suc, ◌+◌, ◌≤◌, ◌<◌}
use native.Mathlib.Omega.{arith}
use lib.Dec.{T, leb, leb→le, le→leb, nleb→lt}
use lib.ListN.{length, take, drop, length-drop}
use Rattle.ticks.specs.Queue.{Mark, ticks, millimetres, reaches, reached, QueueEvent, tick, answer, message, ends, LeftStep, Play, Queue, playing, over, queue_start, stops, leave, at_tick, answer_of, step, queue_run_from, queue_run, tick_list, sum, reached_after, left_ats}
use Rattle.ticks.proofs.Queue.{push, gone}

-- ---- once reached, a mark stays reached

reaches_stays : (m : Mark) (t u d e : ℕ) → t ≤ u → d ≤ e → T (reaches m t d) → T (reaches m u e)
reaches_stays (ticks m) t u d e h k r = le→leb m u (omega (arith, leb→le m t r))
reaches_stays (millimetres m) t u d e h k r = le→leb m e (omega (arith, leb→le m d r))

reached_stays : (marks : List Mark) (j t u d e : ℕ) → t ≤ u → d ≤ e → T (reached marks j t d) → T (reached marks j u e)
reached_stays [] j t u d e h k r = r
reached_stays (m ∷ ms) zero t u d e h k r = reaches_stays m t u d e h k r
reached_stays (m ∷ ms) (suc j) t u d e h k r = reached_stays ms j t u d e h k r

sum_grows : (mms : List ℕ) (t u : ℕ) → t ≤ u → sum (take t mms) ≤ sum (take u mms)
sum_grows mms zero u h = omega arith
sum_grows [] (suc t) u h = omega arith
sum_grows (m ∷ mms) (suc t) zero h = omega arith
sum_grows (m ∷ mms) (suc t) (suc u) h = omega (arith, sum_grows mms t u (omega arith))

pub stays : (marks : List Mark) (mms : List ℕ) (j t u : ℕ) → t ≤ u → T (reached_after marks mms j t) → T (reached_after marks mms j u)
stays marks mms j t u h r = reached_stays marks j t u (sum (take t mms)) (sum (take u mms)) h (sum_grows mms t u h) r

-- ---- the ticks, one by one

tick_distance : (mms : List ℕ) (t m : ℕ) (rest : List ℕ) → drop t mms ≡ m ∷ rest → sum (take (suc t) mms) ≡ sum (take t mms) + m
tick_distance [] zero m rest e = cc
tick_distance [] (suc t) m rest e = cc
tick_distance (x ∷ xs) zero m rest e = let q : x ≡ m = cc in omega arith
tick_distance (x ∷ xs) (suc t) m rest e = omega (arith, tick_distance xs t m rest e)

tick_rest : (mms : List ℕ) (t m : ℕ) (rest : List ℕ) → drop t mms ≡ m ∷ rest → drop (suc t) mms ≡ rest
tick_rest [] zero m rest e = cc
tick_rest [] (suc t) m rest e = cc
tick_rest (x ∷ xs) zero m rest e = cc
tick_rest (x ∷ xs) (suc t) m rest e = tick_rest xs t m rest e

-- ---- the steps that have left

left_ats_append : (a b : List LeftStep) → left_ats (a ++ b) ≡ left_ats a ++ left_ats b
left_ats_append [] b = refl
left_ats_append (s ∷ ss) b = ap (λ (l : List ℕ). s.left ∷ l) (left_ats_append ss b)

pub left_ats_leave : (b : Bool) (t : ℕ) (ss : List LeftStep) → left_ats (leave b t ss) ≡ push b t (left_ats ss)
left_ats_leave true t ss = left_ats_append ss (record { left = t; answered = false } ∷ [])
left_ats_leave false t ss = refl

pub left_ats_answer : (ss : List LeftStep) (i : ℕ) → left_ats (answer_of ss i) ≡ left_ats ss
left_ats_answer [] i = refl
left_ats_answer (s ∷ ss) zero = refl
left_ats_answer (s ∷ ss) (suc i) = ap (λ (l : List ℕ). s.left ∷ l) (left_ats_answer ss i)

length_left_ats : (ss : List LeftStep) → length (left_ats ss) ≡ length ss
length_left_ats [] = refl
length_left_ats (s ∷ ss) = ap suc (length_left_ats ss)

-- ---- what each event keeps

-- `mms` are the ticks of the whole run, and `rest` those that are still to come
pub record Matches (marks : List Mark) (mms rest : List ℕ) (p : Play) : Type 0 where
  pub short : p.ticked < 36000
  pub within : p.ticked ≤ length mms
  pub ahead : drop p.ticked mms ≡ rest
  pub distance : p.moved ≡ sum (take p.ticked mms)
  pub queue : left_ats p.sent ≡ gone (reached_after marks mms) p.ticked

abbrev pub Matched : List Mark → List ℕ → List ℕ → Queue → Type 0
Matched marks mms rest (playing p) = Matches marks mms rest p
Matched marks mms rest over = Unit {0}

pub or_false : (a b : Bool) → (a || b) ≡ false → (a ≡ false) × (b ≡ false)
or_false true b e = absurd (true≢false e)
or_false false b e = (refl, e)

pub leb_false : (m n : ℕ) → leb m n ≡ false → n < m
leb_false m n e = nleb→lt m n (subst (λ (b : Bool). T (not b)) (sym e) tt)

module _ (marks : List Mark) (mms : List ℕ) where
  keeps_tick : (rest : List ℕ) (p : Play) (m : ℕ) (b : Bool) → stops (suc p.ticked) p.sent ≡ b
      → Matches marks mms (m ∷ rest) p → Matched marks mms rest (at_tick b marks (suc p.ticked) (p.moved + m) p.sent)
  keeps_tick rest p m true e h = tt
  keeps_tick rest p m false e h =
      let d : p.moved + m ≡ sum (take (suc p.ticked) mms) = omega (arith, h.distance, tick_distance mms p.ticked m rest h.ahead) in
      record {
        short = leb_false 36000 (suc p.ticked) (or_false _ _ e).0;
        within = omega (arith, length-drop p.ticked mms, ap length h.ahead);
        ahead = tick_rest mms p.ticked m rest h.ahead;
        distance = d;
        queue = rw left_ats_leave (cc (d, length_left_ats p.sent, h.queue));
      }

  keeps : (rest : List QueueEvent) (s : Queue) (e : QueueEvent) → Matched marks mms (tick_list (e ∷ rest)) s → Matched marks mms (tick_list rest) (step marks s e)
  keeps rest over e h = tt
  keeps rest (playing p) (tick m) h = keeps_tick (tick_list rest) p m _ refl h
  keeps rest (playing p) (answer i) h =
      record { short = h.short; within = h.within; ahead = h.ahead; distance = h.distance; queue = left_ats_answer p.sent i ∙ h.queue }
  keeps rest (playing p) message h = h
  keeps rest (playing p) ends h = tt

  keeps_all : (es : List QueueEvent) (s : Queue) → Matched marks mms (tick_list es) s → Matched marks mms [] (queue_run_from marks s es)
  keeps_all [] s h = h
  keeps_all (e ∷ es) s h = keeps_all es (step marks s e) (keeps es s e h)

pub follows : (marks : List Mark) (es : List QueueEvent) → Matched marks (tick_list es) [] (queue_run marks es)
follows marks es = keeps_all marks (tick_list es) es queue_start (record { short = omega arith; within = omega arith; ahead = refl; distance = refl; queue = refl })
