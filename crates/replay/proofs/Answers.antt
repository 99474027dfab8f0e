-- A step has an answer only by an E.7 of its own client, with its own TAN, function and state; and what it has been told stays.
use mathlib.Core.Path.{◌≡◌, refl, sym, ap, ◌∙◌, subst}
use mathlib.Core.Bool.{Bool, true, false, ◌&&◌, cond, true≢false}
use mathlib.Core.Logic.{◌⊎◌, inl, inr}
use mathlib.Core.List.{List, [], ◌∷◌}
use Prim.Native.Nat.{ℕ, zero, suc, ◌+◌, ◌≤◌, ◌<◌}
use native.Mathlib.Nat.{eq-or-lt_of_le}
use native.Mathlib.Omega.{arith}
use borrow.Author.Tests.{eqb-true, eqb-false, leb-false}
use lib.Dec.{eqb, leb}
use lib.ListN.{get_or, take, set, length}
use lib.Seq.{get_or-set_same, get_or-set_other}
use Rattle.arrays.specs.Arrays.{first_from, more}
use Rattle.message.specs.Fields.{status_number}
use Rattle.message.specs.declared.Reply.{Reply}
use Rattle.sequence.specs.Sequence.{blank_step, length_of}
use Rattle.sequence.specs.declared.Step.{Step}
use Rattle.sequence.specs.declared.Sequence.{Sequence}
use Rattle.playback.specs.declared.Sent.{Sent}
use Rattle.playback.specs.declared.Playback.{Playback}
use Rattle.playback.specs.Pairs.{pairs}
use Rattle.playback.specs.State.{answer_none, answer_done, blank_sent}
use Rattle.playback.specs.Tick.{counted_playback, does_stop, does_leave, next_tan, after_leaving}
use Rattle.playback.specs.Answer.{is_answer_of, find_answered, is_error, answer_from, with_answer, is_all_done}
use Rattle.playback.proofs.Leaves.{leaves_within}
use Rattle.replay.specs.Run.{PlaybackEvent, tick, answer, message, ends, State, going, done, aborted, step_of, sent_at, Says, SaysAt}
use Rattle.replay.proofs.Follows.{Good, tick_state, tick_shape, verdict, answer_state, answer_shape, matched, heard}

-- the E.7 is of step i, which has left
pub record Matches (sequence : Sequence) (p : Playback) (slot : ℕ) (reply : Reply) (i : ℕ) : Type 0 where
  pub has_left : i < p.sent
  pub own_slot : (get_or sequence.steps i blank_step).slot ≡ slot
  pub own_tan : (sent_at p i).tan ≡ reply.tan
  pub own_function : (get_or sequence.steps i blank_step).function ≡ reply.function
  pub own_state : (get_or sequence.steps i blank_step).state ≡ reply.state

-- ---- the step that is found passes the test

record Found (n k r : ℕ) (test : Step × Sent → Bool) (ss : List Step) (cs : List Sent) : Type 0 where
  j : ℕ
  within : j < n
  is : r ≡ k + j
  hit : test (get_or ss j blank_step, get_or cs j blank_sent) ≡ true

found : (n k : ℕ) (test : Step × Sent → Bool) (ss : List Step) (cs : List Sent) → first_from 64 test k (take n (pairs ss cs)) < 64
    → Found n k (first_from 64 test k (take n (pairs ss cs))) test ss cs
found zero k test ss cs h = absurd (omega arith)
found (suc n) k test [] cs h = absurd (omega arith)
found (suc n) k test (s ∷ ss) [] h = absurd (omega arith)
found (suc n) k test (s ∷ ss) (c ∷ cs) h = go (test (s, c)) refl h (λ l. found n (suc k) test ss cs l)
  where
    go : (b : Bool) → test (s, c) ≡ b → cond b k (first_from 64 test (suc k) (take n (pairs ss cs))) < 64
        → (first_from 64 test (suc k) (take n (pairs ss cs)) < 64 → Found n (suc k) (first_from 64 test (suc k) (take n (pairs ss cs))) test ss cs)
        → Found (suc n) k (cond b k (first_from 64 test (suc k) (take n (pairs ss cs)))) test (s ∷ ss) (c ∷ cs)
    go true e l r = record { j = 0; within = omega arith; is = omega arith; hit = e }
    go false e l r = let f = r l in record { j = suc f.j; within = omega (arith, f.within); is = omega (arith, f.is); hit = f.hit }

four : (a b c d : Bool) → (a && b && c && d) ≡ true → (a ≡ true) × ((b ≡ true) × ((c ≡ true) × (d ≡ true)))
four false b c d e = absurd (true≢false (sym e))
four true false c d e = absurd (true≢false (sym e))
four true true false d e = absurd (true≢false (sym e))
four true true true false e = absurd (true≢false (sym e))
four true true true true e = (refl, (refl, (refl, refl)))

module _ (sequence : Sequence) (p : Playback) (slot : ℕ) (reply : Reply) where
  pub matching : leb 64 (matched sequence p slot reply) ≡ false → Matches sequence p slot reply (matched sequence p slot reply)
  unfolding find_answered
  matching h =
      let test : Step × Sent → Bool = λ x. is_answer_of slot reply.tan reply.function reply.state x.0 x.1 in
      let f = found p.sent 0 test sequence.steps p.commands (leb-false 64 _ h) in
      let e : f.j ≡ matched sequence p slot reply = omega (arith, f.is) in
      let s = get_or sequence.steps f.j blank_step in
      let c = get_or p.commands f.j blank_sent in
      let q = four (eqb s.slot slot) (eqb c.tan reply.tan) (eqb s.function reply.function) (eqb s.state reply.state) f.hit in
      subst (Matches sequence p slot reply) e
      (record {
        has_left = f.within;
        own_slot = eqb-true _ _ q.0;
        own_tan = eqb-true _ _ q.1.0;
        own_function = eqb-true _ _ q.1.1.0;
        own_state = eqb-true _ _ q.1.1.1;
      })

-- of a playback that lasts
abbrev pub SaidAt : (ℕ → Type 0) → State → ℕ → Type 0
SaidAt P (going p tan) i = Says P p i
SaidAt P (done p) i = Unit {0}
SaidAt P aborted i = Unit {0}

-- what is said of the answer beside a step: not of none, and no other answer takes it back
pub record Lasting (P : ℕ → Type 0) : Type 0 where
  pub not_blank : ¬ P answer_none
  pub stays : (a status : ℕ) → (a ≡ answer_done → ⊥) → P a → P (answer_from status)

-- the E.7 is of step i, is no error, and says this of it
pub record Tells (P : ℕ → Type 0) (sequence : Sequence) (p : Playback) (slot : ℕ) (reply : Reply) (i : ℕ) : Type 0 where
  pub matches : Matches sequence p slot reply i
  pub no_error : is_error (status_number reply.status) reply.error ≡ false
  pub told : P (answer_from (status_number reply.status))

module _ (P : ℕ → Type 0) (sequence : Sequence) (p : Playback) (g : Good p) (slot : ℕ) (reply : Reply) where
  -- the answer beside the step that is found, and beside another
  pub marked_here : leb 64 (matched sequence p slot reply) ≡ false
      → (sent_at (heard sequence p slot reply) (matched sequence p slot reply)).answer ≡ answer_from (status_number reply.status)
  unfolding with_answer
  marked_here l =
      ap (λ (c : Sent). c.answer)
      (get_or-set_same p.commands (matched sequence p slot reply) _ blank_sent (omega (arith, leb-false 64 (matched sequence p slot reply) l, g.cells)))

  pub marked_other : (i : ℕ) → (i ≡ matched sequence p slot reply → ⊥) → (sent_at (heard sequence p slot reply) i).answer ≡ (sent_at p i).answer
  unfolding with_answer
  marked_other i d = ap (λ (c : Sent). c.answer) (get_or-set_other p.commands (matched sequence p slot reply) i _ blank_sent d)

  pub same_sent : (heard sequence p slot reply).sent ≡ p.sent
  unfolding with_answer
  same_sent = refl

  newly : (i : ℕ) → leb 64 (matched sequence p slot reply) ≡ false → is_error (status_number reply.status) reply.error ≡ false
      → Says P (heard sequence p slot reply) i → Says P p i ⊎ Tells P sequence p slot reply i
  newly i l f h = go (eqb i (matched sequence p slot reply)) refl
    where
      go : (b : Bool) → eqb i (matched sequence p slot reply) ≡ b → Says P p i ⊎ Tells P sequence p slot reply i
      go true e =
          let q = eqb-true i (matched sequence p slot reply) e in
          inr
          (record {
            matches = subst (Matches sequence p slot reply) (sym q) (matching sequence p slot reply l);
            no_error = f;
            told = subst P (ap (λ (j : ℕ). (sent_at (heard sequence p slot reply) j).answer) q ∙ marked_here l) h.1;
          })
      go false e = inl (omega (arith, h.0, same_sent), subst P (marked_other i (eqb-false i (matched sequence p slot reply) e)) h.1)

  by_verdict : (tan i : ℕ) (a b c d : Bool) → SaysAt P (answer_state (verdict a b c d) p (heard sequence p slot reply) tan) i
      → Says P p i ⊎ ((a ≡ false) × ((c ≡ false) × Says P (heard sequence p slot reply) i))
  by_verdict tan i true b c d h = inl h
  by_verdict tan i false true c d h = inl h
  by_verdict tan i false false true d h = absurd h
  by_verdict tan i false false false true h = inr (refl, (refl, h))
  by_verdict tan i false false false false h = inr (refl, (refl, h))

  -- AN ANSWER MARKS ITS OWN STEP
  pub by_answer : (tan i : ℕ) → SaysAt P (step_of sequence (going p tan) (answer slot reply)) i → Says P p i ⊎ Tells P sequence p slot reply i
  by_answer tan i h =
      go (by_verdict tan i (leb 64 (matched sequence p slot reply)) (eqb (get_or p.commands (matched sequence p slot reply) blank_sent).answer answer_done)
      (is_error (status_number reply.status) reply.error) (is_all_done (heard sequence p slot reply) (length_of sequence))
      (subst (λ (s : State). SaysAt P s i) (answer_shape sequence p slot reply tan) h))
    where
      go : Says P p i
          ⊎ ((leb 64 (matched sequence p slot reply) ≡ false) × ((is_error (status_number reply.status) reply.error ≡ false) × Says P (heard sequence p slot reply) i))
          → Says P p i ⊎ Tells P sequence p slot reply i
      go (inl x) = inl x
      go (inr x) = newly i x.0 x.1.0 x.1.1

  -- ---- and what is said of a step stays

  marked_stays : Lasting P → (i : ℕ) → leb 64 (matched sequence p slot reply) ≡ false
      → eqb (get_or p.commands (matched sequence p slot reply) blank_sent).answer answer_done ≡ false → Says P p i → Says P (heard sequence p slot reply) i
  marked_stays w i l f h = go (eqb i (matched sequence p slot reply)) refl
    where
      go : (b : Bool) → eqb i (matched sequence p slot reply) ≡ b → Says P (heard sequence p slot reply) i
      go true e =
          let q = eqb-true i (matched sequence p slot reply) e in (
            omega (arith, h.0, same_sent),
            subst P (sym (ap (λ (j : ℕ). (sent_at (heard sequence p slot reply) j).answer) q ∙ marked_here l))
                (w.stays _ (status_number reply.status) (eqb-false _ _ f) (subst (λ (j : ℕ). P (sent_at p j).answer) q h.1)),
          )
      go false e = (omega (arith, h.0, same_sent), subst P (sym (marked_other i (eqb-false i (matched sequence p slot reply) e))) h.1)

  answer_keeps : Lasting P → (tan i : ℕ) (a b c d : Bool) → leb 64 (matched sequence p slot reply) ≡ a
      → eqb (get_or p.commands (matched sequence p slot reply) blank_sent).answer answer_done ≡ b
      → Says P p i → SaidAt P (answer_state (verdict a b c d) p (heard sequence p slot reply) tan) i
  answer_keeps w tan i true b c d x y h = h
  answer_keeps w tan i false true c d x y h = h
  answer_keeps w tan i false false true d x y h = tt
  answer_keeps w tan i false false false true x y h = tt
  answer_keeps w tan i false false false false x y h = marked_stays w i x y h

  -- WHERE THE PLAYBACK LASTS, THE STEP THAT IS FOUND HAS BEEN TOLD, NOW OR BEFORE
  pub told_now : (tan : ℕ) → leb 64 (matched sequence p slot reply) ≡ false → P answer_done → P (answer_from (status_number reply.status))
      → SaidAt P (step_of sequence (going p tan) (answer slot reply)) (matched sequence p slot reply)
  told_now tan l d t =
      subst (λ (s : State). SaidAt P s (matched sequence p slot reply)) (sym (answer_shape sequence p slot reply tan))
      (go (leb 64 (matched sequence p slot reply)) (eqb (get_or p.commands (matched sequence p slot reply) blank_sent).answer answer_done)
      (is_error (status_number reply.status) reply.error) (is_all_done (heard sequence p slot reply) (length_of sequence)) l refl)
    where
      go : (a b c e : Bool) → a ≡ false → eqb (get_or p.commands (matched sequence p slot reply) blank_sent).answer answer_done ≡ b
          → SaidAt P (answer_state (verdict a b c e) p (heard sequence p slot reply) tan) (matched sequence p slot reply)
      go true b c e q y = absurd (true≢false q)
      go false true c e q y = ((matching sequence p slot reply l).has_left, subst P (sym (eqb-true _ _ y)) d)
      go false false true e q y = tt
      go false false false true q y = tt
      go false false false false q y = (omega (arith, (matching sequence p slot reply l).has_left, same_sent), subst P (sym (marked_here l)) t)

below : (i n : ℕ) → i < n + 1 → (i ≡ n → ⊥) → i < n
below i n h d = go (eq-or-lt_of_le k)
  where
    k : i ≤ n
    k = omega arith

    go : (i ≡ n) ⊎ (i < n) → i < n
    go (inl e) = absurd (d e)
    go (inr l) = l

-- the cells after a step has left
abbrev left_cells : Playback → ℕ → List Sent
left_cells p tan = set p.commands p.sent (record { tan = next_tan tan; answer = answer_none; left = more p.ticks 1 })

module _ (P : ℕ → Type 0) (w : Lasting P) where
  by_tests : (a b : Bool) (p : Playback) (mm tan i : ℕ) → length p.commands ≡ 64 → (b ≡ true → p.sent < 64)
      → SaysAt P (tick_state a b (counted_playback p mm) tan) i → Says P p i
  unfolding counted_playback after_leaving
  by_tests true b p mm tan i n k h = absurd h
  by_tests false false p mm tan i n k h = h
  by_tests false true p mm tan i n k h = go (eqb i p.sent) refl
    where
      go : (b : Bool) → eqb i p.sent ≡ b → Says P p i
      go true e =
          let q = eqb-true i p.sent e in
          absurd
          (w.not_blank
          (subst P
          (ap (λ (j : ℕ). (get_or (left_cells p tan) j blank_sent).answer) q
          ∙ ap (λ (c : Sent). c.answer) (get_or-set_same p.commands p.sent _ blank_sent (omega (arith, n, k refl))))
          h.1))
      go false e =
          let q = eqb-false i p.sent e in
          let o = get_or-set_other p.commands p.sent i (record { tan = next_tan tan; answer = answer_none; left = more p.ticks 1 }) blank_sent q in
          (below i p.sent h.0 q, subst P (ap (λ (c : Sent). c.answer) o) h.1)

  tick_keeps : (a b : Bool) (p : Playback) (mm tan i : ℕ) → Says P p i → SaidAt P (tick_state a b (counted_playback p mm) tan) i
  unfolding counted_playback after_leaving
  tick_keeps true b p mm tan i h = tt
  tick_keeps false false p mm tan i h = h
  tick_keeps false true p mm tan i h =
      let o = get_or-set_other p.commands p.sent i (record { tan = next_tan tan; answer = answer_none; left = more p.ticks 1 }) blank_sent (λ e. omega (arith, h.0)) in
      (omega (arith, h.0), subst P (ap (λ (c : Sent). c.answer) (sym o)) h.1)

  -- A TICK GIVES NO STEP AN ANSWER
  pub by_tick : (sequence : Sequence) (p : Playback) → Good p → (mm tan i : ℕ) → SaysAt P (step_of sequence (going p tan) (tick mm)) i → Says P p i
  unfolding counted_playback
  by_tick sequence p g mm tan i h =
      by_tests (does_stop (counted_playback p mm)) (does_leave (counted_playback p mm) sequence.steps (length_of sequence)) p mm tan i g.cells
      (leaves_within (counted_playback p mm) sequence.steps (length_of sequence)) (subst (λ (s : State). SaysAt P s i) (tick_shape p sequence tan mm) h)

  -- WHAT IS SAID OF A STEP STAYS, WHILE THE PLAYBACK LASTS
  pub says_on : (sequence : Sequence) (p : Playback) → Good p → (tan i : ℕ) (e : PlaybackEvent) → Says P p i → SaidAt P (step_of sequence (going p tan) e) i
  says_on sequence p g tan i (tick mm) h =
      subst (λ (s : State). SaidAt P s i) (sym (tick_shape p sequence tan mm))
      (tick_keeps (does_stop (counted_playback p mm)) (does_leave (counted_playback p mm) sequence.steps (length_of sequence)) p mm tan i h)
  says_on sequence p g tan i (answer slot reply) h =
      subst (λ (s : State). SaidAt P s i) (sym (answer_shape sequence p slot reply tan))
      (answer_keeps P sequence p g slot reply w tan i _ _ (is_error (status_number reply.status) reply.error)
      (is_all_done (heard sequence p slot reply) (length_of sequence)) refl refl h)
  says_on sequence p g tan i message h = h
  says_on sequence p g tan i ends h = tt
