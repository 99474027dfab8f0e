-- What ticks and answers change, and what they keep.
use Prim.Native.Nat.{ℕ, suc, ◌+◌, ◌<◌}
use mathlib.Core.Path.{◌≡◌, refl, ap, ◌∙◌}
use mathlib.Core.Bool.{Bool, true, false, not, cond, true≢false}
use mathlib.Core.List.{List, [], ◌∷◌}
use native.Mathlib.Omega.{arith}
use borrow.Author.Tests.{leb-true, leb-false, lt-leb, eq-eqb}
use lib.Dec.{leb, eqb}
use lib.ListN.{length, get_or, take, length-set, length-take, get_or-replicate, get_or-eq_default}
use lib.Seq.{get_or-set_other}
use Rattle.octets.specs.Pick.{pick}
use Rattle.octets.specs.Numbers.{completed, no_match}
use Rattle.message.specs.Fields.{status_number}
use Rattle.message.specs.declared.Reply.{Reply}
use Rattle.arrays.specs.Arrays.{first_from}
use Rattle.sequence.specs.Sequence.{length_of}
use Rattle.sequence.specs.declared.Step.{Step}
use Rattle.sequence.specs.declared.Sequence.{Sequence}
use Rattle.playback.specs.declared.Sent.{Sent}
use Rattle.playback.specs.declared.Playback.{Playback}
use Rattle.playback.specs.Pairs.{pairs}
use Rattle.playback.specs.State.{answer_done, goes_on, to_ready, to_abort, same_end, blank_sent, blank_playback}
use Rattle.playback.specs.Tick.{Ticked, counted_playback, does_stop, does_leave, next_tan, after_leaving, tick_of}
use Rattle.playback.specs.Answer.{Answered, is_answer_of, find_answered, is_error, answer_from, with_answer, is_all_done, answered_of}
use Rattle.playback.specs.Promises.{Tidy, Changes}
use Rattle.playback.proofs.Leaves.{leaves_within, leaves_step}

-- ---- a tick and an answer by their tests

-- it stops; the next step leaves
abbrev pub ticked_by : Playback → ℕ → Bool → Bool → Ticked
ticked_by q tan stop leave =
    pick stop (record { end = to_abort; tan = tan; playback = q })
    (pick (not leave) (record { end = goes_on; tan = tan; playback = q })
    (record { end = goes_on; tan = next_tan tan; playback = after_leaving q (next_tan tan) }))

-- no step matches; it is done already; the answer is an error; all steps are done then
abbrev pub answered_by : Playback → Playback → Bool → Bool → Bool → Bool → Answered
answered_by p q missing done error last =
    pick missing (record { number = no_match; end = goes_on; playback = p })
    (pick done (record { number = completed; end = goes_on; playback = p })
    (pick error (record { number = completed; end = to_abort; playback = p })
    (pick last (record { number = completed; end = to_ready; playback = q })
    (record { number = completed; end = goes_on; playback = q }))))

-- ---- ticks

starting : Tidy blank_playback
unfolding blank_playback
starting = record { few = omega arith; cells = refl; blanks = λ i h. blanks i }
  where
    blanks : (i : ℕ) → get_or blank_playback.commands i blank_sent ≡ blank_sent
    blanks i = go (leb 64 i) refl
      where
        go : (t : Bool) → leb 64 i ≡ t → get_or blank_playback.commands i blank_sent ≡ blank_sent
        go true e = get_or-eq_default blank_playback.commands blank_sent (leb-true 64 i e)
        go false e = get_or-replicate 64 i blank_sent blank_sent (leb-false 64 i e)

counted_tidy : (p : Playback) (mm : ℕ) → Tidy p → Tidy (counted_playback p mm)
unfolding counted_playback
counted_tidy p mm t = record { few = t.few; cells = t.cells; blanks = t.blanks }

left_tidy : (p : Playback) (tan : ℕ) → p.sent < 64 → Tidy p → Tidy (after_leaving p tan)
unfolding after_leaving
left_tidy p tan h t = record {
  few = omega arith;
  cells = length-set p.commands p.sent _ ∙ t.cells;
  blanks = λ i k. get_or-set_other p.commands p.sent i _ blank_sent (λ e. omega arith) ∙ t.blanks i (omega arith);
}

ticking : (p : Playback) (q : Sequence) (tan mm : ℕ) → Tidy p → Tidy (tick_of p q tan mm).playback
unfolding pick tick_of
ticking p q tan mm t = go (does_stop (counted_playback p mm)) (does_leave (counted_playback p mm) q.steps (length_of q)) refl
  where
    r : Tidy (counted_playback p mm)
    r = counted_tidy p mm t

    go : (s l : Bool) → does_leave (counted_playback p mm) q.steps (length_of q) ≡ l
        → Tidy (ticked_by (counted_playback p mm) tan s l).playback
    go true l e = r
    go false false e = r
    go false true e = left_tidy (counted_playback p mm) (next_tan tan) (leaves_within (counted_playback p mm) q.steps (length_of q) e) r

ending :
    (p : Playback) (q : Sequence) (tan mm : ℕ) → (tick_of p q tan mm).end ≡ to_abort
    → ((tick_of p q tan mm).tan ≡ tan) × ((tick_of p q tan mm).playback.sent ≡ p.sent) × ((tick_of p q tan mm).playback.commands ≡ p.commands)
unfolding pick counted_playback tick_of
ending p q tan mm = go (does_stop (counted_playback p mm)) (does_leave (counted_playback p mm) q.steps (length_of q))
  where
    at : Bool → Bool → Ticked
    at = ticked_by (counted_playback p mm) tan

    go : (s l : Bool) → (at s l).end ≡ to_abort → ((at s l).tan ≡ tan) × ((at s l).playback.sent ≡ p.sent) × ((at s l).playback.commands ≡ p.commands)
    go true l e = (refl, refl, refl)
    go false true e = absurd (true≢false (ap (same_end goes_on) e))
    go false false e = absurd (true≢false (ap (same_end goes_on) e))

-- ---- answers

first_below : {X : Type 0} (none : ℕ) (p : X → Bool) (l : List X) (i : ℕ) → first_from none p i l < none → first_from none p i l < i + length l
first_below none p [] i h = absurd (omega arith)
first_below none p (x ∷ l) i h = go (p x) (first_below none p l (suc i)) h
  where
    go : (t : Bool) → (first_from none p (suc i) l < none → first_from none p (suc i) l < suc i + length l)
        → cond t i (first_from none p (suc i) l) < none → cond t i (first_from none p (suc i) l) < i + suc (length l)
    go true f k = omega arith
    go false f k = let r = f k in omega arith

-- a step that an answer matches is a sent one
pub found_sent : (steps : List Step) (commands : List Sent) (sent slot tan function state : ℕ)
    → find_answered steps commands sent slot tan function state < 64 → find_answered steps commands sent slot tan function state < sent
unfolding find_answered
found_sent steps commands sent slot tan function state h =
    let l = take sent (pairs steps commands) in
    let r = first_below 64 (λ x. is_answer_of slot tan function state x.0 x.1) (take sent (pairs steps commands)) 0 h in
    omega (arith, length-take sent (pairs steps commands))

with_tidy : (p : Playback) (i a : ℕ) → i < p.sent → Tidy p → Tidy (with_answer p i a)
unfolding with_answer
with_tidy p i a h t = record {
  few = t.few;
  cells = length-set p.commands i _ ∙ t.cells;
  blanks = λ j k. get_or-set_other p.commands i j _ blank_sent (λ e. omega arith) ∙ t.blanks j k;
}

chosen_tidy : (p q : Playback) (m d e o : Bool) → Tidy p → (m ≡ false → Tidy q) → Tidy (answered_by p q m d e o).playback
unfolding pick
chosen_tidy p q true d e o t u = t
chosen_tidy p q false true e o t u = t
chosen_tidy p q false false true o t u = t
chosen_tidy p q false false false true t u = u refl
chosen_tidy p q false false false false t u = u refl

chosen_none : (p q : Playback) (m d e o : Bool) → (answered_by p q m d e o).number ≡ no_match → (answered_by p q m d e o).playback ≡ p
unfolding pick
chosen_none p q true d e o f = refl
chosen_none p q false true e o f = refl
chosen_none p q false false true o f = refl
chosen_none p q false false false true f = absurd (omega (arith, f))
chosen_none p q false false false false f = absurd (omega (arith, f))

module _ (p : Playback) (q : Sequence) (slot : ℕ) (r : Reply) where
  at : ℕ
  at = find_answered q.steps p.commands p.sent slot r.tan r.function r.state

  after : Playback
  after = with_answer p at (answer_from (status_number r.status))

  is_chosen :
      answered_of p q slot r
      ≡ answered_by p after (leb 64 at) (eqb (get_or p.commands at blank_sent).answer answer_done) (is_error (status_number r.status) r.error) (is_all_done after (length_of q))
  unfolding answered_of at after
  is_chosen = refl

  after_tidy : Tidy p → at < 64 → Tidy after
  unfolding at after
  after_tidy t h = with_tidy p at _ (found_sent q.steps p.commands p.sent slot r.tan r.function r.state h) t

  answering : Tidy p → Tidy (answered_of p q slot r).playback
  answering t = rw is_chosen (chosen_tidy p after _ _ _ _ t (λ f. after_tidy t (leb-false 64 at f)))

  further : (i : ℕ) → at ≡ i → i < 64 → (get_or p.commands i blank_sent).answer ≡ answer_done → answered_of p q slot r ≡ record { number = completed; end = goes_on; playback = p }
  unfolding pick
  further i e h k = rw (is_chosen, e, lt-leb 64 i h, eq-eqb _ _ k)

  unmatched : (answered_of p q slot r).number ≡ no_match → (answered_of p q slot r).playback ≡ p
  unmatched = rw is_chosen (chosen_none p after _ _ _ _)

pub changes : Changes
unfolding at
changes = record {
  starting = starting;
  ticking = ticking;
  answering = answering;
  bound = leaves_step;
  ending = ending;
  further = λ p q slot r i e h k. further p q slot r i e h k;
  unmatched = unmatched;
}
