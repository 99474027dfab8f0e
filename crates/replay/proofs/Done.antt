-- Where all steps are done, every step of the sequence has left and is done.
use mathlib.Core.Path.{◌≡◌, refl, sym}
use mathlib.Core.Bool.{Bool, true, false, not, ◌&&◌, ◌||◌, true≢false}
use mathlib.Core.List.{List, [], ◌∷◌}
use Prim.Native.Nat.{ℕ, zero, suc, ◌≤◌, ◌<◌}
use native.Mathlib.Omega.{arith}
use borrow.Author.Tests.{le-leb, leb-true, eq-eqb, eqb-true}
use lib.Dec.{eqb, leb}
use lib.ListN.{get_or, take, length}
use Rattle.arrays.specs.Arrays.{some}
use Rattle.message.specs.Fields.{status_number}
use Rattle.sequence.specs.Sequence.{length_of}
use Rattle.sequence.specs.declared.Sequence.{Sequence}
use Rattle.playback.specs.declared.Sent.{Sent}
use Rattle.playback.specs.declared.Playback.{Playback}
use Rattle.playback.specs.State.{answer_done, blank_sent, is_undone}
use Rattle.playback.specs.Tick.{counted_playback, does_stop, does_leave}
use Rattle.playback.specs.Answer.{is_error, some_undone, is_all_done}
use Rattle.replay.specs.Run.{PlaybackEvent, tick, answer, message, ends, State, going, done, aborted, step_of, play_run_from, sent_at}
use Rattle.replay.proofs.Follows.{Good, tick_state, tick_shape, verdict, answer_state, answer_shape, matched, heard}

abbrev pub Finished : Sequence → State → Type 0
Finished sequence (going p tan) = Unit {0}
Finished sequence (done p) = is_all_done p (length_of sequence) ≡ true
Finished sequence aborted = Unit {0}

finished_tick : (sequence : Sequence) (a b : Bool) (q : Playback) (tan : ℕ) → Finished sequence (tick_state a b q tan)
finished_tick sequence true b q tan = tt
finished_tick sequence false true q tan = tt
finished_tick sequence false false q tan = tt

finished_answer : (sequence : Sequence) (a b c d : Bool) (p q : Playback) (tan : ℕ) → is_all_done q (length_of sequence) ≡ d
    → Finished sequence (answer_state (verdict a b c d) p q tan)
finished_answer sequence true b c d p q tan e = tt
finished_answer sequence false true c d p q tan e = tt
finished_answer sequence false false true d p q tan e = tt
finished_answer sequence false false false true p q tan e = e
finished_answer sequence false false false false p q tan e = tt

finished_step : (sequence : Sequence) (s : State) (e : PlaybackEvent) → Finished sequence s → Finished sequence (step_of sequence s e)
finished_step sequence (done p) e h = h
finished_step sequence aborted e h = tt
finished_step sequence (going p tan) (tick mm) h = rw tick_shape (finished_tick sequence (does_stop (counted_playback p mm)) (does_leave (counted_playback p mm) sequence.steps (length_of sequence)) (counted_playback p mm) tan)
finished_step sequence (going p tan) (answer slot reply) h =
    rw answer_shape
    (finished_answer sequence (leb 64 (matched sequence p slot reply)) (eqb (get_or p.commands (matched sequence p slot reply) blank_sent).answer answer_done)
    (is_error (status_number reply.status) reply.error) (is_all_done (heard sequence p slot reply) (length_of sequence)) p (heard sequence p slot reply) tan refl)
finished_step sequence (going p tan) message h = tt
finished_step sequence (going p tan) ends h = tt

pub finished : (sequence : Sequence) (es : List PlaybackEvent) (s : State) → Finished sequence s → Finished sequence (play_run_from sequence s es)
finished sequence [] s h = h
finished sequence (e ∷ es) s h = finished sequence es (step_of sequence s e) (finished_step sequence s e h)

none_undone : (n : ℕ) (cs : List Sent) (i : ℕ) → not (some is_undone (take n cs)) ≡ true → i < n → n ≤ length cs → (get_or cs i blank_sent).answer ≡ answer_done
none_undone zero cs i e h k = absurd (omega arith)
none_undone (suc n) [] i e h k = absurd (omega arith)
none_undone (suc n) (c ∷ cs) i e h k = go (eqb c.answer 2) refl i e h (λ j f l. none_undone n cs j f l (omega arith))
  where
    go : (b : Bool) → eqb c.answer 2 ≡ b → (j : ℕ) → not (not b || some is_undone (take n cs)) ≡ true → j < suc n
        → ((j : ℕ) → not (some is_undone (take n cs)) ≡ true → j < n → (get_or cs j blank_sent).answer ≡ answer_done) → (get_or (c ∷ cs) j blank_sent).answer ≡ answer_done
    go true q zero f l r = eqb-true c.answer 2 q
    go true q (suc j) f l r = r j f (omega arith)
    go false q j f l r = absurd (true≢false (sym f))

pub both : (a b : Bool) → (a && b) ≡ true → (a ≡ true) × (b ≡ true)
both true b e = (refl, e)
both false b e = absurd (true≢false (sym e))

-- of every step
pub each_done : (sequence : Sequence) (p : Playback) → Good p → Finished sequence (done p) → (i : ℕ) → i < length_of sequence
    → (i < p.sent) × ((sent_at p i).answer ≡ answer_done)
unfolding is_all_done some_undone
each_done sequence p g h i k =
    let e = both (leb (length_of sequence) p.sent) (not (some is_undone (take p.sent p.commands))) h in
    let l : i < p.sent = omega (arith, leb-true (length_of sequence) p.sent e.0) in
    (l, none_undone p.sent p.commands i e.1 l (omega (arith, g.cells, g.within)))

-- and the other way
undone_none : (n : ℕ) (cs : List Sent) → n ≤ length cs → ((i : ℕ) → i < n → (get_or cs i blank_sent).answer ≡ answer_done) → some is_undone (take n cs) ≡ false
undone_none zero cs k h = refl
undone_none (suc n) [] k h = absurd (omega arith)
undone_none (suc n) (c ∷ cs) k h = rw (eq-eqb c.answer answer_done (h 0 (omega arith))) (undone_none n cs (omega arith) (λ i l. h (suc i) (omega arith)))

pub all_done_is : (sequence : Sequence) (p : Playback) → Good p → length_of sequence ≤ p.sent → ((i : ℕ) → i < p.sent → (sent_at p i).answer ≡ answer_done)
    → is_all_done p (length_of sequence) ≡ true
unfolding is_all_done some_undone
all_done_is sequence p g l h =
    rw (le-leb (length_of sequence) p.sent l, undone_none p.sent p.commands (omega (arith, g.cells, g.within)) h)
