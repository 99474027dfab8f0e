-- Each event does to a playback what it does to its projection.
use mathlib.Core.Path.{◌≡◌, refl, sym, ap, ◌∙◌}
use mathlib.Core.Bool.{Bool, true, false}
use mathlib.Core.List.{List, [], ◌∷◌}
use Prim.Native.Nat.{ℕ, suc, ◌+◌, ◌*◌, ◌≤◌, ◌<◌}
use native.Mathlib.Numerals.{add-one}
use native.Mathlib.Omega.{arith}
use borrow.Author.Tests.{leb-false}
use lib.Dec.{leb, eqb}
use lib.ListN.{length, get_or, take, length-set}
use Rattle.message.specs.Fields.{status_number}
use Rattle.message.specs.declared.Reply.{Reply}
use Rattle.sequence.specs.Sequence.{last_tick, length_of}
use Rattle.sequence.specs.declared.Sequence.{Sequence}
use Rattle.playback.specs.declared.Playback.{Playback}
use Rattle.octets.specs.Pick.{pick}
use Rattle.arrays.specs.Arrays.{more}
use Rattle.playback.specs.State.{answer_done, blank_sent, blank_playback}
use Rattle.playback.specs.Tick.{counted_playback, some_late, does_stop, does_leave, next_tan, after_leaving, tick_of}
use Rattle.playback.specs.Answer.{find_answered, is_error, with_answer, is_all_done, answered_of}
use Rattle.playback.specs.Answer as ans
use Rattle.replay.specs.Run.{PlaybackEvent, tick, answer, message, ends, State, going, done, aborted, after_tick, after_answer, step_of, play_run_from, Whole, Fair, ticks_of}
use Rattle.replay.proofs.Cells.{marks_in, sents_of, late_some, few, reached_is, length_sents, leave_cell, answer_cell}
use Rattle.playback.proofs.Leaves.{leaves_within, leaves_step}
use Rattle.playback.proofs.Changes.{ticked_by, answered_by}
use Rattle.ticks.specs.Queue as abs
use Rattle.ticks.proofs.Follows.{or_false}

-- ---- the projection

abbrev pub played : Playback → abs.Play
played p = record { ticked = p.ticks; moved = p.distance; sent = sents_of (take p.sent p.commands) }

abbrev pub project : State → abs.Queue
project (going p tan) = abs.playing (played p)
project (done p) = abs.over
project aborted = abs.over

-- ---- a tick and an answer by their tests

abbrev pub tick_state : Bool → Bool → Playback → ℕ → State
tick_state true l q tan = aborted
tick_state false true q tan = going (after_leaving q (next_tan tan)) (next_tan tan)
tick_state false false q tan = going q tan

pub tick_shape : (p : Playback) (sequence : Sequence) (tan mm : ℕ)
    → after_tick (tick_of p sequence tan mm) ≡ tick_state (does_stop (counted_playback p mm)) (does_leave (counted_playback p mm) sequence.steps (length_of sequence)) (counted_playback p mm) tan
unfolding pick after_tick tick_of
tick_shape p sequence tan mm = go (does_stop (counted_playback p mm)) (does_leave (counted_playback p mm) sequence.steps (length_of sequence))
  where
    go : (a b : Bool) → after_tick (ticked_by (counted_playback p mm) tan a b) ≡ tick_state a b (counted_playback p mm) tan
    go true b = refl
    go false true = refl
    go false false = refl

-- what an answer does: nothing, it aborts the playback, it is the last, or it marks its step
pub data Verdict : Type 0 where
  nothing : Verdict
  fails : Verdict
  finishes : Verdict
  marks : Verdict

-- by the tests: no step, a done step, an error, the last step done
abbrev pub verdict : Bool → Bool → Bool → Bool → Verdict
verdict true b c d = nothing
verdict false true c d = nothing
verdict false false true d = fails
verdict false false false true = finishes
verdict false false false false = marks

abbrev pub answer_state : Verdict → Playback → Playback → ℕ → State
answer_state nothing p q tan = going p tan
answer_state fails p q tan = aborted
answer_state finishes p q tan = done q
answer_state marks p q tan = going q tan

abbrev pub answer_event : Verdict → ℕ → abs.QueueEvent
answer_event nothing i = abs.message
answer_event fails i = abs.ends
answer_event finishes i = abs.ends
answer_event marks i = abs.answer i

module _ (sequence : Sequence) (p : Playback) (slot : ℕ) (reply : Reply) where
  abbrev pub matched : ℕ
  matched = find_answered sequence.steps p.commands p.sent slot reply.tan reply.function reply.state

  abbrev pub heard : Playback
  heard = with_answer p matched (ans.answer_from (status_number reply.status))

  abbrev pub verdict_of : Verdict
  verdict_of = verdict (leb 64 matched) (eqb (get_or p.commands matched blank_sent).answer answer_done) (is_error (status_number reply.status) reply.error) (is_all_done heard (length_of sequence))

  pub answer_shape : (tan : ℕ) → after_answer tan (answered_of p sequence slot reply)
      ≡ answer_state verdict_of p heard tan
  unfolding pick after_answer answered_of
  answer_shape tan = go (leb 64 matched) (eqb (get_or p.commands matched blank_sent).answer answer_done) (is_error (status_number reply.status) reply.error) (is_all_done heard (length_of sequence))
    where
      go : (a b c d : Bool) → after_answer tan (answered_by p heard a b c d) ≡ answer_state (verdict a b c d) p heard tan
      go true b c d = refl
      go false true c d = refl
      go false false true d = refl
      go false false false true = refl
      go false false false false = refl

  abbrev pub heard_event : abs.QueueEvent
  heard_event = answer_event verdict_of matched

-- the event as `ticks` has it
abbrev pub seen : Sequence → State → PlaybackEvent → abs.QueueEvent
seen sequence s (tick mm) = abs.tick mm
seen sequence (done p) (answer slot reply) = abs.message
seen sequence aborted (answer slot reply) = abs.message
seen sequence (going p tan) (answer slot reply) = heard_event sequence p slot reply
seen sequence s message = abs.message
seen sequence s ends = abs.ends

abbrev pub seen_all : Sequence → State → List PlaybackEvent → List abs.QueueEvent
seen_all sequence s [] = []
seen_all sequence s (e ∷ es) = seen sequence s e ∷ seen_all sequence (step_of sequence s e) es

-- ---- what every run keeps

pub record Good (p : Playback) : Type 0 where
  pub early : p.ticks < last_tick
  pub near : p.distance ≤ p.ticks * 65535
  pub cells : length p.commands ≡ 64
  pub within : p.sent ≤ 64

abbrev pub Sound : State → Type 0
Sound (going p tan) = Good p
Sound (done p) = Good p
Sound aborted = Unit {0}

pub sound_start : (tan : ℕ) → Sound (going blank_playback tan)
unfolding blank_playback
sound_start tan = record { early = omega arith; near = omega arith; cells = refl; within = omega arith }

-- no sum meets its bound
module _ (p : Playback) (mm : ℕ) (g : Good p) (f : mm ≤ 65535) where
  pub ticks_counted : (counted_playback p mm).ticks ≡ suc p.ticks
  unfolding counted_playback more
  ticks_counted = omega (arith, g.early)

  pub distance_counted : (counted_playback p mm).distance ≡ p.distance + mm
  unfolding counted_playback more
  distance_counted = omega (arith, g.early, g.near)

  pub sent_counted : (counted_playback p mm).sent ≡ p.sent
  unfolding counted_playback
  sent_counted = refl

  pub commands_counted : (counted_playback p mm).commands ≡ p.commands
  unfolding counted_playback
  commands_counted = refl

  pub stop_is : does_stop (counted_playback p mm) ≡ abs.stops (suc p.ticks) (sents_of (take p.sent p.commands))
  unfolding does_stop some_late
  stop_is = rw (ticks_counted, sent_counted, commands_counted, late_some)

  module _ (sequence : Sequence) (whole : Whole sequence) where
    pub leave_is : does_leave (counted_playback p mm) sequence.steps (length_of sequence)
        ≡ abs.reached (marks_in sequence) (length (sents_of (take p.sent p.commands))) (suc p.ticks) (p.distance + mm)
    leave_is =
        rw (
          leaves_step,
          ticks_counted,
          distance_counted,
          sent_counted,
          length_sents p.sent p.commands (omega (arith, g.within, g.cells)),
          reached_is sequence.steps (length_of sequence) p.sent (suc p.ticks) (p.distance + mm) (omega (arith, few sequence, whole)),
        )

    pub sim_tick : (tan : ℕ) → project (step_of sequence (going p tan) (tick mm)) ≡ abs.step (marks_in sequence) (project (going p tan)) (abs.tick mm)
    unfolding after_leaving
    sim_tick tan = rw tick_shape (go _ _ (sym stop_is) (sym leave_is) (leaves_within (counted_playback p mm) sequence.steps (length_of sequence)))
      where
        go : (a b : Bool) → abs.stops (suc p.ticks) (sents_of (take p.sent p.commands)) ≡ a
            → abs.reached (marks_in sequence) (length (sents_of (take p.sent p.commands))) (suc p.ticks) (p.distance + mm) ≡ b
            → (b ≡ true → (counted_playback p mm).sent < 64)
            → project (tick_state a b (counted_playback p mm) tan)
            ≡ abs.at_tick (abs.stops (suc p.ticks) (sents_of (take p.sent p.commands))) (marks_in sequence) (suc p.ticks) (p.distance + mm) (sents_of (take p.sent p.commands))
        go true b ea eb w = rw ea
        go false true ea eb w =
            rw (
              ea,
              eb,
              ticks_counted,
              distance_counted,
              sent_counted,
              commands_counted,
              add-one,
              leave_cell p.sent p.commands (next_tan tan) (suc p.ticks) (omega (arith, w refl, sent_counted, g.cells)),
            )
        go false false ea eb w = rw (ea, eb, ticks_counted, distance_counted, sent_counted, commands_counted)

    pub keeps_tick : (tan : ℕ) → Sound (step_of sequence (going p tan) (tick mm))
    unfolding after_leaving does_stop
    keeps_tick tan = rw tick_shape (go _ _ refl (leaves_within (counted_playback p mm) sequence.steps (length_of sequence)))
      where
        go : (a b : Bool) → does_stop (counted_playback p mm) ≡ a → (b ≡ true → (counted_playback p mm).sent < 64) → Sound (tick_state a b (counted_playback p mm) tan)
        go true b ea w = tt
        go false true ea w =
            record {
              early = leb-false last_tick _ (or_false _ _ ea).0;
              near = omega (arith, ticks_counted, distance_counted, g.near);
              cells = rw commands_counted (length-set p.commands _ _ ∙ g.cells);
              within = omega (arith, w refl);
            }
        go false false ea w =
            record {
              early = leb-false last_tick _ (or_false _ _ ea).0;
              near = omega (arith, ticks_counted, distance_counted, g.near);
              cells = rw commands_counted g.cells;
              within = omega (arith, sent_counted, g.within);
            }

-- ---- an answer

mark_is : (status : ℕ) → eqb (ans.answer_from status) 0 ≡ false
unfolding pick ans.answer_from
mark_is status = go (eqb status 1)
  where
    go : (b : Bool) → eqb (pick b 1 2) 0 ≡ false
    go true = refl
    go false = refl

module _ (p : Playback) (i status tan : ℕ) where
  sim_answer : (m : List abs.Mark) (v : Verdict) → project (answer_state v p (with_answer p i (ans.answer_from status)) tan) ≡ abs.step m (abs.playing (played p)) (answer_event v i)
  unfolding with_answer
  sim_answer m nothing = refl
  sim_answer m fails = refl
  sim_answer m finishes = refl
  sim_answer m marks = rw (answer_cell p.sent p.commands i (ans.answer_from status) (mark_is status))

  pub keeps_answer : (v : Verdict) → Good p → Sound (answer_state v p (with_answer p i (ans.answer_from status)) tan)
  unfolding with_answer
  keeps_answer nothing g = g
  keeps_answer fails g = tt
  keeps_answer finishes g = record { early = g.early; near = g.near; cells = length-set p.commands _ _ ∙ g.cells; within = g.within }
  keeps_answer marks g = record { early = g.early; near = g.near; cells = length-set p.commands _ _ ∙ g.cells; within = g.within }

-- ---- a run

abbrev pub FairOne : PlaybackEvent → Type 0
FairOne e = Fair (e ∷ [])

pub fair_head : (e : PlaybackEvent) (es : List PlaybackEvent) → Fair (e ∷ es) → FairOne e
fair_head (tick mm) es h = (h.0, tt)
fair_head (answer a r) es h = tt
fair_head message es h = tt
fair_head ends es h = tt

pub fair_tail : (e : PlaybackEvent) (es : List PlaybackEvent) → Fair (e ∷ es) → Fair es
fair_tail (tick mm) es h = h.1
fair_tail (answer a r) es h = h
fair_tail message es h = h
fair_tail ends es h = h

module _ (sequence : Sequence) (whole : Whole sequence) where
  pub keeps : (s : State) (e : PlaybackEvent) → FairOne e → Sound s → Sound (step_of sequence s e)
  keeps (done p) e f h = h
  keeps aborted e f h = tt
  keeps (going p tan) (tick mm) f g = keeps_tick p mm g f.0 sequence whole tan
  keeps (going p tan) (answer slot reply) f g =
      rw answer_shape (keeps_answer p (matched sequence p slot reply) (status_number reply.status) tan (verdict_of sequence p slot reply) g)
  keeps (going p tan) message f g = g
  keeps (going p tan) ends f g = tt

  pub follows_one : (s : State) (e : PlaybackEvent) → FairOne e → Sound s → project (step_of sequence s e) ≡ abs.step (marks_in sequence) (project s) (seen sequence s e)
  follows_one (done p) e f h = go e
    where
      go : (d : PlaybackEvent) → abs.over ≡ abs.step (marks_in sequence) abs.over (seen sequence (done p) d)
      go d = refl
  follows_one aborted e f h = refl
  follows_one (going p tan) (tick mm) f g = sim_tick p mm g f.0 sequence whole tan
  follows_one (going p tan) (answer slot reply) f g =
      rw answer_shape (sim_answer p (matched sequence p slot reply) (status_number reply.status) tan _ (verdict_of sequence p slot reply))
  follows_one (going p tan) message f g = refl
  follows_one (going p tan) ends f g = refl

  pub keeps_all : (es : List PlaybackEvent) (s : State) → Fair es → Sound s → Sound (play_run_from sequence s es)
  keeps_all [] s f h = h
  keeps_all (e ∷ es) s f h = keeps_all es (step_of sequence s e) (fair_tail e es f) (keeps s e (fair_head e es f) h)

  -- A RUN OF THE CALLS' DEFINITIONS IS A RUN OF THE PLAYBACK OF `ticks`
  pub follows : (es : List PlaybackEvent) (s : State) → Fair es → Sound s
      → project (play_run_from sequence s es) ≡ abs.queue_run_from (marks_in sequence) (project s) (seen_all sequence s es)
  follows [] s f h = refl
  follows (e ∷ es) s f h =
      follows es (step_of sequence s e) (fair_tail e es f) (keeps s e (fair_head e es f) h)
      ∙ ap (λ (r : abs.Queue). abs.queue_run_from (marks_in sequence) r (seen_all sequence (step_of sequence s e) es)) (follows_one s e (fair_head e es f) h)

-- with the same ticks
no_tick : (v : Verdict) (i : ℕ) (es : List abs.QueueEvent) → abs.tick_list (answer_event v i ∷ es) ≡ abs.tick_list es
no_tick nothing i es = refl
no_tick fails i es = refl
no_tick finishes i es = refl
no_tick marks i es = refl

pub same_ticks : (sequence : Sequence) (es : List PlaybackEvent) (s : State) → abs.tick_list (seen_all sequence s es) ≡ ticks_of es
same_ticks sequence [] s = refl
same_ticks sequence (tick mm ∷ es) s = ap (λ (l : List ℕ). mm ∷ l) (same_ticks sequence es (step_of sequence s (tick mm)))
same_ticks sequence (answer a r ∷ es) (done p) = same_ticks sequence es (done p)
same_ticks sequence (answer a r ∷ es) aborted = same_ticks sequence es aborted
same_ticks sequence (answer a r ∷ es) (going p tan) =
    let s = step_of sequence (going p tan) (answer a r) in
    no_tick (verdict_of sequence p a r) (matched sequence p a r) (seen_all sequence s es) ∙ same_ticks sequence es s
same_ticks sequence (message ∷ es) s = same_ticks sequence es (step_of sequence s message)
same_ticks sequence (ends ∷ es) s = same_ticks sequence es (step_of sequence s ends)
