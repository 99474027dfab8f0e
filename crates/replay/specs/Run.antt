-- Runs of a playback, event by event, by the definitions that the calls of crate `playback` meet: `tick_of` and `answered_of`.
use Rattle.std.specs.Prelude.{ℕ, zero, suc, ◌+◌, ◌-◌, ◌≤◌, ◌<◌, ◌≡◌, List, [], ◌∷◌, length, get_or, take}
use Rattle.octets.specs.Pick.{pick}
use Rattle.message.specs.declared.Reply.{Reply}
use Rattle.sequence.specs.Sequence.{most_steps, last_tick, blank_step, length_of}
use Rattle.sequence.specs.declared.Sequence.{Sequence}
use Rattle.playback.specs.{declared.Sent.Sent, declared.Playback.Playback, Tick.Ticked, Answer.Answered, Answer.answered_of}
use Rattle.playback.specs.State.{answer_none, goes_on, to_ready, to_abort, same_end, blank_sent, blank_playback}
use Rattle.playback.specs.Tick.{answer_ticks, tick_of, next_tan}
use Rattle.ticks.specs.Queue.{sum}

-- ---- events

pub data PlaybackEvent : Type 0 where
  -- an accepted tick, and the millimetres that it brings
  tick : ℕ → PlaybackEvent
  -- an E.7 of the client in this slot
  answer : ℕ → Reply → PlaybackEvent
  -- what the playback takes no notice of
  message : PlaybackEvent
  -- what aborts it from outside: the operator's word, an E.3, a client lost
  ends : PlaybackEvent

-- ---- states

pub data State : Type 0 where
  -- the playback, and the TAN of the last command
  going : Playback → ℕ → State
  -- all steps are done, and this is what the last answer left
  done : Playback → State
  aborted : State

unfoldable pub after_tick : Ticked → State
after_tick r = pick (same_end r.end goes_on) (going r.playback r.tan) aborted

unfoldable pub after_answer : ℕ → Answered → State
after_answer tan r = pick (same_end r.end to_ready) (done r.playback) (pick (same_end r.end to_abort) aborted (going r.playback tan))

-- ---- runs

abbrev pub step_of : Sequence → State → PlaybackEvent → State
step_of sequence (done p) e = done p
step_of sequence aborted e = aborted
step_of sequence (going p tan) (tick mm) = after_tick (tick_of p sequence tan mm)
step_of sequence (going p tan) (answer slot reply) = after_answer tan (answered_of p sequence slot reply)
step_of sequence (going p tan) message = going p tan
step_of sequence (going p tan) ends = aborted

abbrev pub play_run_from : Sequence → State → List PlaybackEvent → State
play_run_from sequence s [] = s
play_run_from sequence s (e ∷ es) = play_run_from sequence (step_of sequence s e) es

-- from the start, after a last command with this TAN
abbrev pub play_run : Sequence → ℕ → List PlaybackEvent → State
play_run sequence tan es = play_run_from sequence (going blank_playback tan) es

-- the playback lasts
abbrev pub Going : State → Type 0
Going (going p tan) = Unit {0}
Going (done p) = ⊥
Going aborted = ⊥

-- ---- what calls give: a sequence in an array of 64, and ticks of at most 65,535 mm

abbrev pub Whole : Sequence → Type 0
Whole sequence = length sequence.steps ≡ most_steps

abbrev pub Fair : List PlaybackEvent → Type 0
Fair [] = Unit {0}
Fair (tick mm ∷ es) = (mm ≤ 65535) × Fair es
Fair (answer slot reply ∷ es) = Fair es
Fair (message ∷ es) = Fair es
Fair (ends ∷ es) = Fair es

-- ---- what is said of a run

-- "Number the accepted ticks of a playback from 1": the millimetres of the ticks, in order
abbrev pub ticks_of : List PlaybackEvent → List ℕ
ticks_of [] = []
ticks_of (tick mm ∷ es) = mm ∷ ticks_of es
ticks_of (answer slot reply ∷ es) = ticks_of es
ticks_of (message ∷ es) = ticks_of es
ticks_of (ends ∷ es) = ticks_of es

-- step i of the playback: what was sent of it
abbrev pub sent_at : Playback → ℕ → Sent
sent_at p i = get_or p.commands i blank_sent

-- the playback lasts, and step i has left, at tick t
abbrev pub HasLeftAt : State → ℕ → ℕ → Type 0
HasLeftAt (going p tan) i t = (i < p.sent) × ((sent_at p i).left ≡ t)
HasLeftAt (done p) i t = ⊥
HasLeftAt aborted i t = ⊥

-- step i has left, and this holds of the answer beside it
abbrev pub Says : (ℕ → Type 0) → Playback → ℕ → Type 0
Says P p i = (i < p.sent) × P (sent_at p i).answer

abbrev pub SaysAt : (ℕ → Type 0) → State → ℕ → Type 0
SaysAt P (going p tan) i = Says P p i
SaysAt P (done p) i = Says P p i
SaysAt P aborted i = ⊥

abbrev pub Answer : ℕ → Type 0
Answer a = a ≡ answer_none → ⊥

-- step i has left, and is answered
abbrev pub HasAnswer : Playback → ℕ → Type 0
HasAnswer p i = Says Answer p i

abbrev pub AnsweredAt : State → ℕ → Type 0
AnsweredAt s i = SaysAt Answer s i

-- there is a step j, and tick t reaches its mark: t ticks, or, where the mark is in millimetres, the millimetres of the first t ticks
pub record Reaches (sequence : Sequence) (mms : List ℕ) (j t : ℕ) : Type 0 where
  pub there : j < length_of sequence
  pub by_ticks : (get_or sequence.steps j blank_step).distance ≡ 0 → (get_or sequence.steps j blank_step).mark ≤ t
  pub by_millimetres : ((get_or sequence.steps j blank_step).distance ≡ 0 → ⊥) → (get_or sequence.steps j blank_step).mark ≤ sum (take t mms)

-- "a step is due at the first tick that reaches its mark": step j, at tick t
pub record DueAt (sequence : Sequence) (mms : List ℕ) (j t : ℕ) : Type 0 where
  pub numbered : 1 ≤ t
  pub within : t ≤ length mms
  pub reaching : Reaches sequence mms j t
  pub first : (u : ℕ) → 1 ≤ u → u < t → ¬ Reaches sequence mms j u

-- t is "the latest of these ticks: for each step j up to i, the tick where j is due, plus i minus j"
pub record Latest (sequence : Sequence) (mms : List ℕ) (i t : ℕ) : Type 0 where
  -- none of them is later (and each of them is there)
  pub none_later : (j : ℕ) → j ≤ i → (d : ℕ) × DueAt sequence mms j d × (d + (i - j) ≤ t)
  -- it is one of them
  pub one_of_them : (j : ℕ) × (j ≤ i) × ((d : ℕ) × DueAt sequence mms j d × (d + (i - j) ≡ t))

-- the TAN, raised n times
abbrev pub raised : ℕ → ℕ → ℕ
raised tan zero = tan
raised tan (suc n) = next_tan (raised tan n)

-- the TANs of a playback that began after a command with TAN `start`
pub record Raised (start : ℕ) (p : Playback) (tan : ℕ) : Type 0 where
  pub last : tan ≡ raised start p.sent
  pub each : (i : ℕ) → i < p.sent → (sent_at p i).tan ≡ raised start (suc i)

-- why event e ends the playback p
pub data PlaybackCause (sequence : Sequence) (p : Playback) : PlaybackEvent → Type 0 where
  -- from outside
  outside : PlaybackCause sequence p ends
  -- an answer: the last step done, or an error
  answered : (slot : ℕ) (reply : Reply) → ((answered_of p sequence slot reply).end ≡ goes_on → ⊥) → PlaybackCause sequence p (answer slot reply)
  -- tick 36,000
  too_long : (mm : ℕ) → last_tick ≤ p.ticks + 1 → PlaybackCause sequence p (tick mm)
  -- a step with no answer 16 ticks after it left
  no_answer : (mm i : ℕ) → i < p.sent → (sent_at p i).answer ≡ answer_none → (sent_at p i).left + answer_ticks ≤ p.ticks + 1 → PlaybackCause sequence p (tick mm)
