-- A playback with no bytes and no slots in it: when its steps leave, and when it ends. Its steps are numbered 0, 1, 2, ..; each waits for a mark, in ticks
-- or in millimetres. A tick brings millimetres; every other event is a client's message. Ticks are numbered from 1.
use Rattle.std.specs.Prelude.{◌≡◌, Bool, true, false, not, ◌&&◌, ◌||◌, List, [], ◌∷◌, ◌++◌, ℕ, zero, suc, ◌+◌, ◌-◌, ◌≤◌, ◌<◌, T, leb, length, get_or, take}

-- ---- what the steps wait for

pub data Mark : Type 0 where
  ticks : ℕ → Mark
  millimetres : ℕ → Mark

-- the counters, t ticks and d millimetres, reach the mark
abbrev pub reaches : Mark → ℕ → ℕ → Bool
reaches (ticks m) t d = leb m t
reaches (millimetres m) t d = leb m d

-- there is a step i, and the counters reach its mark
abbrev pub reached : List Mark → ℕ → ℕ → ℕ → Bool
reached [] i t d = false
reached (m ∷ ms) zero t d = reaches m t d
reached (m ∷ ms) (suc i) t d = reached ms i t d

-- ---- what happens to a playback

pub data QueueEvent : Type 0 where
  -- a tick, and the millimetres that it brings
  tick : ℕ → QueueEvent
  -- a client answers a step
  answer : ℕ → QueueEvent
  -- a message that the playback takes no notice of
  message : QueueEvent
  -- a message that ends the playback
  ends : QueueEvent

-- ---- the state

-- a step that has left: the tick at which it left, and whether it is answered
pub record LeftStep : Type 0 where
  pub left : ℕ
  pub answered : Bool

-- a playback that lasts: its ticks, its millimetres, and the steps that have left, in order. The next step is number `length sent`
pub record Play : Type 0 where
  pub ticked : ℕ
  pub moved : ℕ
  pub sent : List LeftStep

pub data Queue : Type 0 where
  playing : Play → Queue
  over : Queue

abbrev pub queue_start : Queue
queue_start = playing (record { ticked = 0; moved = 0; sent = [] })

-- ---- one event

-- a step that left 16 ticks ago or more has no answer
abbrev pub overdue : ℕ → List LeftStep → Bool
overdue now [] = false
overdue now (s ∷ ss) = (not s.answered && leb (s.left + 16) now) || overdue now ss

-- tick t ends the playback
abbrev pub stops : ℕ → List LeftStep → Bool
stops t sent = leb 36000 t || overdue t sent

-- the next step leaves at tick t, if it is due
abbrev pub leave : Bool → ℕ → List LeftStep → List LeftStep
leave true t sent = sent ++ (record { left = t; answered = false } ∷ [])
leave false t sent = sent

-- tick t, which takes the distance to d: it ends the playback, or the next step leaves if it is due
abbrev pub at_tick : Bool → List Mark → ℕ → ℕ → List LeftStep → Queue
at_tick true marks t d sent = over
at_tick false marks t d sent = playing (record { ticked = t; moved = d; sent = leave (reached marks (length sent) t d) t sent })

abbrev pub answer_of : List LeftStep → ℕ → List LeftStep
answer_of [] i = []
answer_of (s ∷ ss) zero = record { left = s.left; answered = true } ∷ ss
answer_of (s ∷ ss) (suc i) = s ∷ answer_of ss i

abbrev pub step : List Mark → Queue → QueueEvent → Queue
step marks over e = over
step marks (playing p) (tick mm) =
    at_tick (stops (suc p.ticked) p.sent) marks (suc p.ticked) (p.moved + mm) p.sent
step marks (playing p) (answer i) = playing (record { ticked = p.ticked; moved = p.moved; sent = answer_of p.sent i })
step marks (playing p) message = playing p
step marks (playing p) ends = over

-- ---- a run

abbrev pub queue_run_from : List Mark → Queue → List QueueEvent → Queue
queue_run_from marks s [] = s
queue_run_from marks s (e ∷ es) = queue_run_from marks (step marks s e) es

abbrev pub queue_run : List Mark → List QueueEvent → Queue
queue_run marks es = queue_run_from marks queue_start es

abbrev pub QueueLasts : Queue → Type 0
QueueLasts (playing p) = Unit {0}
QueueLasts over = ⊥

-- ---- what is said of a run

-- the millimetres of the ticks, in order
abbrev pub tick_list : List QueueEvent → List ℕ
tick_list [] = []
tick_list (tick mm ∷ es) = mm ∷ tick_list es
tick_list (answer i ∷ es) = tick_list es
tick_list (message ∷ es) = tick_list es
tick_list (ends ∷ es) = tick_list es

abbrev pub sum : List ℕ → ℕ
sum [] = 0
sum (m ∷ ms) = m + sum ms

-- step j's mark is reached by the counters as they are after tick t: t ticks, and the millimetres of the first t ticks
abbrev pub reached_after : List Mark → List ℕ → ℕ → ℕ → Bool
reached_after marks mms j t = reached marks j t (sum (take t mms))

-- step j is due at tick t: the first tick that reaches its mark
pub record QueueDueAt (marks : List Mark) (es : List QueueEvent) (j t : ℕ) : Type 0 where
  pub numbered : 1 ≤ t
  pub within : t ≤ length (tick_list es)
  pub reaching : T (reached_after marks (tick_list es) j t)
  pub first : (u : ℕ) → 1 ≤ u → u < t → ¬ T (reached_after marks (tick_list es) j u)

-- t is the latest of these ticks: for each step j up to i, the tick where j is due, plus i minus j
pub record QueueLatest (marks : List Mark) (es : List QueueEvent) (i t : ℕ) : Type 0 where
  -- none of them is later (and each of them is there)
  pub none_later : (j : ℕ) → j ≤ i → (d : ℕ) × QueueDueAt marks es j d × (d + (i - j) ≤ t)
  -- it is one of them
  pub one_of_them : (j : ℕ) × (j ≤ i) × ((d : ℕ) × QueueDueAt marks es j d × (d + (i - j) ≡ t))

-- the ticks at which the steps left, in order
abbrev pub left_ats : List LeftStep → List ℕ
left_ats [] = []
left_ats (s ∷ ss) = s.left ∷ left_ats ss

abbrev pub leavings : Queue → List ℕ
leavings (playing p) = left_ats p.sent
leavings over = []

-- step i has left, and it left at tick t
abbrev pub LeavesAt : List Mark → List QueueEvent → ℕ → ℕ → Type 0
LeavesAt marks es i t = (i < length (leavings (queue_run marks es))) × (get_or (leavings (queue_run marks es)) i 0 ≡ t)

-- the same, as it happens: the run comes to a tick, the t-th, that takes the number of steps that have left from i to i + 1
pub record Leaves (marks : List Mark) (es : List QueueEvent) (i t : ℕ) : Type 0 where
  pub earlier : List QueueEvent
  pub mm : ℕ
  pub later : List QueueEvent
  pub split : es ≡ earlier ++ tick mm ∷ later
  pub number : suc (length (tick_list earlier)) ≡ t
  pub was : length (leavings (queue_run marks earlier)) ≡ i
  pub now : length (leavings (queue_run marks (earlier ++ tick mm ∷ []))) ≡ suc i

-- step i has left, and is answered
abbrev pub is_answered : List LeftStep → ℕ → Bool
is_answered [] i = false
is_answered (s ∷ ss) zero = s.answered
is_answered (s ∷ ss) (suc i) = is_answered ss i

abbrev pub QueueAnswered : Queue → ℕ → Type 0
QueueAnswered (playing p) i = T (is_answered p.sent i)
QueueAnswered over i = ⊥

-- the tick at which the step before step i left, and 0 for the first
abbrev pub before : List ℕ → ℕ → ℕ
before l zero = 0
before l (suc i) = get_or l i 0
