-- A playback of the master, from an accepted start, through any calls of any clients.
use Rattle.std.specs.Prelude.{ℕ, ◌+◌, ◌/◌, ◌%◌, ◌≤◌, ◌<◌, ◌≡◌, ◌⊎◌, List, [], ◌∷◌, ◌++◌, eqb, length, get_or}
use Rattle.octets.specs.{Pick.pick, Numbers.completed, Label.blank}
use Rattle.message.specs.Messages.{message_bytes}
use Rattle.message.specs.declared.Message.TheVariants.{Command}
use Rattle.sequence.specs.{Sequence.blank_step, declared.Step.Step}
use Rattle.replay.specs.Run.{sent_at, Latest}
use Rattle.master.specs.declared.Master.{Master}
use Rattle.master.specs.States as states
use Rattle.events.specs.Events.{Event, start, tick, answer, Sort, stops, hears, ticks, answers, loads, other, sort_of, apply, run_from, Given}
use Rattle.seen.specs.Words.{nth}

-- the master after an accepted start; the master before it is one that calls give
pub record Started (m : Master) : Type 0 where
  pub before : Master
  pub given : Given before
  pub accepted : (apply before start).number ≡ completed
  pub after : (apply before start).master ≡ m

abbrev pub Playing : Master → Type 0
Playing m = m.state ≡ states.playback

-- the playback of m lasts through these calls
abbrev pub Lasts : Master → List Event → Type 0
Lasts m [] = Playing m
Lasts m (e ∷ es) = Playing m × Lasts (apply m e).master es

-- "Number the accepted ticks of a playback from 1": the millimetres of those among these calls, in order
abbrev pub tick_by : Master → (e : Event) → Sort e → List ℕ
tick_by m e stops = []
tick_by m e (hears slot msg out) = []
tick_by m e (ticks mm out) = pick (eqb (apply m (tick mm out)).number completed) (mm ∷ []) []
tick_by m e (answers slot msg out) = []
tick_by m e (loads blocks) = []
tick_by m e (other n) = []

abbrev pub tick_in : Master → Event → List ℕ
tick_in m e = tick_by m e (sort_of e)

abbrev pub ticks_in : Master → List Event → List ℕ
ticks_in m [] = []
ticks_in m (e ∷ es) = tick_in m e ++ ticks_in (apply m e).master es

-- ---- steps and their commands

-- step i of the sequence, counted from 0
abbrev pub step_at : Master → ℕ → Step
step_at m i = get_or m.sequence.steps i blank_step

-- "The TAN .. rises by 1 before each new command, 255 to 0.": that of the command of step i, in a playback that starts with m
abbrev pub tan_of : Master → ℕ → ℕ
tan_of m i = (m.tan + i + 1) % 256

-- "slot, then the eight of E.6": "It goes to its own client with its own function, state and recorded value"
abbrev pub command_of : Master → ℕ → List ℕ
command_of m i =
    (step_at m i).slot
    ∷ message_bytes (Command (record { function = (step_at m i).function; state = (step_at m i).state; tan = tan_of m i; value = (step_at m i).value })) blank []

-- step i has left, at tick t: as the master has it
abbrev pub LeftAt : Master → ℕ → ℕ → Type 0
LeftAt m i t = (i < m.playback.sent) × ((sent_at m.playback i).left ≡ t)

-- and as it is seen: its tick is not past those of these calls
abbrev pub HasLeft : Master → List Event → ℕ → Type 0
HasLeft m es i = (t : ℕ) × (Latest m.sequence (ticks_in m es) i t × (t ≤ length (ticks_in m es)))

-- ---- answers

-- "An E.7 must match slot, TAN, function and state of a sent step": this one is of step i. Its byte 2 is the function, byte 3 has the state in bits 1 to 6
-- and the status in bits 7 and 8, byte 4 is the error, byte 5 the TAN
pub record IsOf (m : Master) (i slot : ℕ) (msg : List ℕ) : Type 0 where
  pub own_slot : slot ≡ (step_at m i).slot
  pub own_function : nth 2 msg ≡ (step_at m i).function
  pub own_state : nth 3 msg % 64 ≡ (step_at m i).state
  pub own_tan : nth 5 msg ≡ tan_of m i

-- among these calls is an accepted E.7 of step i, after the step has left, of which this holds
pub record Said (holds : List ℕ → Type 0) (m : Master) (es : List Event) (i : ℕ) : Type 0 where
  pub earlier : List Event
  pub slot : ℕ
  pub msg : List ℕ
  pub out : List ℕ
  pub later : List Event
  pub split : es ≡ earlier ++ answer slot msg out ∷ later
  pub lasts : Lasts m earlier
  pub accepted : (apply (run_from m earlier) (answer slot msg out)).number ≡ completed
  pub has_left : HasLeft m earlier i
  pub own : IsOf m i slot msg
  pub says : holds msg

-- the client of step i has answered its command
abbrev pub Replied : Master → List Event → ℕ → Type 0
Replied m es i = Said (λ msg. Unit {0}) m es i

-- "00 and 10 done": an E.7 that says so, without an error
abbrev pub Finishing : List ℕ → Type 0
Finishing msg = ((nth 3 msg / 64 ≡ 0b00) ⊎ (nth 3 msg / 64 ≡ 0b10)) × (nth 4 msg ≡ 0x00)

-- "11 aborts", and so does "an error answer"; there is no status above 11
abbrev pub Failing : List ℕ → Type 0
Failing msg = (0b11 ≤ nth 3 msg / 64) ⊎ (nth 4 msg ≡ 0x00 → ⊥)

-- step i is done: its client has said so
abbrev pub SaidDone : Master → List Event → ℕ → Type 0
SaidDone m es i = Said Finishing m es i
