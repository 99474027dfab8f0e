-- What a log says of steps: which indications began and finished one, how it stands, and the steps and clients of a whole log.
use Rattle.std.specs.Prelude.{ℕ, ◌≡◌, Bool, true, false, not, ◌&&◌, cond, List, [], ◌∷◌, ◌++◌, map, eqb, length}
use Rattle.octets.specs.Pick.{pick}
use Rattle.arrays.specs.Arrays.{some, those, pad_to}
use Rattle.message.specs.{Fields.status_number, declared.Execution.Execution}
use Rattle.client.specs.{Records.blank_record, declared.ClientRecord.ClientRecord}
use Rattle.sequence.specs.{Sequence.blank_step, declared.Step.Step, declared.Sequence.Sequence}

-- an E.4 that counts: the slot that sent it, what is read of it, the error of its E.5, the ticks and millimetres counted then, the preferred trigger
-- of its function in the pool then loaded, and what is to be kept with its client
pub record Entry : Type 0 where
  pub slot : ℕ
  pub message : Execution
  pub error : ℕ
  pub ticks : ℕ
  pub distance : ℕ
  pub trigger : ℕ
  pub client : ClientRecord

-- its status, as two bits
abbrev pub status_in : Entry → ℕ
status_in x = status_number x.message.status

-- ---- the indications of a step

-- of this client and TAN, and answered so
abbrev pub is_answered : ℕ → ℕ → ℕ → Entry → Bool
is_answered error slot tan x = (eqb slot x.slot && eqb tan x.message.tan) && eqb x.error error

abbrev pub is_accepted : ℕ → ℕ → Entry → Bool
is_accepted slot tan x = is_answered 0x00 slot tan x

-- of the step that b began, answered so, and of this status
abbrev pub is_told : ℕ → ℕ → Entry → Entry → Bool
is_told error s b x =
    is_answered error b.slot b.message.tan x
    && ((eqb b.message.function x.message.function && eqb b.message.state x.message.state) && eqb (status_in x) s)

-- "10 (done, this message's value kept)", answered 00; "11 (failed, answer FF)"
abbrev pub is_finish : Entry → Entry → Bool
is_finish b x = is_told 0x00 0b10 b x

abbrev pub is_failure : Entry → Entry → Bool
is_failure b x = is_told 0xFF 0b11 b x

-- the first of the log that passes the test
abbrev pub FirstOf : (Entry → Bool) → List Entry → Entry → Type 0
FirstOf p log x = (others : List Entry) × (those p log ≡ x ∷ others)

-- "slot, function, state, trigger kind and mark of the indication that began it": "The mark is ticks since the start, or millimetres if the preferred
-- trigger is 2 in the pool then loaded"
pub record Begins (x : Entry) (s : Step) : Type 0 where
  pub slot : s.slot ≡ x.slot
  pub function : s.function ≡ x.message.function
  pub state : s.state ≡ x.message.state
  pub kind : s.distance ≡ pick (eqb x.trigger 2) 1 0
  pub mark : s.mark ≡ pick (eqb x.trigger 2) x.distance x.ticks

-- ---- how a step stands

pub data Standing : Type 0 where
  was_one_shot still_open was_done was_failed : Standing

-- "status 00 one-shot with its value, 01 open", by the message that began it; done or failed, by one that came after
abbrev pub stands_as : List Entry → Entry → Standing
stands_as log b =
    pick (eqb (status_in b) 0b00) was_one_shot (pick (some (is_finish b) log) was_done (pick (some (is_failure b) log) was_failed still_open))

abbrev pub is_open_by : Standing → Bool
is_open_by was_one_shot = false
is_open_by still_open = true
is_open_by was_done = false
is_open_by was_failed = false

abbrev pub is_open_in : List Entry → Entry → Bool
is_open_in log b = is_open_by (stands_as log b)

-- ---- all that was begun

-- answered 00, and none before it of the same client and TAN was
abbrev pub is_first : List Entry → Entry → Bool
is_first earlier x = eqb x.error 0x00 && not (some (is_accepted x.slot x.message.tan) earlier)

-- the entries that began a step
abbrev pub beginnings : List Entry → List Entry → List Entry
beginnings earlier [] = []
beginnings earlier (x ∷ log) =
    cond (is_first earlier x) (x ∷ beginnings (earlier ++ x ∷ []) log) (beginnings (earlier ++ x ∷ []) log)

-- "a step is open"
abbrev pub is_any_open : List Entry → Bool
is_any_open log = some (is_open_in log) (beginnings [] log)

-- ---- all that is kept

abbrev pub step_from : Entry → ℕ → Step
step_from x value = record {
  slot = x.slot;
  function = x.message.function;
  state = x.message.state;
  distance = pick (eqb x.trigger 2) 1 0;
  value = value;
  mark = pick (eqb x.trigger 2) x.distance x.ticks;
}

-- a step that was begun has the value of the first message that says done, and is not kept where there is none
abbrev pub finished_by : Entry → List Entry → List Step
finished_by b [] = []
finished_by b (f ∷ others) = step_from b f.message.value ∷ []

-- "only one-shot and done steps stay"
abbrev pub steps_by : List Entry → Entry → List Step
steps_by log b = pick (eqb (status_in b) 0b00) (step_from b b.message.value ∷ []) (finished_by b (those (is_finish b) log))

abbrev pub steps_of_all : List Entry → List Entry → List Step
steps_of_all log [] = []
steps_of_all log (b ∷ bs) = steps_by log b ++ steps_of_all log bs

-- "in order of start"
abbrev pub recorded_by : List Entry → List Step
recorded_by log = steps_of_all log (beginnings [] log)

-- "NAME, master NAME and both labels are kept with each client as its first step is stored, and dropped if none of its steps stays."
abbrev pub is_step_from : ℕ → Step → Bool
is_step_from slot s = eqb s.slot slot

abbrev pub is_from : ℕ → Entry → Bool
is_from slot x = eqb x.slot slot

abbrev pub client_of : List Entry → ClientRecord
client_of [] = blank_record
client_of (b ∷ others) = b.client

abbrev pub record_for : List Entry → ℕ → ClientRecord
record_for log slot = pick (some (is_step_from slot) (recorded_by log)) (client_of (those (is_from slot) (beginnings [] log))) blank_record

-- "A recording that keeps no step also keeps the old one."; the cells after the steps are blank. A recording gives edition 1
abbrev pub kept_from : List Entry → Sequence → Sequence
kept_from log old =
    pick (eqb (length (recorded_by log)) 0) old
    (record {
      count = length (recorded_by log);
      edition = 1;
      steps = pad_to blank_step 64 (recorded_by log);
      records = map (record_for log) (0 ∷ 1 ∷ 2 ∷ 3 ∷ 4 ∷ 5 ∷ 6 ∷ 7 ∷ []);
    })
