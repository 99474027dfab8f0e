-- What a terminal reads of the master for its screen and for the status message. A reader is handed the part of the master that it reads; one that
-- reads the slots, the whole.
use Rattle.std.specs.Prelude.{ℕ, min, eqb, leb, get_or}
use Rattle.octets.specs.{Pick.pick, Numbers.completed, Numbers.wrong_slot}
use Rattle.client.specs.{Records.blank_record, Records.no_record, declared.Client.Client}
use Rattle.sequence.specs.{Sequence.most_steps, Sequence.blank_step, Sequence.length_of, declared.Sequence.Sequence}
use Rattle.recording.specs.{State.blank_taken, declared.Recording.Recording}
use Rattle.playback.specs.{State.blank_sent, Named.named_of, declared.Playback.Playback, declared.named.Named.Named}
use Rattle.master.specs.{declared.Master.Master, declared.readers.SlotView.SlotView, declared.readers.StepView.StepView, declared.readers.ClientView.ClientView}
use Rattle.master.specs.{declared.readers.Progress.Progress, declared.readers.TakenView.TakenView, declared.readers.SentView.SentView}
use Rattle.master.specs.{Call.slot_at, States.playback}

-- the state's number: a number above 5 counts as abort
unfoldable pub state_of : ℕ → ℕ
state_of state = min state 5

-- 3 above 7
unfoldable pub slot_view : Master → ℕ → SlotView
slot_view m slot =
    let s : Client = slot_at m slot in
    pick (leb 8 slot) (record { number = wrong_slot; taken = 0; wanted = 0; report = 0; name = 0 })
    (record { number = completed; taken = s.taken; wanted = s.wanted; report = s.report; name = s.name })

-- ---- the sequence

-- 3 past the last step
unfoldable pub step_view : Sequence → ℕ → StepView
step_view q i =
    pick (leb (length_of q) i) (record { number = wrong_slot; step = blank_step })
    (record { number = completed; step = get_or q.steps i blank_step })

-- 3 above 7
unfoldable pub client_view : Sequence → ℕ → ClientView
client_view q slot =
    pick (leb 8 slot) (record { number = wrong_slot; client = blank_record })
    (record { number = completed; client = get_or q.records slot no_record })

-- the first check of a start that does not hold, whatever the state is
unfoldable pub verify_view : Master → Named
verify_view m = named_of m.slots m.sequence

-- ---- a recording and a playback, while they last

-- the ticks and millimetres so far, with the commands that have left in a playback, and else with the steps that are taken
unfoldable pub progress_of : ℕ → Recording → Playback → Progress
progress_of state r p =
    pick (eqb state playback) (record { ticks = p.ticks; distance = p.distance; count = min p.sent most_steps })
    (record { ticks = r.ticks; distance = r.distance; count = min r.count most_steps })

-- 3 past the last step that is taken
unfoldable pub taken_view : Recording → ℕ → TakenView
taken_view r i =
    pick (leb (min r.count most_steps) i) (record { number = wrong_slot; taken = blank_taken })
    (record { number = completed; taken = get_or r.steps i blank_taken })

-- 3 past the last command that has left
unfoldable pub sent_view : Playback → ℕ → SentView
sent_view p i =
    pick (leb (min p.sent most_steps) i) (record { number = wrong_slot; sent = blank_sent })
    (record { number = completed; sent = get_or p.commands i blank_sent })
