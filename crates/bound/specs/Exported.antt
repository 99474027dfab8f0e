-- Every call of include/scm.h with its inputs, and what it gives back by the definitions of which the theorems speak: all but one as functions, the text of
-- the shown value as a relation.
use Rattle.std.specs.Prelude.{ℕ, ◌≡◌, List, [], ℤ, Float, length}
use Rattle.std.specs.Float.{binary32}
use Rattle.std.specs.Float.Ieee.{of_bits}
use Rattle.octets.specs.Label.{blank}
use Rattle.pool.specs.{declared.Verdict.Verdict, Pool.verdict_of}
use Rattle.profile.specs.{declared.Profile.Profile, Profile.profile_of}
use Rattle.objects.specs.Objects.{found_at, write_answer, write_out}
use Rattle.objects.specs.declared.Written as placed
use Rattle.flat_object.specs.{declared.FlatObject.FlatObject, Flat.flat_object, Flat.object_from}
use Rattle.rewrite.specs.{declared.Rewritten.Rewritten, Rewrite.rewrite_answer, Rewrite.rewrite_out}
use Rattle.message.specs.{declared.Written.Written, Messages.written_of, Messages.written_over}
use Rattle.message.specs.declared.Message.TheVariants.{Transfer}
use Rattle.flat.specs.{declared.Flat.Flat, declared.FlatReading.FlatReading, Flat.message_from, Flat.reading_of}
use Rattle.shown.specs.{declared.Shown.Shown, Value.shown_of}
use Rattle.printed.specs.{declared.Printed.Printed, Printing.Prints}
use Rattle.sequence.specs.{declared.Sequence.Sequence, Sequence.length_of, Editions.edition_of}
use Rattle.recording.specs.declared.Recording.{Recording}
use Rattle.playback.specs.declared.{Playback.Playback, named.Named.Named}
use Rattle.master.specs.{declared.Master.Master, declared.Outcome.Outcome, States.new_master}
use Rattle.master.specs.declared.readers.{SlotView.SlotView, StepView.StepView, ClientView.ClientView, Progress.Progress, TakenView.TakenView, SentView.SentView}
use Rattle.master.specs.Readers.{state_of, slot_view, step_view, client_view, verify_view, progress_of, taken_view, sent_view}
use Rattle.events.specs.Events.{Event, on, off, «record», stop, cancel, start, abort, attach, enable, disable, report, lost, indication, client_abort, tick, answer, store, load, edition}
use Rattle.events.specs.Events.{apply, lent_after}
use Rattle.scm.specs.Version.{version}

-- a call and its inputs, but for scm_write_shown; the bytes lent to write in come last
pub data Exported : Type 0 where
  -- scm_version
  library_version : Exported
  -- scm_pool_check, scm_profile_of: a pool. scm_object_at: a pool, a place in it. scm_write_object: an object, a place, lent bytes. scm_pool_rewrite: a
  -- pool, lent bytes
  pool_check pool_kept : List ℕ → Exported
  object_at : List ℕ → ℕ → Exported
  write_object : FlatObject → ℕ → List ℕ → Exported
  pool_rewrite : List ℕ → List ℕ → Exported
  -- scm_read: the side that sent it, a message. scm_write: a message, lent bytes. scm_write_transfer: a pool, lent bytes
  read_message : ℕ → List ℕ → Exported
  write_message : Flat → List ℕ → Exported
  write_transfer : List ℕ → List ℕ → Exported
  -- scm_shown_of, scm_shown_bits: value, offset, scale
  show : ℕ → ℤ → Float → Exported
  show_bits : ℕ → ℤ → ℕ → Exported
  -- scm_master_new, and each event
  made : Exported
  event : Master → Event → Exported
  -- the readers, each with the part of the master that it is handed: scm_master_state; scm_master_slot: the number of one; scm_master_step_count;
  -- scm_master_sequence_edition; scm_master_step and scm_master_client: the number of one; scm_master_verify; scm_master_progress; scm_master_taken and
  -- scm_master_sent: the number of one
  read_state : ℕ → Exported
  read_slot : Master → ℕ → Exported
  read_step_count read_edition : Sequence → Exported
  read_step read_client : Sequence → ℕ → Exported
  read_verify : Master → Exported
  read_progress : ℕ → Recording → Playback → Exported
  read_taken : Recording → ℕ → Exported
  read_sent : Playback → ℕ → Exported

-- what it gives back
abbrev pub Result : Exported → Type 0
Result library_version = ℕ
Result (pool_check bytes) = Verdict
Result (pool_kept bytes) = Profile
Result (object_at bytes place) = FlatObject
Result (write_object object place out) = placed.Written
Result (pool_rewrite bytes out) = Rewritten
Result (read_message side bytes) = FlatReading
Result (write_message message out) = Written
Result (write_transfer pool out) = Written
Result (show value offset scale) = Shown
Result (show_bits value offset scale) = Shown
Result made = Master
Result (event m e) = Outcome
Result (read_state state) = ℕ
Result (read_slot m i) = SlotView
Result (read_step_count q) = ℕ
Result (read_edition q) = ℕ
Result (read_step q i) = StepView
Result (read_client q i) = ClientView
Result (read_verify m) = Named
Result (read_progress state r p) = Progress
Result (read_taken r i) = TakenView
Result (read_sent p i) = SentView

-- by the definitions
abbrev pub given : (c : Exported) → Result c
given library_version = version
given (pool_check bytes) = verdict_of bytes
given (pool_kept bytes) = profile_of bytes
given (object_at bytes place) = flat_object place (found_at bytes place)
given (write_object object place out) = write_answer (object_from object) out place
given (pool_rewrite bytes out) = rewrite_answer bytes out
given (read_message side bytes) = reading_of side bytes
given (write_message message out) = written_of (message_from message) message.label [] (length out)
given (write_transfer pool out) = written_of Transfer blank pool (length out)
given (show value offset scale) = shown_of value offset scale
given (show_bits value offset scale) = shown_of value offset (of_bits binary32 scale)
given made = new_master
given (event m e) = apply m e
given (read_state state) = state_of state
given (read_slot m i) = slot_view m i
given (read_step_count q) = length_of q
given (read_edition q) = edition_of q
given (read_step q i) = step_view q i
given (read_client q i) = client_view q i
given (read_verify m) = verify_view m
given (read_progress state r p) = progress_of state r p
given (read_taken r i) = taken_view r i
given (read_sent p i) = sent_view p i

-- the lent bytes after it, by the definitions; none where it is lent none
abbrev pub lent_given : Exported → List ℕ
lent_given library_version = []
lent_given (pool_check bytes) = []
lent_given (pool_kept bytes) = []
lent_given (object_at bytes place) = []
lent_given (write_object object place out) = write_out (object_from object) out place
lent_given (pool_rewrite bytes out) = rewrite_out bytes out
lent_given (read_message side bytes) = []
lent_given (write_message message out) = written_over (message_from message) message.label [] out
lent_given (write_transfer pool out) = written_over Transfer blank pool out
lent_given (show value offset scale) = []
lent_given (show_bits value offset scale) = []
lent_given made = []
lent_given (event m on) = []
lent_given (event m off) = []
lent_given (event m «record») = []
lent_given (event m stop) = []
lent_given (event m cancel) = []
lent_given (event m start) = []
lent_given (event m abort) = []
lent_given (event m (attach slot name pool)) = []
lent_given (event m (enable slot out)) = lent_after m (enable slot out)
lent_given (event m (disable slot out)) = lent_after m (disable slot out)
lent_given (event m (report slot number)) = []
lent_given (event m (lost slot)) = []
lent_given (event m (indication slot msg out)) = lent_after m (indication slot msg out)
lent_given (event m (client_abort slot msg)) = []
lent_given (event m (tick mm out)) = lent_after m (tick mm out)
lent_given (event m (answer slot msg out)) = lent_after m (answer slot msg out)
lent_given (event m (store out)) = lent_after m (store out)
lent_given (event m (load blocks)) = []
lent_given (event m (edition n)) = []
lent_given (read_state state) = []
lent_given (read_slot m i) = []
lent_given (read_step_count q) = []
lent_given (read_edition q) = []
lent_given (read_step q i) = []
lent_given (read_client q i) = []
lent_given (read_verify m) = []
lent_given (read_progress state r p) = []
lent_given (read_taken r i) = []
lent_given (read_sent p i) = []

-- "The contract of a public call settles its result, the new state and each lent byte for all inputs, refusals too": the outcomes that it allows
abbrev pub Allowed : (c : Exported) → Result c × List ℕ → Type 0
Allowed c r = (r.0 ≡ given c) × (r.1 ≡ lent_given c)

-- scm_write_shown: value, offset, scale, decimals, lent bytes. Its contract says what is true of the printed number; that this settles it is a theorem
abbrev pub AllowedText : ℕ → ℤ → Float → ℕ → List ℕ → Printed × List ℕ → Type 0
AllowedText value offset scale decimals out r = Prints value offset scale decimals out r.1 r.0

-- "Prove any two outcomes it allows equal"
pub record Determined : Type 0 where
  pub calls : (c : Exported) (r r' : Result c × List ℕ) → Allowed c r → Allowed c r' → r ≡ r'
  pub text :
      (value : ℕ) (offset : ℤ) (scale : Float) (decimals : ℕ) (out : List ℕ) (r r' : Printed × List ℕ) →
      AllowedText value offset scale decimals out r →
      AllowedText value offset scale decimals out r' →
      r ≡ r'
