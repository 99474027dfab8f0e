-- The examples, closed by computation.
use Prim.Native.Nat.{ℕ}
use mathlib.Core.Path.{◌≡◌, refl}
use mathlib.Core.Bool.{true, false}
use mathlib.Core.List.{List, [], map, flat_map}
use lib.ListN.{replicate}
use Rattle.octets.specs.Pick.{pick}
use Rattle.octets.specs.Bits.{has_bit, with_bit, bits_of}
use Rattle.octets.specs.Octets as octets
use Rattle.octets.specs.Label.{label_at}
use Rattle.arrays.specs.Arrays.{more}
use Rattle.pool.specs.Verdicts.{first, first_of}
use Rattle.pool.specs.Fields.{head_at, fixed_of, rest_at, places_f, places_from, numbers_at}
use Rattle.pool.specs.StageOne.{code_of, faults_at, name_at, stage_one}
use Rattle.pool.specs.StageTwo.{find, is_object, object_of, id_of, is_in, first_repeat, repeat_fault, absent_fault, ids_fault, states_absent, states_alike, rules_of, stage_two}
use Rattle.pool.specs.Pool.{verdict_of}
use Rattle.profile.specs.Profile as profile
use Rattle.message.specs.Fields.{status_from, packed}
use Rattle.message.specs.Layout.{from_client, from_master, layout_of}
use Rattle.message.specs.Messages.{read_of}
use Rattle.flat.specs.Flat.{reading_of}
use Rattle.client.specs.Clients.{blank_slot}
use Rattle.client.specs.Records.{blank_record, record_of}
use Rattle.sequence.specs.Sequence.{blank_sequence, steps_of}
use Rattle.store.specs.Blocks.{sum_at, check_at, is_damaged, used_bytes}
use Rattle.store.specs.Stored.{client_bytes, step_bytes, slots_in, contents_of, sealed, stored_of, store_bytes}
use Rattle.store.specs.Loaded.{client_right, client_blank, step_at, is_faulty, load_number}
use Rattle.recording.specs.State.{blank_recording}
use Rattle.recording.specs.Indication as indication
use Rattle.recording.specs.Kept as kept
use Rattle.playback.specs.State.{blank_playback}
use Rattle.playback.specs.Tick as tick
use Rattle.playback.specs.Answer as answer
use Rattle.playback.specs.Verification as verification
use Rattle.master.specs.Call.{refusal, outcome_of}
use Rattle.master.specs.States.{new_master, ended, settled}
use Rattle.master.specs.Clients.{awake, unfit, on_call, off_call, attach_call, want_call, report_from, unexpected, end_of, followed, reported_slot, reported, report_call, lost_call}
use Rattle.master.specs.Clients as clients
use Rattle.master.specs.Recording as recording
use Rattle.master.specs.Playback as playback
use Rattle.master.specs.Tick as ticks
use Rattle.master.specs.{Storing.unstored, Storing.store_call, Storing.load_call, Editions.unset, Editions.edition_call}
use Rattle.master.specs.declared.Master.{Master}
use Rattle.events.specs.Events.{Event, on, off, «record», stop, cancel, start, abort, attach, enable, disable, report, lost, indication, client_abort, tick, answer, store, load, edition, call_of}
use Rattle.events.specs.Examples.{stored_blocks, number_after, examples_of}

-- the blocks of a sequence that was recorded, of zeros, and none
judged : (is_damaged stored_blocks ≡ false) × (is_faulty stored_blocks ≡ false)
unfolding flat_map pick has_bit with_bit octets.number_at octets.bytes_of label_at more first first_of head_at fixed_of rest_at places_f places_from numbers_at code_of faults_at name_at stage_one find is_object object_of id_of is_in first_repeat repeat_fault absent_fault ids_fault states_absent states_alike rules_of stage_two verdict_of profile.trigger_in profile.states_in bits_of profile.table_of profile.kept_at profile.kept_of_pool profile.blank_profile status_from packed from_client from_master layout_of read_of reading_of blank_slot blank_record record_of blank_sequence steps_of blank_recording indication.counted_recording indication.has_open indication.place_of indication.again_error indication.step_after indication.heard_again indication.error_by indication.first_error indication.first_value indication.new_step indication.records_after indication.with_new indication.heard_first indication.heard_of kept.record_kept kept.kept_sequence blank_playback tick.counted_playback tick.some_late tick.does_stop tick.does_leave tick.next_tan tick.after_leaving tick.tick_of answer.find_answered answer.answer_from answer.with_answer answer.some_undone answer.is_all_done answer.answered_of verification.first_failing verification.same_label verification.labels_agree verification.is_listed verification.is_in_pool verification.of_sequence verification.client_checks verification.step_checks verification.ready_checks verification.checks_by verification.rule_of verification.verify_by refusal outcome_of new_master ended settled end_of followed reported_slot awake unfit on_call off_call attach_call want_call report_from unexpected reported report_call clients.lost lost_call recording.unready recording.record_call recording.recording_ended recording.stopped recording.stop_call recording.cancel_call recording.untimely recording.recorded recording.interrupted recording.heard recording.indication_call playback.start_call playback.abort_call playback.unheeded playback.client_abort_call playback.unmatched playback.replied playback.answer_call ticks.recording_ticked ticks.playback_ticked ticks.ticked ticks.tick_call sum_at check_at is_damaged used_bytes client_bytes step_bytes slots_in contents_of sealed stored_of client_right client_blank step_at is_faulty
judged = (refl, refl)

unwritten : (is_damaged (replicate 512 0) ≡ true) × (is_damaged [] ≡ false) × (is_faulty [] ≡ true)
unfolding octets.number_at sum_at check_at is_damaged used_bytes client_right client_blank step_at is_faulty
unwritten = (refl, refl, refl)

loads_reached : (m : Master) (blocks : List ℕ) → map number_after (examples_of (load blocks)) ≡ (call_of m (load blocks)).numbers
unfolding pick refusal outcome_of new_master on_call load_number load_call
loads_reached m blocks = rw (judged.0, judged.1, unwritten.0, unwritten.1, unwritten.2)

pub reached : (m : Master) (e : Event) → map number_after (examples_of e) ≡ (call_of m e).numbers
unfolding flat_map pick has_bit with_bit octets.number_at label_at more first first_of head_at fixed_of rest_at places_f places_from numbers_at code_of faults_at name_at stage_one find is_object object_of id_of is_in first_repeat repeat_fault absent_fault ids_fault states_absent states_alike rules_of stage_two verdict_of profile.trigger_in profile.states_in bits_of profile.table_of profile.kept_at profile.kept_of_pool profile.blank_profile status_from packed from_client from_master layout_of read_of reading_of blank_slot blank_record record_of blank_sequence steps_of blank_recording indication.counted_recording indication.has_open indication.place_of indication.again_error indication.step_after indication.heard_again indication.error_by indication.first_error indication.first_value indication.new_step indication.records_after indication.with_new indication.heard_first indication.heard_of kept.record_kept kept.kept_sequence blank_playback tick.counted_playback tick.some_late tick.does_stop tick.does_leave tick.next_tan tick.after_leaving tick.tick_of answer.find_answered answer.answer_from answer.with_answer answer.some_undone answer.is_all_done answer.answered_of verification.first_failing verification.same_label verification.labels_agree verification.is_listed verification.is_in_pool verification.of_sequence verification.client_checks verification.step_checks verification.ready_checks verification.checks_by verification.rule_of verification.verify_by refusal outcome_of new_master ended settled end_of followed reported_slot awake unfit on_call off_call attach_call want_call report_from unexpected reported report_call clients.lost lost_call recording.unready recording.record_call recording.recording_ended recording.stopped recording.stop_call recording.cancel_call recording.untimely recording.recorded recording.interrupted recording.heard recording.indication_call playback.start_call playback.abort_call playback.unheeded playback.client_abort_call playback.unmatched playback.replied playback.answer_call ticks.recording_ticked ticks.playback_ticked ticks.ticked ticks.tick_call store_bytes slots_in unstored store_call unset edition_call
reached m on = refl
reached m off = refl
reached m «record» = refl
reached m stop = refl
reached m cancel = refl
reached m start = refl
reached m abort = refl
reached m (attach slot name pool) = refl
reached m (enable slot out) = refl
reached m (disable slot out) = refl
reached m (report slot number) = refl
reached m (lost slot) = refl
reached m (indication slot msg out) = refl
reached m (client_abort slot msg) = refl
reached m (tick mm out) = refl
reached m (answer slot msg out) = refl
reached m (store out) = refl
reached m (load blocks) = loads_reached m blocks
reached m (edition n) = refl
