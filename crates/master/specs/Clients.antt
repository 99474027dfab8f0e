-- 01, "Clients and states": switching on and off, attaching, enabling and disabling, reports and losses.
use Rattle.std.specs.Prelude.{ℕ, Bool, false, not, ◌&&◌, ◌||◌, List, [], ◌∷◌, eqb, leb}
use Rattle.octets.specs.{Pick.pick, Label.blank}
use Rattle.octets.specs.Numbers.{completed, too_short, wrong_state, wrong_slot, wrong_value, not_expected, pool_refused, not_disabled}
use Rattle.arrays.specs.Arrays.{some}
use Rattle.pool.specs.Pool.{verdict_of}
use Rattle.profile.specs.Profile.{kept_of_pool}
use Rattle.message.specs.{Messages.written_over, declared.Message.TheVariants.StateCommand}
use Rattle.client.specs.Clients.{disabled_report, ready_report, record_report, playback_report, abort_report, is_taken, is_enabled, is_awake, is_named, blank_slot, attached, with_wanted, with_report}
use Rattle.client.specs.declared.Client.{Client}
use Rattle.master.specs.declared.Master.{Master}
use Rattle.master.specs.Call.{Call, bare, slot_at, is_absent}
use Rattle.master.specs.States.{inactive, ready, recording, record_complete, playback, abort, is_inactive, is_ready, with_state, with_slot, ended, settled}

-- "Master: inactive to ready (on) .. Neither changes anything else."
unfoldable pub on_call : Master → Call
on_call m = bare (completed ∷ wrong_state ∷ []) (not (is_inactive m)) completed (with_state m ready)

unfoldable pub awake : Bool → ℕ
awake b = pick b not_disabled completed

-- "ready to inactive (off; 13 unless each attached client last reported disabled). Neither changes anything else."
unfoldable pub off_call : Master → Call
off_call m =
    bare (completed ∷ wrong_state ∷ not_disabled ∷ []) (not (is_ready m)) (awake (some is_awake m.slots)) (with_state m inactive)

-- "6: pool refused"
unfoldable pub unfit : ℕ → ℕ
unfit code = pick (eqb code 0x00) completed pool_refused

-- "Attaching (state ready) takes a NAME and pool and fills an empty slot, wanted off, last report disabled."
unfoldable pub attach_call : Master → ℕ → ℕ → List ℕ → Call
attach_call m slot name pool = record {
  numbers = completed ∷ wrong_slot ∷ wrong_state ∷ pool_refused ∷ [];
  lent = [];
  needs = 0;
  wrong = false;
  -- "3: slot above 7, .. or (attaching) taken, or NAME already attached"
  absent = leb 8 slot || (is_taken (slot_at m slot) || some (is_named name) m.slots);
  barred = not (is_ready m);
  -- "6: pool refused, with the D.9 code and object number"
  own = unfit (verdict_of pool).code;
  code = (verdict_of pool).code;
  object = (verdict_of pool).object;
  after = with_slot m slot (attached name (kept_of_pool pool));
  count = 0;
  written = [];
}

-- "Enabling and disabling (state ready) set wanted and write E.2, reason 01."
unfoldable pub want_call : ℕ → Master → ℕ → List ℕ → Call
want_call wanted m slot out = record {
  numbers = completed ∷ too_short ∷ wrong_slot ∷ wrong_state ∷ [];
  lent = out;
  needs = 8;
  wrong = false;
  absent = is_absent m slot;
  barred = not (is_ready m);
  own = completed;
  code = 0;
  object = 0;
  after = with_slot m slot (with_wanted (slot_at m slot) wanted);
  count = 0;
  written = written_over (StateCommand wanted 0x01) blank [] out;
}

-- "4: .. a report of no known state": they are numbered 0 disabled, 1 ready, 2 record, 4 playback, 5 abort
abbrev pub is_report : ℕ → Bool
is_report report =
    eqb report disabled_report || eqb report ready_report || eqb report record_report || eqb report playback_report || eqb report abort_report

abbrev pub no_report : ℕ
no_report = 255

unfoldable pub report_from : ℕ → ℕ
report_from report = pick (is_report report) report no_report

-- "A report other than disabled from a client not wanted gives 5, unless its last report was not disabled; then it is taken."
abbrev pub is_unexpected : Client → ℕ → Bool
is_unexpected s report = not (eqb report disabled_report) && eqb s.wanted 0 && eqb s.report disabled_report

unfoldable pub unexpected : Client → ℕ → ℕ
unexpected s report = pick (is_unexpected s report) not_expected completed

-- "A lost client empties its slot; so does a wanted client that reports disabled after another report."
unfoldable pub reported_slot : Client → ℕ → Client
reported_slot s report = pick (is_enabled s && eqb report disabled_report) blank_slot (with_report s report)

-- "in both, .. the loss or disabling of an enabled client .. goes to ready and keeps the old sequence"; "Playback goes .. to abort on .. an enabled client
-- lost, disabled, or reporting record or abort"
abbrev pub is_over : ℕ → Client → ℕ → Bool
is_over state s report =
    is_enabled s
    && ((eqb state recording || eqb state record_complete) && eqb report disabled_report
    || eqb state playback && (eqb report disabled_report || (eqb report record_report || eqb report abort_report)))

unfoldable pub end_of : ℕ → ℕ
end_of state = pick (eqb state playback) abort ready

-- a recording or a playback that is over ends; else an abort may be left
unfoldable pub followed : Bool → Master → Master
followed over m = pick over (ended m (end_of m.state)) (settled m)

unfoldable pub reported : Master → ℕ → ℕ → Master
reported m slot report =
    let s : Client = slot_at m slot in
    followed (is_over m.state s report) (with_slot m slot (reported_slot s report))

unfoldable pub report_call : Master → ℕ → ℕ → Call
report_call m slot number = record {
  numbers = completed ∷ wrong_value ∷ wrong_slot ∷ wrong_state ∷ not_expected ∷ [];
  lent = [];
  needs = 0;
  -- "4: .. a report of no known state"
  wrong = eqb (report_from number) no_report;
  absent = is_absent m slot;
  barred = is_inactive m;
  own = unexpected (slot_at m slot) (report_from number);
  code = 0;
  object = 0;
  after = reported m slot (report_from number);
  count = 0;
  written = [];
}

-- "A lost client empties its slot"; one that was enabled ends what its disabling ends
unfoldable pub lost : Master → ℕ → Master
lost m slot = followed (is_over m.state (slot_at m slot) disabled_report) (with_slot m slot blank_slot)

unfoldable pub lost_call : Master → ℕ → Call
lost_call m slot = record {
  numbers = completed ∷ wrong_slot ∷ wrong_state ∷ [];
  lent = [];
  needs = 0;
  wrong = false;
  absent = is_absent m slot;
  barred = is_inactive m;
  own = completed;
  code = 0;
  object = 0;
  after = lost m slot;
  count = 0;
  written = [];
}
