-- 01, "Clients and states", a single client: "Eight slots. Attaching (state ready) takes a NAME and pool and fills an empty slot, wanted off, last
-- report disabled."
use Rattle.std.specs.Prelude.{ℕ, Bool, not, ◌&&◌, [], eqb}
use Rattle.profile.specs.{Profile.blank_profile, declared.Profile.Profile}
use Rattle.client.specs.{declared.Client.Client, declared.Test.Test}
use Rattle.client.specs.declared.Test.TheVariants.{Awake, Enabled, Named, Other}

-- "Eight slots."
abbrev pub slot_count : ℕ
slot_count = 8

-- a report; "status reports come in as decoded reports", so the numbering is the library's own: 0 disabled, 1 ready, 2 record, 4 playback, 5 abort
abbrev pub disabled_report : ℕ
disabled_report = 0

abbrev pub ready_report : ℕ
ready_report = 1

abbrev pub record_report : ℕ
record_report = 2

abbrev pub playback_report : ℕ
playback_report = 4

abbrev pub abort_report : ℕ
abort_report = 5

-- a client is attached here
abbrev pub is_taken : Client → Bool
is_taken s = not (eqb s.taken 0)

abbrev pub is_wanted : Client → Bool
is_wanted s = not (eqb s.wanted 0)

-- an attached client whose last report is not disabled
abbrev pub is_awake : Client → Bool
is_awake s = is_taken s && not (eqb s.report disabled_report)

-- "A client is enabled if wanted and its last report is not disabled."
abbrev pub is_enabled : Client → Bool
is_enabled s = is_taken s && is_wanted s && not (eqb s.report disabled_report)

-- a client of this NAME is attached here
abbrev pub is_named : ℕ → Client → Bool
is_named name s = is_taken s && eqb s.name name

-- an enabled client whose last report is not this one
abbrev pub is_other : ℕ → Client → Bool
is_other report s = is_enabled s && not (eqb s.report report)

-- what a slot may be asked
abbrev pub passes : Test → Client → Bool
passes Awake s = is_awake s
passes Enabled s = is_enabled s
passes (Named name) s = is_named name s
passes (Other report) s = is_other report s

-- an empty slot
unfoldable pub blank_slot : Client
blank_slot = record { taken = 0; wanted = 0; report = disabled_report; name = 0; profile = blank_profile }

-- what is read past the last slot; no rule looks at it
abbrev pub no_slot : Client
no_slot = record {
  taken = 0;
  wanted = 0;
  report = 0;
  name = 0;
  profile = record {
    master = 0;
    mask = 0;
    version = record { length = 0; bytes = [] };
    configuration = record { length = 0; bytes = [] };
    trigger = [];
    states = [];
  };
}

-- "wanted off, last report disabled"
abbrev pub attached : ℕ → Profile → Client
attached name profile = record { taken = 1; wanted = 0; report = disabled_report; name = name; profile = profile }

abbrev pub with_wanted : Client → ℕ → Client
with_wanted s wanted = record { taken = s.taken; wanted = wanted; report = s.report; name = s.name; profile = s.profile }

abbrev pub with_report : Client → ℕ → Client
with_report s report = record { taken = s.taken; wanted = s.wanted; report = report; name = s.name; profile = s.profile }
