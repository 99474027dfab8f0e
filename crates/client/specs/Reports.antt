-- 01, "Clients and states": the states that a client may report, by their numbers.
use Rattle.std.specs.Prelude.{ℕ, if◌then◌else◌, ◌==◌, Result, Ok, Err}
use Rattle.octets.specs.declared.numbers.Refusal.{Refusal}
use Rattle.octets.specs.declared.numbers.Refusal.TheVariants.{WrongValue}
use Rattle.client.specs.declared.Report.{Report}
use Rattle.client.specs.declared.Report.TheVariants.{Disabled, Ready, Record, Playback, Abort}
use Rattle.client.specs.Clients.{disabled_report, ready_report, record_report, playback_report, abort_report}

abbrev pub report_number : Report → ℕ
report_number Disabled = disabled_report
report_number Ready = ready_report
report_number Record = record_report
report_number Playback = playback_report
report_number Abort = abort_report

-- "a report of no known state" gives 4
abbrev pub report_of : ℕ → Result Report Refusal
report_of number =
    if number == disabled_report then Ok Disabled
    else (if number == ready_report then Ok Ready
    else (if number == record_report then Ok Record
    else (if number == playback_report then Ok Playback
    else (if number == abort_report then Ok Abort
    else Err WrongValue))))
