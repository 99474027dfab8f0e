-- 01, "6: pool refused, with the D.9 code and object number": what an attach gives back.
use Rattle.std.specs.Prelude.{Result, Ok, Err}
use Rattle.octets.specs.{Numbers.completed, Numbers.pool_refused, Refusals.refusal_number}
use Rattle.master.specs.declared.{Master.Master, Outcome.Outcome, clients.NotAttached.NotAttached}
use Rattle.master.specs.declared.clients.NotAttached.TheVariants.{Refused, Pool}
use Rattle.master.specs.Call.{gives}

abbrev pub attached_by : {T : Type 0} → Result T NotAttached → Master → Outcome
attached_by (Ok _) m = gives completed m
attached_by (Err (Refused why)) m = gives (refusal_number why) m
attached_by (Err (Pool v)) m = record { number = pool_refused; code = v.code; object = v.object; count = 0; master = m }
