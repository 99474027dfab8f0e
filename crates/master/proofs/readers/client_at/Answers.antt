-- `master::readers::client_at` meets its contract: what is found, as its view.
use Rattle.std.proofs.Common.{arith, get_or}
use Rattle.std.proofs.lemmas.List.{get_or_default}
use Rattle.client.specs.Records.{blank_record, no_record}
use Rattle.master.specs.Readers.{client_view}
use Rattle.master.proofs.Views.{viewed}
use Rattle.master.proofs.readers.client_at.Goals as goal

pub returns : goal.returns
unfolding client_view
returns c =
    let i = c.args.slot in
    let all = c.args.sequence.now.records in
    viewed (λ number x. record { number = number; client = x }) all 8 i blank_record (get_or all i no_record)
    (omega arith) c.blank_record.ensures c.found-number.ensures.number c.found-number.ensures.item (λ l. get_or_default all i blank_record no_record (omega arith))
