-- `master::readers::sent_at` meets its contract: what is found, as its view.
use Rattle.std.proofs.Common.{arith, min, get_or, take, length-take}
use Rattle.std.proofs.lemmas.List.{get_or-take}
use Rattle.playback.specs.State.{blank_sent}
use Rattle.playback.specs.declared.Sent.{Sent}
use Rattle.master.specs.Readers.{sent_view}
use Rattle.master.proofs.Views.{viewed}
use Rattle.master.proofs.readers.sent_at.Goals as goal

pub returns : goal.returns
unfolding sent_view
returns c =
    let i = c.args.i in
    let all = c.args.playback.now.commands in
    viewed (λ number x. record { number = number; sent = x }) (take c.at_most-left.result all) (min c.args.playback.now.sent 64) i blank_sent (get_or all i blank_sent)
    (omega (arith, length-take {A = Sent})) c.blank_sent.ensures c.found-number.ensures.number c.found-number.ensures.item (λ l. get_or-take c.at_most-left.result all i blank_sent (omega arith))
