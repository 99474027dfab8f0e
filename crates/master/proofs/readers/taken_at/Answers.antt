-- `master::readers::taken_at` meets its contract: what is found, as its view.
use Rattle.std.proofs.Common.{arith, min, get_or, take, length-take}
use Rattle.std.proofs.lemmas.List.{get_or-take}
use Rattle.recording.specs.State.{blank_taken}
use Rattle.recording.specs.declared.Taken.{Taken}
use Rattle.master.specs.Readers.{taken_view}
use Rattle.master.proofs.Views.{viewed}
use Rattle.master.proofs.readers.taken_at.Goals as goal

pub returns : goal.returns
unfolding taken_view
returns c =
    let i = c.args.i in
    let all = c.args.recording.now.steps in
    viewed (λ number x. record { number = number; taken = x }) (take c.at_most-used.result all) (min c.args.recording.now.count 64) i blank_taken (get_or all i blank_taken)
    (omega (arith, length-take {A = Taken})) c.blank_taken.ensures c.found-number.ensures.number c.found-number.ensures.item (λ l. get_or-take c.at_most-used.result all i blank_taken (omega arith))
