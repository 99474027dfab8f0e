-- `master::readers::step_at` meets its contract: what is found, as its view.
use Rattle.std.proofs.Common.{arith, min, get_or}
use Rattle.std.proofs.lemmas.List.{get_or-take}
use Rattle.sequence.specs.Sequence.{blank_step, steps_of}
use Rattle.master.specs.Readers.{step_view}
use Rattle.master.proofs.Views.{viewed}
use Rattle.master.proofs.readers.step_at.Goals as goal

pub returns : goal.returns
unfolding step_view steps_of
returns c =
    let i = c.args.i in
    let q = c.args.sequence.now in
    viewed (λ number x. record { number = number; step = x }) (steps_of q) (min q.count 64) i blank_step (get_or q.steps i blank_step)
    c.steps.ensures.as_many c.blank_step.ensures (rw c.steps.ensures.used at c.found-number.ensures.number)
    (rw c.steps.ensures.used at c.found-number.ensures.item) (λ l. get_or-take q.count q.steps i blank_step (omega arith))
