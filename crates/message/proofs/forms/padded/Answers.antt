-- `message::forms::padded` meets its contract: what is copied over reserved bytes stands before those that are left.
use Rattle.message.proofs.Laid.{padding}
use Rattle.message.proofs.forms.padded.Goals as goal

pub returns : goal.returns
returns c = rw c.copy_from_slice.ensures.after (padding 10 c.args.first.now c.requires)
