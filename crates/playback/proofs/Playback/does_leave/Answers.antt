-- `playback::Playback::does_leave` meets its contract: there is a next step, or none.
use mathlib.Core.Path.{◌∙◌}
use Rattle.sequence.specs.Sequence.{blank_step}
use Rattle.playback.proofs.Leaves.{leaves_next, none_leaves}
use Rattle.playback.proofs.Playback.does_leave.Goals as goal

pub returns-in-Some : goal.returns-in-Some
returns-in-Some c =
    let s = c.steps.ensures in
    let h = c.in-Some.ensures.lookup.3 in
    c.is_due.ensures ∙ leaves_next _ _ s.as_many _ s.used _ h.0 (h.1 blank_step)

pub returns-in-None : goal.returns-in-None
returns-in-None c = let s = c.steps.ensures in none_leaves _ _ s.as_many _ s.used c.in-None.ensures.lookup.3
