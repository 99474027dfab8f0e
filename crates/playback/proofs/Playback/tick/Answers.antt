-- `playback::Playback::tick` meets its contract: each test decides one choice.
use Rattle.octets.specs.Pick.{pick}
use Rattle.octets.proofs.Tests.{said}
use Rattle.playback.specs.Tick.{tick_of}
use Rattle.playback.proofs.Leaves.{leaves_within}
use Rattle.playback.proofs.Playback.tick.Goals as goal

pub returns-then-does_stop : goal.returns-then-does_stop
unfolding pick tick_of
returns-then-does_stop c = rw (← c.count.ensures, said _ _ _ c.does_stop.ensures c.if-does_stop.true)

pub leave-requires : goal.leave-requires
leave-requires c = leaves_within _ _ _ (said _ _ _ c.does_leave.ensures c.if-does_leave.true)

pub returns-then-does_leave : goal.returns-then-does_leave
unfolding pick tick_of
returns-then-does_leave c =
    rw (
      c.leave.ensures,
      c.next_tan.ensures,
      ← c.count.ensures,
      said _ _ _ c.does_stop.ensures c.if-does_stop.false,
      said _ _ _ c.does_leave.ensures c.if-does_leave.true,
    )

pub returns-else-does_leave : goal.returns-else-does_leave
unfolding pick tick_of
returns-else-does_leave c =
    rw (← c.count.ensures, said _ _ _ c.does_stop.ensures c.if-does_stop.false, said _ _ _ c.does_leave.ensures c.if-does_leave.false)
