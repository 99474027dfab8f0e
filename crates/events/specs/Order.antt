-- 01, "Numbers a call gives back": "Where several apply: 1, 4, 3, 2, then the rest in the order that the call's own rule gives."
use Rattle.std.specs.Prelude.{◌≡◌, ltb, length}
use Rattle.octets.specs.Pick.{pick}
use Rattle.octets.specs.Numbers.{too_short, wrong_state, wrong_slot, wrong_value}
use Rattle.master.specs.{declared.Master.Master, Call.Call}
use Rattle.events.specs.Events.{Event, call_of, apply}

abbrev pub Ordered : Type 0
Ordered =
    (m : Master) (e : Event) →
    let c : Call = call_of m e in
    (apply m e).number
    ≡ pick (ltb (length c.lent) c.needs) too_short
    (pick c.wrong wrong_value
    (pick c.absent wrong_slot
    (pick c.barred wrong_state
    c.own)))
