-- 02, request 1: "fields as in document 01": the ranges of what is stored, and what a recording can have.
use Rattle.std.specs.Prelude.{ℕ, Bool, ◌&&◌, leb, ltb}
use Rattle.octets.specs.Pick.{pick}
use Rattle.client.specs.Clients.{slot_count}
use Rattle.sequence.specs.Sequence.{by_distance}
use Rattle.sequence.specs.declared.Step.{Step}

-- "tick 36,000 goes to ready", so no recording counts more than 35,999 ticks, nor more than 35,999 · 65,535 mm: "a tick of more than 65,535 mm" is refused
abbrev pub most_ticks : ℕ
most_ticks = 35999

abbrev pub most_distance : ℕ
most_distance = 2359194465

abbrev pub most_mark : Bool → ℕ
most_mark distance = pick distance most_distance most_ticks

-- "Eight slots."; "state ID at most 63"; in ticks or in millimetres; a mark that a recording can have; any function and value
abbrev pub step_right : Step → Bool
step_right s = ltb s.slot slot_count && ltb s.state 64 && leb s.distance 1 && leb s.mark (most_mark (by_distance s))
