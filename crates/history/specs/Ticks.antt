-- 01, "Recording": "A tick is 100 ms and brings the millimetres driven". The ticks of a run that came since its last `record`, calls that are refused
-- left out.
use Rattle.std.specs.Prelude.{ℕ, ◌+◌, Bool, List, [], ◌∷◌, ◌++◌, eqb}
use Rattle.octets.specs.Pick.{pick}
use Rattle.events.specs.Events.{Event, «record», Sort, stops, hears, ticks, answers, loads, other, sort_of, which_call}
use Rattle.history.specs.Runs.{gather, is_done}

abbrev pub is_record : Event → Bool
is_record e = eqb (which_call e) (which_call «record»)

-- a tick stands after the others with its millimetres, `record` starts anew
abbrev pub ticks_by : List ℕ → (e : Event) → Sort e → List ℕ
ticks_by l e stops = l
ticks_by l e (hears slot msg out) = l
ticks_by l e (ticks mm out) = l ++ mm ∷ []
ticks_by l e (answers slot msg out) = l
ticks_by l e (loads blocks) = l
ticks_by l e (other n) = pick (is_record e) [] l

abbrev pub ticks_after : List Event → Event → List ℕ → List ℕ
ticks_after before e l = pick (is_done before e) (ticks_by l e (sort_of e)) l

-- the millimetres of each
abbrev pub ticks_since : List Event → List ℕ
ticks_since events = gather ticks_after [] events

abbrev pub sum : List ℕ → ℕ
sum [] = 0
sum (mm ∷ l) = mm + sum l
