-- What is gathered along a run of calls.
use Rattle.std.specs.Prelude.{◌≡◌, Bool, List, [], ◌∷◌, ◌++◌, eqb}
use Rattle.octets.specs.Numbers.{completed}
use Rattle.events.specs.Events.{Event, apply, run}

-- what the calls before, and then each call of the run, bring to what is known so far
abbrev pub gather_from : {X : Type 0} → (List Event → Event → X → X) → List Event → X → List Event → X
gather_from f before x [] = x
gather_from f before x (e ∷ events) = gather_from f (before ++ e ∷ []) (f before e x) events

abbrev pub gather : {X : Type 0} → (List Event → Event → X → X) → X → List Event → X
gather f x events = gather_from f [] x events

-- after the calls before, this one is not refused
abbrev pub Succeeds : List Event → Event → Type 0
Succeeds before e = (apply (run before) e).number ≡ completed

abbrev pub is_done : List Event → Event → Bool
is_done before e = eqb (apply (run before) e).number completed
