-- What holds of every element of a list, and of every two of them.
use Rattle.std.specs.Prelude.{List, [], ◌∷◌}

abbrev pub Every : {X : Type 0} → (X → Type 0) → List X → Type 0
Every P [] = Unit {0}
Every P (x ∷ l) = P x × Every P l

-- of every element with each that stands after it
abbrev pub EveryTwo : {X : Type 0} → (X → X → Type 0) → List X → Type 0
EveryTwo R [] = Unit {0}
EveryTwo R (x ∷ l) = Every (R x) l × EveryTwo R l
