-- Lists as the first cells of an array: looking for an element, keeping some of them, filling up with blank ones.
use Rattle.std.specs.Prelude.{ℕ, zero, suc, ◌+◌, min, Bool, cond, List, [], ◌∷◌}
use Rattle.std.specs.List.{list_any}

-- some element passes the test
abbrev pub some : {X : Type 0} → (X → Bool) → List X → Bool
some p xs = list_any p xs

-- of elements numbered from i on, the number of the first that passes the test, and `none` where no element does
abbrev pub first_from : {X : Type 0} → ℕ → (X → Bool) → ℕ → List X → ℕ
first_from none p i [] = none
first_from none p i (x ∷ xs) = cond (p x) i (first_from none p (suc i) xs)

-- the elements that pass the test, in their order
abbrev pub those : {X : Type 0} → (X → Bool) → List X → List X
those p [] = []
those p (x ∷ xs) = cond (p x) (x ∷ those p xs) (those p xs)

-- the first n elements, and after them blank ones up to n
abbrev pub pad_to : {X : Type 0} → X → ℕ → List X → List X
pad_to blank zero l = []
pad_to blank (suc n) [] = blank ∷ pad_to blank n []
pad_to blank (suc n) (x ∷ l) = x ∷ pad_to blank n l

-- a sum, or the largest number that 32 bits have room for
unfoldable pub more : ℕ → ℕ → ℕ
more a b = min (a + b) 4294967295
