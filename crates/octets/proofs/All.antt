-- What holds of each element of a list, one after the other.
use mathlib.Core.List.{List, [], ◌∷◌}

infixr 5 ◌also◌
pub data All {A : Type 0} (P : A → Type 0) : List A → Type 0 where
  none : All P []
  ◌also◌ : {x : A} {xs : List A} → P x → All P xs → All P (x ∷ xs)
