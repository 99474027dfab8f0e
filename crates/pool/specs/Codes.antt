-- 01, "The pool": which codes of D.9 the check gives. The function `codes` of the crate ensures these statements.
use Rattle.std.specs.Prelude.{ℕ, ◌≡◌, List, [], ◌∷◌, ◌++◌, map, ◌⊎◌, take, set}
use Rattle.pool.specs.{Verdicts.verdict, Pool.verdict_of, Cases.base, Cases.function}

-- the thirteen that "The pool" names; "Code 08 is never given", and 0D to FE are reserved in D.9
abbrev pub given : List ℕ
given = 0x00 ∷ 0x01 ∷ 0x02 ∷ 0x03 ∷ 0x04 ∷ 0x05 ∷ 0x06 ∷ 0x07 ∷ 0x09 ∷ 0x0A ∷ 0x0B ∷ 0x0C ∷ 0xFF ∷ []

-- c is one of a list
abbrev pub OneOf : ℕ → List ℕ → Type 0
OneOf c [] = ⊥
OneOf c (x ∷ xs) = (c ≡ x) ⊎ OneOf c xs

-- ---- a pool for each of them

-- state 7, number 2
abbrev pub state : List ℕ
state = 2 ∷ 0 ∷ 2 ∷ 7 ∷ 5 ∷ 0 ∷ 6 ∷ 0 ∷ []

-- the function with a list of states: S is its last byte
abbrev pub listing : ℕ → List ℕ → List ℕ
listing count numbers = set function 29 count ++ numbers

-- the base with this count of functions, and more numbers listed after 1
abbrev pub basing : ℕ → List ℕ → List ℕ
basing count numbers = set (base 1 1) 26 count ++ numbers

abbrev pub examples : List (List ℕ)
examples =
    -- the pool of 61 bytes that 01 calls accepted
    (base 1 1 ++ function)
    -- an object of type 3
    ∷ set function 2 3
    -- no object at all
    ∷ []
    -- the function that the base lists is not there
    ∷ base 1 1
    -- nor is the state that the function lists
    ∷ (base 1 1 ++ listing 1 (2 ∷ 0 ∷ []))
    -- the function stands twice
    ∷ (base 1 1 ++ function ++ function)
    -- function 5 as number 1 and as number 3
    ∷ (basing 2 (3 ∷ 0 ∷ []) ++ function ++ set function 0 3)
    -- state 7 as number 2 and as number 4
    ∷ (base 1 1 ++ listing 2 (2 ∷ 0 ∷ 4 ∷ 0 ∷ []) ++ set state 0 4 ++ state)
    -- a version label of 64 bytes
    ∷ (base 64 1 ++ function)
    -- a version label of a question mark
    ∷ (set (base 1 1) 27 0x3F ++ function)
    -- no configuration label
    ∷ (base 1 0 ++ function)
    -- version 1
    ∷ (set (base 1 1) 3 1 ++ function)
    -- the function without its last byte
    ∷ take 60 (base 1 1 ++ function)
    ∷ []

-- ---- pools with two faults: the earlier of two rules decides

abbrev pub twofold : List (List ℕ)
twofold =
    -- no base, and the function cut: stage one comes first
    take 29 function
    -- no base, and the function twice
    ∷ (function ++ function)
    -- the function twice, and version 1
    ∷ (set (base 1 1) 3 1 ++ function ++ function)
    -- version 1, and a label of a question mark
    ∷ (set (set (base 1 1) 3 1) 27 0x3F ++ function)
    -- a label of a question mark, and the function absent
    ∷ set (base 1 1) 27 0x3F
    -- function 9 absent, and function 1 listed twice before it
    ∷ (basing 3 (1 ∷ 0 ∷ 9 ∷ 0 ∷ []) ++ function)
    -- the function listed twice, "that number", and its state absent
    ∷ (basing 2 (1 ∷ 0 ∷ []) ++ listing 1 (9 ∷ 0 ∷ []))
    -- state 9 of function 3 absent, and a state listed twice by function 1, which stands before it
    ∷ (basing 2 (3 ∷ 0 ∷ []) ++ listing 2 (2 ∷ 0 ∷ 2 ∷ 0 ∷ []) ++ state ++ set (set (listing 1 (9 ∷ 0 ∷ [])) 0 3) 3 6)
    ∷ []

pub record Codes : Type 0 where
  -- whatever the bytes, the code is one of the thirteen
  pub known : (s : List ℕ) → OneOf (verdict_of s).code given
  -- "Code 08 is never given: a pool holds no strings."
  pub never_08 : (s : List ℕ) → (verdict_of s).code ≡ 0x08 → ⊥
  -- each of the thirteen is given
  pub each : map (λ s. (verdict_of s).code) examples ≡ given
  -- and names its object: "For 05, 06 and 07 the later object is named", "lists are taken in list order"
  pub objects : map (λ s. (verdict_of s).object) examples ≡ 0xFFFF ∷ 1 ∷ 0 ∷ 1 ∷ 2 ∷ 1 ∷ 3 ∷ 4 ∷ 0 ∷ 0 ∷ 0 ∷ 0 ∷ 1 ∷ []
  -- "the first fault wins", and stage two in the order of its rules
  pub order :
      map verdict_of twofold
      ≡ verdict 0xFF 1
      ∷ verdict 0x02 0
      ∷ verdict 0x05 1
      ∷ verdict 0x0C 0
      ∷ verdict 0x0A 0
      ∷ verdict 0x03 9
      ∷ verdict 0x06 1
      ∷ verdict 0x04 9
      ∷ []
