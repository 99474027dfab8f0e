-- 01, "Cases": those on pools, and three more. The function `cases` of the crate ensures them.
use Rattle.std.specs.Prelude.{ℕ, ◌≡◌, List, [], ◌∷◌, ◌++◌, length, take, replicate}
use Rattle.pool.specs.{Verdicts.verdict, Pool.verdict_of}

-- a base whose labels have n and m bytes, with one function, number 1
abbrev pub base : ℕ → ℕ → List ℕ
base n m =
    0 ∷ 0 ∷ 0 ∷ 2 ∷ [] ++ replicate 8 13 ++ replicate 8 255 ++ 1 ∷ 0 ∷ 2 ∷ 0 ∷ n ∷ m ∷ 1 ∷ [] ++ replicate n 65 ++ replicate m 66 ++ 1 ∷ 0 ∷ []

-- function 5, number 1, style 00, no state
abbrev pub function : List ℕ
function = 1 ∷ 0 ∷ 1 ∷ 5 ∷ 1 ∷ 0 ∷ [] ++ replicate 19 255 ++ 3 ∷ 0 ∷ 4 ∷ 0 ∷ 0 ∷ []

pub record Cases : Type 0 where
  -- "Base with N = M = O = 1 and its function, S = 0: 61 bytes, 00."
  pub size : length (base 1 1 ++ function) ≡ 61
  pub small : verdict_of (base 1 1 ++ function) ≡ verdict 0x00 0xFFFF
  -- "Without the last byte: FF and the function's number."
  pub cut : verdict_of (take 60 (base 1 1 ++ function)) ≡ verdict 0xFF 1
  -- "Empty: 02, 0000."
  pub empty : verdict_of [] ≡ verdict 0x02 0x0000
  -- "Version label of 63: accepted. 64: 09."
  pub label63 : verdict_of (base 63 1 ++ function) ≡ verdict 0x00 0xFFFF
  pub label64 : verdict_of (base 64 1 ++ function) ≡ verdict 0x09 0x0000
  -- the order of objects is free; a second object of one number gets 05; without the function, 03 names the listed number
  pub turned : verdict_of (function ++ base 1 1) ≡ verdict 0x00 0xFFFF
  pub twice : verdict_of (base 1 1 ++ function ++ function) ≡ verdict 0x05 1
  pub absent : verdict_of (base 1 1) ≡ verdict 0x03 1
