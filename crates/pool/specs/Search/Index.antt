-- How an object is found by its number without a look at every object: the objects whose numbers agree modulo 16,384 form a chain, so that of objects
-- whose numbers differ no chain has more than four. `ps` are the places of the pool's objects, at most 2,048, and 65,535 ends a chain. No rule of 01
-- stands here: `find_object` gives what `object_of` says.
use Rattle.std.specs.Prelude.{ℕ, suc, ◌+◌, ◌%◌, ◌≤◌, ◌<◌, ◌≡◌, List, [], ◌∷◌, Bool, length, get_or, drop, eqb}
use Rattle.octets.specs.Pick.{pick}
use Rattle.pool.specs.Fields.{object_number}

-- which chain the object at p is in
abbrev pub chain_of : List ℕ → ℕ → ℕ
chain_of s p = object_number s p % 16384

unfoldable pub in_chain : List ℕ → ℕ → ℕ → Bool
in_chain s b p = eqb (chain_of s p) b

-- which of the places of a list, counted from k on, is the first at which f holds
unfoldable pub seek : (ℕ → Bool) → ℕ → List ℕ → ℕ
seek f k [] = 65535
seek f k (p ∷ ps) =
    let later : ℕ = seek f (suc k) ps in
    pick (f p) k later

-- the first of each chain from place k on stands in the first 16,384 cells
abbrev pub Heads : List ℕ → List ℕ → List ℕ → ℕ → Type 0
Heads s ps chain k = (b : ℕ) → b < 16384 → get_or chain b 0 ≡ seek (in_chain s b) k (drop k ps)

-- the next of each object's chain, for the places from k on, in the 2,048 cells after them
abbrev pub Links : List ℕ → List ℕ → List ℕ → ℕ → Type 0
Links s ps chain k =
    (j : ℕ) → k ≤ j → j < length ps → get_or chain (16384 + j) 0 ≡ seek (in_chain s (chain_of s (get_or ps j 0))) (j + 1) (drop (j + 1) ps)

-- the cells of no object hold the end of a chain
abbrev pub Unused : List ℕ → List ℕ → Type 0
Unused ps chain = (j : ℕ) → length ps ≤ j → j < 2048 → get_or chain (16384 + j) 0 ≡ 65535

-- at each of the places stand 8 bytes at least
abbrev pub Within : List ℕ → List ℕ → Type 0
Within s ps = (j : ℕ) → j < length ps → get_or ps j 0 + 8 ≤ length s

pub record Indexed (s ps chain : List ℕ) : Type 0 where
  pub short : length s ≤ 16384
  pub few : length ps ≤ 2048
  pub long : length chain ≡ 18432
  pub within : Within s ps
  pub heads : Heads s ps chain 0
  pub links : Links s ps chain 0
  pub unused : Unused ps chain
