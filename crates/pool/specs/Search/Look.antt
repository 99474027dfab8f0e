-- What one look at a list of states tells: `s` are the pool's bytes and `ps` the places of its objects.
use Rattle.std.specs.Prelude.{ℕ, ◌≤◌, ◌<◌, ◌≡◌, List, map, length, get_or}
use Rattle.octets.specs.Bits.{bits_of}
use Rattle.pool.specs.Verdicts.{fine, first_fault}
use Rattle.pool.specs.Fields.{state_type}
use Rattle.pool.specs.StageTwo.{id_of, states_listed, absent_fault, ids_fault}

-- the set of the IDs of a list's states
abbrev pub set_of : List ℕ → List ℕ → List ℕ → ℕ
set_of s ps listed = bits_of (map (id_of s ps state_type) listed)

-- a list that is right: no state of it is absent, no two have one ID, whatever the codes of these faults, and this is the set of its IDs
pub record Right (s ps listed : List ℕ) (ids : ℕ) : Type 0 where
  pub present : (code : ℕ) → first_fault (absent_fault s ps code state_type) listed ≡ fine
  pub unlike : (code : ℕ) → ids_fault s ps code state_type listed ≡ fine
  pub set : ids ≡ set_of s ps listed

-- in each cell from k on stands the set of the states that this function of a list lists
abbrev pub Sets : List ℕ → List ℕ → List ℕ → List ℕ → ℕ → Type 0
Sets s ps functions sets k = (j : ℕ) → k ≤ j → j < length functions → get_or sets j 0 ≡ set_of s ps (states_listed s ps (get_or functions j 0))
