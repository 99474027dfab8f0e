-- 01, "The job": "Of an accepted pool the master keeps what its rules need". The rules need the master NAME, the mask and both labels (verification),
-- each listed function's preferred trigger (marks) and the states it has (recording, verification). `ps` are the places of the pool's objects.
use Rattle.std.specs.Prelude.{ℕ, ◌<◌, ◌≡◌, List, [], ◌∷◌, map, Bool, get_or, replicate, eqb}
use Rattle.octets.specs.{Pick.pick, Bits.has_bit, Bits.bits_of, Label.blank, Label.row_of}
use Rattle.pool.specs.Fields.{base_type, function_type, state_type, base_at, function_at, version_label, configuration_label, functions_of, places_from}
use Rattle.pool.specs.StageTwo.{object_of, id_of, is_in, states_listed}
use Rattle.pool.specs.Pool.{verdict_of}
use Rattle.profile.specs.declared.Profile.{Profile}

-- the preferred trigger of the function with this ID in a list of function numbers, and 0 where the list has none
unfoldable pub trigger_in : List ℕ → List ℕ → List ℕ → ℕ → ℕ
trigger_in s ps [] id = 0
trigger_in s ps (n ∷ ns) id =
    let later : ℕ = trigger_in s ps ns id in
    pick (eqb (id_of s ps function_type n) id) (function_at s (object_of s ps function_type n)).trigger later

-- the IDs of the states of the function with this ID, and none where the list has no such function
unfoldable pub states_in : List ℕ → List ℕ → List ℕ → ℕ → List ℕ
states_in s ps [] id = []
states_in s ps (n ∷ ns) id =
    let later : List ℕ = states_in s ps ns id in
    pick (eqb (id_of s ps function_type n) id) (map (id_of s ps state_type) (states_listed s ps n)) later

-- a cell for each of the 256 function IDs; of a function's states the set, "state ID at most 63": 64 bits
unfoldable pub table_of : (ℕ → ℕ) → List ℕ
table_of f = row_of 256 f

-- what is kept of the pool with its base at b; of each of the 256 function IDs, the trigger and the states
unfoldable pub kept_at : List ℕ → List ℕ → ℕ → Profile
kept_at s ps b =
    record {
      master = (base_at s b).master;
      mask = (base_at s b).mask;
      version = version_label s b;
      configuration = configuration_label s b;
      trigger = table_of (trigger_in s ps (functions_of s b));
      states = table_of (λ id. bits_of (states_in s ps (functions_of s b) id));
    }

unfoldable pub kept_of_pool : List ℕ → Profile
kept_of_pool s = kept_at s (places_from s 0) (object_of s (places_from s 0) base_type 0)

unfoldable pub blank_profile : Profile
blank_profile = record { master = 0; mask = 0; version = blank; configuration = blank; trigger = replicate 256 0; states = replicate 256 0 }

-- of a refused pool nothing is kept
unfoldable pub profile_of : List ℕ → Profile
profile_of s = pick (eqb (verdict_of s).code 0x00) (kept_of_pool s) blank_profile

-- ---- what a profile says of a function and a state, and that it says what the lists say

-- 0 where the pool lists no such function
abbrev pub trigger : Profile → ℕ → ℕ
trigger p id = get_or p.trigger id 0

abbrev pub has_state : Profile → ℕ → ℕ → Bool
has_state p id state = has_bit (get_or p.states id 0) state

pub record Says (s : List ℕ) (p : Profile) : Type 0 where
  pub triggers : (id : ℕ) → id < 256 → trigger p id ≡ trigger_in s (places_from s 0) (functions_of s (object_of s (places_from s 0) base_type 0)) id
  pub states :
      (id state : ℕ) → id < 256 → state < 64 → has_state p id state ≡ is_in state (states_in s (places_from s 0) (functions_of s (object_of s (places_from s 0) base_type 0)) id)
