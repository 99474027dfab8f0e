-- 01, "The pool": "Lengths from annex A", "Fields are those of tables A.1 to A.3." `s` is the pool's bytes and `at` an object's place in it.
-- The tables count bytes from 1, places count from 0: byte 4 of a table is at + 3.
use Rattle.std.specs.Prelude.{ℕ, zero, suc, ◌+◌, ◌*◌, List, [], ◌∷◌, length, get_or, ltb, eqb}
use Rattle.octets.specs.{Octets.number_at, Pick.pick, Label.label_at, declared.label.Label.Label}
use Rattle.pool.specs.{declared.BaseHead.BaseHead, declared.FunctionHead.FunctionHead, declared.StateHead.StateHead, declared.Head.Head}
use Rattle.pool.specs.declared.Head.TheVariants.{Base, Function, State}

-- an object's number, bytes 1 and 2 of each table
abbrev pub object_number : List ℕ → ℕ → ℕ
object_number s at = number_at 2 s at

-- its type, byte 3
abbrev pub kind_at : List ℕ → ℕ → ℕ
kind_at s at = get_or s (at + 2) 0

abbrev pub base_type : ℕ
base_type = 0

abbrev pub function_type : ℕ
function_type = 1

abbrev pub state_type : ℕ
state_type = 2

-- its ID on the bus, byte 4: a function's in table A.2, a state's in table A.3
abbrev pub id_at : List ℕ → ℕ → ℕ
id_at s at = get_or s (at + 3) 0

-- ---- "Fields are those of tables A.1 to A.3."

-- table A.1, bytes 1 to 27
abbrev pub base_at : List ℕ → ℕ → BaseHead
base_at s at =
    record {
      number = object_number s at;
      version = get_or s (at + 3) 0;
      master = number_at 8 s (at + 4);
      mask = number_at 8 s (at + 12);
      name = number_at 2 s (at + 20);
      picture = number_at 2 s (at + 22);
      n = get_or s (at + 24) 0;
      m = get_or s (at + 25) 0;
      o = get_or s (at + 26) 0;
    }

-- table A.2, bytes 1 to 30
abbrev pub function_at : List ℕ → ℕ → FunctionHead
function_at s at =
    record {
      number = object_number s at;
      function = id_at s at;
      trigger = get_or s (at + 4) 0;
      attribute = get_or s (at + 5) 0;
      minimum = number_at 4 s (at + 6);
      maximum = number_at 4 s (at + 10);
      offset = number_at 4 s (at + 14);
      scale = number_at 4 s (at + 18);
      decimals = get_or s (at + 22) 0;
      unit = number_at 2 s (at + 23);
      name = number_at 2 s (at + 25);
      picture = number_at 2 s (at + 27);
      s = get_or s (at + 29) 0;
    }

-- table A.3, bytes 1 to 8
abbrev pub state_at : List ℕ → ℕ → StateHead
state_at s at =
    record {
      number = object_number s at;
      state = id_at s at;
      name = number_at 2 s (at + 4);
      picture = number_at 2 s (at + 6);
    }

-- by the object's type; one that is neither a base nor a function is read as a state
unfoldable pub head_at : List ℕ → ℕ → Head
head_at s at =
    pick (eqb (kind_at s at) base_type) (Base (base_at s at))
    (pick (eqb (kind_at s at) function_type) (Function (function_at s at)) (State (state_at s at)))

-- ---- "Lengths from annex A: base 27 + N + M + 2·O bytes (labels N and M, O functions), function 30 + 2·S (S states, at most 64), state 8."

-- the fixed part
abbrev pub base_fixed : ℕ
base_fixed = 27

abbrev pub function_fixed : ℕ
function_fixed = 30

abbrev pub state_fixed : ℕ
state_fixed = 8

unfoldable pub fixed_of : ℕ → ℕ
fixed_of kind = pick (eqb kind base_type) base_fixed (pick (eqb kind function_type) function_fixed state_fixed)

-- what follows it: N + M + 2·O, 2·S or nothing
unfoldable pub rest_at : List ℕ → ℕ → ℕ
rest_at s at =
    pick (eqb (kind_at s at) base_type)
    ((base_at s at).n + (base_at s at).m + 2 * (base_at s at).o)
    (pick (eqb (kind_at s at) function_type) (2 * (function_at s at).s) 0)

abbrev pub size_at : List ℕ → ℕ → ℕ
size_at s at = fixed_of (kind_at s at) + rest_at s at

-- ---- "Objects may stand in any order."

-- Each object stands where the one before it ends. An object with a fault ends somewhere too, and what is found after it counts for nothing,
-- since the first fault wins. The first argument counts down the turns: an object has 8 bytes at least, so a pool has no more objects than bytes.
unfoldable pub places_f : ℕ → List ℕ → ℕ → List ℕ
places_f zero s at = []
places_f (suc f) s at =
    let more : List ℕ = at ∷ places_f f s (at + size_at s at) in
    pick (ltb at (length s)) more []

-- the places of the objects from `at` on
unfoldable pub places_from : List ℕ → ℕ → List ℕ
places_from s at = places_f (length s) s at

-- ---- what follows the fixed part

-- the version label of the base at b: N bytes from byte 28 on
abbrev pub version_label : List ℕ → ℕ → Label
version_label s b = label_at s (b + base_fixed) (base_at s b).n

-- its configuration label: M bytes after them
abbrev pub configuration_label : List ℕ → ℕ → Label
configuration_label s b = label_at s (b + base_fixed + (base_at s b).n) (base_at s b).m

-- n numbers of w bytes, one after the other from place i on
unfoldable pub numbers_at : ℕ → List ℕ → ℕ → ℕ → List ℕ
numbers_at w s i zero = []
numbers_at w s i (suc n) = number_at w s i ∷ numbers_at w s (i + w) n

-- the base's list: O numbers after the labels
abbrev pub functions_from : List ℕ → ℕ → ℕ
functions_from s b = b + base_fixed + (base_at s b).n + (base_at s b).m

abbrev pub functions_of : List ℕ → ℕ → List ℕ
functions_of s b = numbers_at 2 s (functions_from s b) (base_at s b).o

-- the list of the function at f: S numbers from byte 31 on
abbrev pub states_of : List ℕ → ℕ → List ℕ
states_of s f = numbers_at 2 s (f + function_fixed) (function_at s f).s
