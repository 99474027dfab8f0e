-- 01, "The pool": "Stage one walks the objects; the first fault wins and names its object."
use Rattle.std.specs.Prelude.{ℕ, ◌-◌, List, [], ◌∷◌, Bool, not, ◌&&◌, length, ltb, eqb}
use Rattle.octets.specs.Pick.{pick}
use Rattle.pool.specs.{declared.Verdict.Verdict, Verdicts.verdict, Verdicts.first_fault, Ranges.label_right, Ranges.head_right}
use Rattle.pool.specs.Fields.{object_number, kind_at, base_type, state_type, base_at, head_at, fixed_of, size_at, places_from}

-- a fault that an object may have: whether it has it, and the code
abbrev pub Fault : Type 0
Fault = Bool × ℕ

-- the code of the first that it has, and 00 where it has none
unfoldable pub code_of : List Fault → ℕ
code_of [] = 0x00
code_of (f ∷ fs) =
    let later : ℕ = code_of fs in
    pick f.0 f.1 later

-- how many bytes are left at a place
abbrev pub bytes_left : List ℕ → ℕ → ℕ
bytes_left s at = length s - at

abbrev pub is_base : List ℕ → ℕ → Bool
is_base s at = eqb (kind_at s at) base_type

-- "At each object, in order:"
unfoldable pub faults_at : List ℕ → ℕ → List Fault
faults_at s at =
    -- "fewer than 3 bytes left, FF and object FFFF;"
    (ltb (bytes_left s at) 3, 0xFF)
    -- "type not 0, 1 or 2, code 01;"
    ∷ (ltb state_type (kind_at s at), 0x01)
    -- "fixed part cut, FF;"
    ∷ (ltb (bytes_left s at) (fixed_of (kind_at s at)), 0xFF)
    -- "for a base, N of 0 or above 63, code 09,"
    ∷ (is_base s at && not (label_right (base_at s at).n), 0x09)
    -- "then M so, 0B;"
    ∷ (is_base s at && not (label_right (base_at s at).m), 0x0B)
    -- "list or labels cut, FF;"
    ∷ (ltb (bytes_left s at) (size_at s at), 0xFF)
    -- "a field out of its range, FF."
    ∷ (not (head_right (head_at s at)), 0xFF)
    ∷ []

abbrev pub code_at : List ℕ → ℕ → ℕ
code_at s at = code_of (faults_at s at)

-- ".. names its object": its number, or FFFF where fewer than 3 bytes are left
unfoldable pub name_at : List ℕ → ℕ → ℕ
name_at s at = pick (ltb (bytes_left s at) 3) 0xFFFF (object_number s at)

abbrev pub fault_at : List ℕ → ℕ → Verdict
fault_at s at = verdict (code_at s at) (name_at s at)

unfoldable pub stage_one : List ℕ → Verdict
stage_one s = first_fault (fault_at s) (places_from s 0)
