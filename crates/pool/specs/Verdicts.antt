-- Verdicts, and how the first fault wins.
use Rattle.std.specs.Prelude.{ℕ, List, [], ◌∷◌, map, Bool, eqb}
use Rattle.octets.specs.Pick.{pick}
use Rattle.pool.specs.declared.Verdict.{Verdict}

-- a D.9 code and the number of the object it is about. "Code 08 is never given: a pool holds no strings.": no definition here makes an 8
abbrev pub verdict : ℕ → ℕ → Verdict
verdict c o = record { code = c; object = o }

-- "Success is 00, object FFFF."
abbrev pub fine : Verdict
fine = verdict 0x00 0xFFFF

-- the verdict of a rule: this code and object where the test finds a fault
abbrev pub fault : Bool → ℕ → ℕ → Verdict
fault found code object = pick found (verdict code object) fine

-- "the first fault wins": the earlier verdict, unless it finds no fault
unfoldable pub first : Verdict → Verdict → Verdict
first v later = pick (eqb v.code 0x00) later v

unfoldable pub first_of : List Verdict → Verdict
first_of [] = fine
first_of (v ∷ vs) = first v (first_of vs)

-- the first fault that f finds along a list
abbrev pub first_fault : (ℕ → Verdict) → List ℕ → Verdict
first_fault f l = first_of (map f l)
