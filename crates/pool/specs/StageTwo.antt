-- 01, "The pool": "Stage two, each over the whole pool: .." `ps` are the places of the pool's objects, in order, and `b` that of its base.
use Rattle.std.specs.Prelude.{ℕ, suc, List, [], ◌∷◌, ◌++◌, map, Bool, not, ◌&&◌, ◌||◌, length, get_or, take, ltb, leb, eqb}
use Rattle.std.specs.List.{list_any}
use Rattle.octets.specs.{Pick.pick, declared.label.Label.Label}
use Rattle.pool.specs.declared.Verdict.{Verdict}
use Rattle.pool.specs.Verdicts.{fault, first_of, first_fault}
use Rattle.pool.specs.Fields.{object_number, kind_at, id_at, base_type, function_type, state_type, base_at, version_label, functions_of, states_of, places_from}

-- ---- which object a number means

-- the first of these places at which f holds, and d where there is none
unfoldable pub find : (ℕ → Bool) → List ℕ → ℕ → ℕ
find f [] d = d
find f (p ∷ ps) d =
    let later : ℕ = find f ps d in
    pick (f p) p later

-- "of that number and of the wanted type"
unfoldable pub is_object : List ℕ → ℕ → ℕ → ℕ → Bool
is_object s kind n p = eqb (object_number s p) n && eqb (kind_at s p) kind

-- the place of the object of this number and type, and the pool's length where there is none
unfoldable pub object_of : List ℕ → List ℕ → ℕ → ℕ → ℕ
object_of s ps kind n = find (is_object s kind n) ps (length s)

-- ""Absent" means no object of that number and of the wanted type."
abbrev pub absent : List ℕ → List ℕ → ℕ → ℕ → Bool
absent s ps kind n = leb (length s) (object_of s ps kind n)

-- the ID of the object of this number and type
unfoldable pub id_of : List ℕ → List ℕ → ℕ → ℕ → ℕ
id_of s ps kind n = id_at s (object_of s ps kind n)

-- the states that the function of this number lists
abbrev pub states_listed : List ℕ → List ℕ → ℕ → List ℕ
states_listed s ps n = states_of s (object_of s ps function_type n)

-- ---- what stood before

-- k is one of a list
unfoldable pub is_in : ℕ → List ℕ → Bool
is_in k xs = list_any (λ x. eqb x k) xs

-- where the first key stands that stood before, after the keys of `seen`; the number of keys where none did
unfoldable pub first_repeat : List ℕ → List ℕ → ℕ
first_repeat seen [] = 0
first_repeat seen (k ∷ ks) =
    let later : ℕ = suc (first_repeat (seen ++ k ∷ []) ks) in
    pick (is_in k seen) 0 later

-- ---- the characters of a label

-- the bytes that it has
abbrev pub label_bytes : Label → List ℕ
label_bytes l = take l.length l.bytes

-- 02, request 4: "Write the eleven characters as a list in the standard's order": the numbers are those that A.3 prints
abbrev pub forbidden : List ℕ
forbidden =
    0x5C  -- \ backslash
    ∷ 0x22  -- " quotation mark
    ∷ 0x27  -- ' apostrophe
    ∷ 0x60  -- ` grave accent
    ∷ 0x2F  -- / slash
    ∷ 0x3A  -- : colon
    ∷ 0x2A  -- * asterisk
    ∷ 0x3C  -- < less-than sign
    ∷ 0x3E  -- > greater-than sign
    ∷ 0x7C  -- | vertical line
    ∷ 0x3F  -- ? question mark
    ∷ []

-- "and test a byte against the list."
abbrev pub is_forbidden : ℕ → Bool
is_forbidden c = is_in c forbidden

-- "20–7E and A0–FF": no byte is above FF
abbrev pub is_visible : ℕ → Bool
is_visible c = leb 0x20 c && leb c 0x7E || leb 0xA0 c

abbrev pub character_right : ℕ → Bool
character_right c = is_visible c && not (is_forbidden c)

-- ---- faults along a list, each with its code

-- "For 05, 06 and 07 the later object is named (for a number listed twice, that number)": the name beside the key that stood before
unfoldable pub repeat_fault : ℕ → List ℕ → List ℕ → Verdict
repeat_fault code names keys = fault (ltb (first_repeat [] keys) (length keys)) code (get_or names (first_repeat [] keys) 0)

-- a byte of a label that it may not have: the base has number 0000
abbrev pub character_fault : ℕ → ℕ → Verdict
character_fault code c = fault (not (character_right c)) code 0x0000

-- a number listed of which no object of this type is there, "naming the listed number"
unfoldable pub absent_fault : List ℕ → List ℕ → ℕ → ℕ → ℕ → Verdict
absent_fault s ps code kind n = fault (absent s ps kind n) code n

-- two objects of this type with one ID, of the numbers listed
unfoldable pub ids_fault : List ℕ → List ℕ → ℕ → ℕ → List ℕ → Verdict
ids_fault s ps code kind listed = repeat_fault code listed (map (id_of s ps kind) listed)

-- the states of the function of this number
unfoldable pub states_absent : List ℕ → List ℕ → ℕ → ℕ → Verdict
states_absent s ps code n = first_fault (absent_fault s ps code state_type) (states_listed s ps n)

unfoldable pub states_alike : List ℕ → List ℕ → ℕ → ℕ → Verdict
states_alike s ps code n = ids_fault s ps code state_type (states_listed s ps n)

-- ---- the rules

-- "lists are taken in list order, functions in the base's order. Objects nobody lists are kept and mean nothing.": only listed numbers are looked at
unfoldable pub rules_of : List ℕ → List ℕ → ℕ → List Verdict
rules_of s ps b =
    -- "no base, 02 with object 0000;"
    fault (leb (length s) b) 0x02 0x0000
    -- "object number seen before, 05;"
    ∷ repeat_fault 0x05 (map (object_number s) ps) (map (object_number s) ps)
    -- "version not 2, 0C;"
    ∷ fault (not (eqb (base_at s b).version 2)) 0x0C 0x0000
    -- "a version label byte outside 20–7E and A0–FF or one of the eleven characters that A.3 forbids, 0A;"
    ∷ first_fault (character_fault 0x0A) (label_bytes (version_label s b))
    -- "a listed function absent, 03, naming the listed number;"
    ∷ first_fault (absent_fault s ps 0x03 function_type) (functions_of s b)
    -- "two listed functions with one function ID, 06;"
    ∷ ids_fault s ps 0x06 function_type (functions_of s b)
    -- "a listed state absent, 04, likewise;"
    ∷ first_fault (states_absent s ps 0x04) (functions_of s b)
    -- "two states of one function with one state ID, 07."
    ∷ first_fault (states_alike s ps 0x07) (functions_of s b)
    ∷ []

-- a base has number 0 and type 0
unfoldable pub stage_two : List ℕ → Verdict
stage_two s = first_of (rules_of s (places_from s 0) (object_of s (places_from s 0) base_type 0))
