-- 01, "The pool": "Fields are those of tables A.1 to A.3." An object by value: how it is read off a pool's bytes, when it is legal, how it is
-- written, and a whole pool as the list of its objects. `s` is the pool's bytes and `at` an object's place in it.
use Rattle.std.specs.Prelude.{ℕ, ◌+◌, ◌*◌, List, [], ◌∷◌, ◌++◌, map, Bool, true, false, not, ◌&&◌, length, take, drop, replicate, ltb, eqb, Result, Ok, Err}
use Rattle.std.specs.List.{list_all}
use Rattle.std.proofs.lemmas.List.Edits.{sets}
use Rattle.octets.specs.{Pick.pick, Octets.bytes_of, Label.blank, declared.label.Label.Label}
use Rattle.octets.specs.Numbers.{completed, too_short, wrong_value}
use Rattle.octets.specs.{Refusals.refusal_number, declared.numbers.Refusal.Refusal}
use Rattle.pool.specs.{declared.Head.Head, Ranges.label_right, Ranges.head_right, StageOne.code_at}
use Rattle.pool.specs.declared.Head.TheVariants.{Base, Function, State}
use Rattle.pool.specs.Fields.{kind_at, base_type, function_type, state_type, head_at, base_fixed, function_fixed, state_fixed, size_at, version_label, configuration_label, functions_of, states_of, places_from}
use Rattle.objects.specs.{declared.parts.Parts.Parts}
use Rattle.objects.specs.{declared.Object.Object, declared.Found.Found, declared.Written.Written}

-- the type of an object with the numbers of its fixed part, or the place at which no object could be read
abbrev pub Kind : Type 0
Kind = Result Head ℕ

-- ---- "Lengths from annex A: base 27 + N + M + 2·O bytes (labels N and M, O functions), function 30 + 2·S (S states, at most 64), state 8."

-- the bytes of the fixed part, of the version label and of the configuration label, and the count of the list
abbrev pub parts : ℕ → ℕ → ℕ → ℕ → Parts
parts f n m c = record { fixed = f; version = n; configuration = m; list = c }

abbrev pub parts_of : Kind → Parts
parts_of (Ok (Base h)) = parts base_fixed h.n h.m h.o
parts_of (Ok (Function h)) = parts function_fixed 0 0 h.s
parts_of (Ok (State h)) = parts state_fixed 0 0 0
parts_of (Err p) = parts 0 0 0 0

abbrev pub size_of : Kind → ℕ
size_of k = (parts_of k).fixed + (parts_of k).version + (parts_of k).configuration + 2 * (parts_of k).list

-- ---- an object is read

-- m cells: these numbers at the front, 0 in the others
abbrev pub cells : ℕ → List ℕ → List ℕ
cells m l = sets (replicate m 0) 0 l

-- the labels of a base; another object has none
abbrev pub label_after : List ℕ → ℕ → Label → Label
label_after s at label = pick (eqb (kind_at s at) base_type) label blank

-- the list of a base or of a function; a state has none
abbrev pub list_after : List ℕ → ℕ → List ℕ
list_after s at = pick (eqb (kind_at s at) base_type) (functions_of s at) (pick (eqb (kind_at s at) function_type) (states_of s at) [])

unfoldable pub whole_at : List ℕ → ℕ → Object
whole_at s at =
    record {
      kind = Ok (head_at s at);
      version = (label_after s at (version_label s at)).bytes;
      configuration = (label_after s at (configuration_label s at)).bytes;
      list = cells 255 (list_after s at);
    }

-- where none can be read: the place, and blank cells
unfoldable pub refused : ℕ → Object
refused at = record { kind = Err at; version = replicate 63 0; configuration = replicate 63 0; list = replicate 255 0 }

-- an object can be read at a place before the end where stage one finds no fault, in a pool of "At most 16,384 bytes"
unfoldable pub is_at : List ℕ → ℕ → Bool
is_at s at = not (ltb 16384 (length s)) && ltb at (length s) && eqb (code_at s at) 0x00

unfoldable pub decode : List ℕ → ℕ → Object
decode s at = pick (is_at s at) (whole_at s at) (refused at)

-- the place after it; of a refusal, the same place
unfoldable pub next_at : List ℕ → ℕ → ℕ
next_at s at = pick (is_at s at) (at + size_at s at) at

abbrev pub found_at : List ℕ → ℕ → Found
found_at s at = record { object = decode s at; next = next_at s at }

-- ---- an object is written: its fields one after the other, each in its width

pub record Field : Type 0 where
  pub width : ℕ
  pub value : ℕ

abbrev pub field : ℕ → ℕ → Field
field w v = record { width = w; value = v }

-- "Fields are those of tables A.1 to A.3": the fixed part, in the tables' order
abbrev pub head_fields : Kind → List Field
head_fields (Ok (Base h)) =
    field 2 h.number
    ∷ field 1 base_type
    ∷ field 1 h.version
    ∷ field 8 h.master
    ∷ field 8 h.mask
    ∷ field 2 h.name
    ∷ field 2 h.picture
    ∷ field 1 h.n
    ∷ field 1 h.m
    ∷ field 1 h.o
    ∷ []
head_fields (Ok (Function h)) =
    field 2 h.number
    ∷ field 1 function_type
    ∷ field 1 h.function
    ∷ field 1 h.trigger
    ∷ field 1 h.attribute
    ∷ field 4 h.minimum
    ∷ field 4 h.maximum
    ∷ field 4 h.offset
    ∷ field 4 h.scale
    ∷ field 1 h.decimals
    ∷ field 2 h.unit
    ∷ field 2 h.name
    ∷ field 2 h.picture
    ∷ field 1 h.s
    ∷ []
head_fields (Ok (State h)) = field 2 h.number ∷ field 1 state_type ∷ field 1 h.state ∷ field 2 h.name ∷ field 2 h.picture ∷ []
head_fields (Err p) = []

-- the labels, a byte a field, and the list, two bytes a field
abbrev pub fields_of : Object → List Field
fields_of o =
    head_fields o.kind
    ++ (map (field 1) (take (parts_of o.kind).version o.version)
    ++ (map (field 1) (take (parts_of o.kind).configuration o.configuration)
    ++ map (field 2) (take (parts_of o.kind).list o.list)))

unfoldable pub bytes_of_fields : List Field → List ℕ
bytes_of_fields [] = []
bytes_of_fields (f ∷ fs) = bytes_of f.width f.value ++ bytes_of_fields fs

unfoldable pub encode : Object → List ℕ
encode o = bytes_of_fields (fields_of o)

-- ---- a legal object: labels of 1 to 63 bytes, every field in its range, unused cells blank; a refusal is none

abbrev pub labels_right : Head → Bool
labels_right (Base h) = label_right h.n && label_right h.m
labels_right (Function h) = true
labels_right (State h) = true

abbrev pub kind_right : Kind → Bool
kind_right (Ok h) = labels_right h && head_right h
kind_right (Err p) = false

abbrev pub all_blank : List ℕ → Bool
all_blank cells = list_all (λ c. eqb c 0) cells

abbrev pub blank_from : ℕ → List ℕ → Bool
blank_from n l = all_blank (drop n l)

unfoldable pub legal : Object → Bool
legal o =
    kind_right o.kind
    && blank_from (parts_of o.kind).version o.version
    && blank_from (parts_of o.kind).configuration o.configuration
    && blank_from (parts_of o.kind).list o.list

-- ---- the call that writes: "1, 4, ..": "lent output too short", or a "value its field does not allow"

abbrev pub written : ℕ → ℕ → Written
written n p = record { number = n; next = p }

-- the number of the outcome, and the place after what was written; of a refusal, the place itself
abbrev pub written_at : ℕ → Result ℕ Refusal → Written
written_at at (Ok next) = written completed next
written_at at (Err why) = written (refusal_number why) at

abbrev pub no_room : Object → List ℕ → ℕ → Bool
no_room o out at = ltb (length out) (at + size_of o.kind)

unfoldable pub write_answer : Object → List ℕ → ℕ → Written
write_answer o out at = pick (no_room o out at) (written too_short at) (pick (legal o) (written completed (at + size_of o.kind)) (written wrong_value at))

-- "Every number but 0 leaves the state and all lent memory unchanged."
unfoldable pub write_out : Object → List ℕ → ℕ → List ℕ
write_out o out at = pick (no_room o out at) out (pick (legal o) (sets out at (encode o)) out)

-- ---- a pool as its objects

unfoldable pub decode_all : List ℕ → List Object
decode_all s = map (decode s) (places_from s 0)

unfoldable pub encode_all : List Object → List ℕ
encode_all [] = []
encode_all (o ∷ os) = encode o ++ encode_all os
