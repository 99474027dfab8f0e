-- A pool in which no two fields of an object are alike: tables A.1 to A.3 byte by byte. The crates above say what each of its fields is read as.
use Rattle.std.specs.Prelude.{ℕ, List, [], ◌∷◌, ◌++◌}

-- table A.1: number, type, version; master NAME; mask; name, picture, N, M, O; the labels ABC and DEFG; the function's number
abbrev pub sample_base : List ℕ
sample_base =
    0x00 ∷ 0x00 ∷ 0 ∷ 2 ∷ []
    ++ 0x11 ∷ 0x12 ∷ 0x13 ∷ 0x14 ∷ 0x15 ∷ 0x16 ∷ 0x17 ∷ 0x18 ∷ []
    ++ 0x21 ∷ 0x22 ∷ 0x23 ∷ 0x24 ∷ 0x25 ∷ 0x26 ∷ 0x27 ∷ 0x28 ∷ []
    ++ 0x31 ∷ 0x32 ∷ 0x33 ∷ 0x34 ∷ 3 ∷ 4 ∷ 1 ∷ []
    ++ 0x41 ∷ 0x42 ∷ 0x43 ∷ 0x44 ∷ 0x45 ∷ 0x46 ∷ 0x47 ∷ []
    ++ 0x02 ∷ 0x01 ∷ []

-- table A.2: number, type, function ID, preferred trigger, attribute; minimum; maximum; offset; scale; decimals, unit, name, picture, S; the states' numbers
abbrev pub sample_function : List ℕ
sample_function =
    0x02 ∷ 0x01 ∷ 1 ∷ 0x51 ∷ 255 ∷ 2 ∷ []
    ++ 0x01 ∷ 0x02 ∷ 0x03 ∷ 0x04 ∷ []
    ++ 0x05 ∷ 0x06 ∷ 0x07 ∷ 0x08 ∷ []
    ++ 0x61 ∷ 0x62 ∷ 0x63 ∷ 0x64 ∷ []
    ++ 0x71 ∷ 0x72 ∷ 0x73 ∷ 0x74 ∷ []
    ++ 6 ∷ 0x35 ∷ 0x36 ∷ 0x37 ∷ 0x38 ∷ 0x39 ∷ 0x3A ∷ 3 ∷ []
    ++ 0x03 ∷ 0x01 ∷ 0x04 ∷ 0x01 ∷ 0x05 ∷ 0x01 ∷ []

-- table A.3: number, type, state ID, name, picture
abbrev pub sample_states : List ℕ
sample_states =
    0x03 ∷ 0x01 ∷ 2 ∷ 9 ∷ 0x3B ∷ 0x3C ∷ 0x3D ∷ 0x3E ∷ []
    ++ 0x04 ∷ 0x01 ∷ 2 ∷ 63 ∷ 0x4B ∷ 0x4C ∷ 0x4D ∷ 0x4E ∷ []
    ++ 0x05 ∷ 0x01 ∷ 2 ∷ 0 ∷ 0x5B ∷ 0x5C ∷ 0x5D ∷ 0x5E ∷ []

-- the base from place 0 on, the function from 36, the states from 72, 80 and 88
abbrev pub sample : List ℕ
sample = sample_base ++ sample_function ++ sample_states
