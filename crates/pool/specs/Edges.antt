-- 01, "The pool": the ranges and the characters at their edges, as codes that pools get: one accepted pool, and others that differ from it in some
-- bytes. The function `edges` of the crate ensures these statements.
use Rattle.std.specs.Prelude.{ℕ, zero, suc, ◌/◌, ◌%◌, ◌<◌, ◌≡◌, Bool, false, ◌&&◌, ◌||◌, List, [], ◌∷◌, ◌++◌, map, ltb, eqb, length, set, replicate}
use Rattle.std.proofs.lemmas.List.Edits.{sets}
use Rattle.octets.specs.Pick.{pick}
use Rattle.pool.specs.{Verdicts.verdict, Pool.verdict_of, Cases.base, Cases.function, Codes.state, Codes.listing}

-- function 5, number 1, style 10: minimum 16, maximum 32, offset 0, scale 1.0, one decimal, unit 3, name 4, picture 5, and the state of number 2
abbrev pub adjustable : List ℕ
adjustable =
    1 ∷ 0 ∷ 1 ∷ 5 ∷ 1 ∷ 2 ∷ 16 ∷ 0 ∷ 0 ∷ 0 ∷ 32 ∷ 0 ∷ 0 ∷ 0 ∷ 0 ∷ 0 ∷ 0 ∷ 0 ∷ 0 ∷ 0 ∷ 0x80 ∷ 0x3F ∷ 1 ∷ 3 ∷ 0 ∷ 4 ∷ 0 ∷ 5 ∷ 0 ∷ 1 ∷ 2 ∷ 0 ∷ []

-- the base from place 0 on, the function from 31, the state from 63
abbrev pub whole : List ℕ
whole = base 1 1 ++ adjustable ++ state

-- ---- the code that it gets with other bytes at a place

abbrev pub put : ℕ → List ℕ → ℕ
put place bytes = (verdict_of (sets whole place bytes)).code

-- each of these in place of a byte
abbrev pub put1 : ℕ → List ℕ → List ℕ
put1 place values = map (λ v. put place (v ∷ [])) values

-- of a number of two bytes
abbrev pub put2 : ℕ → List ℕ → List ℕ
put2 place values = map (λ v. put place (v % 256 ∷ v / 256 ∷ [])) values

-- of four
abbrev pub put4 : ℕ → List ℕ → List ℕ
put4 place values = map (λ v. put place (v % 256 ∷ v / 256 % 256 ∷ v / 65536 % 256 ∷ v / 16777216 ∷ [])) values

-- 0 to n - 1
abbrev pub up_to : ℕ → List ℕ
up_to zero = []
up_to (suc n) = up_to n ++ n ∷ []

-- an attribute, and after it n bytes FF of which one is FE, each in its turn
abbrev pub put_style : ℕ → ℕ → List ℕ
put_style attribute n = map (λ k. put 36 (attribute ∷ set (replicate n 0xFF) k 0xFE)) (up_to n)

-- ---- the characters of a version label

abbrev pub among : ℕ → List ℕ → Bool
among c [] = false
among c (x ∷ xs) = eqb c x || among c xs

-- "a version label byte outside 20–7E and A0–FF or one of the eleven characters that A.3 forbids, 0A"
abbrev pub label_code : ℕ → ℕ
label_code c =
    pick (ltb c 0x20 || ltb 0x7E c && ltb c 0xA0 || among c (0x5C ∷ 0x22 ∷ 0x27 ∷ 0x60 ∷ 0x2F ∷ 0x3A ∷ 0x2A ∷ 0x3C ∷ 0x3E ∷ 0x7C ∷ 0x3F ∷ [])) 0x0A 0x00

pub record Edges : Type 0 where
  pub accepted : verdict_of whole ≡ verdict 0x00 0xFFFF
  -- "type not 0, 1 or 2, code 01": of the state, which is too short for a base or a function
  pub type : put1 65 (0 ∷ 1 ∷ 2 ∷ 3 ∷ 255 ∷ []) ≡ 0xFF ∷ 0xFF ∷ 0x00 ∷ 0x01 ∷ 0x01 ∷ []
  -- "base number 0, others 1 to 65534": the greatest number is no fault, and no number that is listed
  pub base_number : put2 0 (0 ∷ 1 ∷ 256 ∷ []) ≡ 0x00 ∷ 0xFF ∷ 0xFF ∷ []
  pub function_number : put2 31 (0 ∷ 1 ∷ 65534 ∷ 65535 ∷ []) ≡ 0xFF ∷ 0x00 ∷ 0x03 ∷ 0xFF ∷ []
  pub state_number : put2 63 (0 ∷ 2 ∷ 65534 ∷ 65535 ∷ []) ≡ 0xFF ∷ 0x00 ∷ 0x04 ∷ 0xFF ∷ []
  -- "version 0 to 2", "version not 2, 0C"
  pub version : put1 3 (0 ∷ 1 ∷ 2 ∷ 3 ∷ []) ≡ 0x0C ∷ 0x0C ∷ 0x00 ∷ 0xFF ∷ []
  -- "O at least 1"
  pub functions : put1 26 (0 ∷ 1 ∷ []) ≡ 0xFF ∷ 0x00 ∷ []
  -- "preferred trigger 1, 2 or 255"
  pub trigger : put1 35 (0 ∷ 1 ∷ 2 ∷ 3 ∷ 254 ∷ 255 ∷ []) ≡ 0xFF ∷ 0x00 ∷ 0x00 ∷ 0xFF ∷ 0xFF ∷ 0x00 ∷ []
  -- "attribute 0 to 2"
  pub attribute : put1 36 (2 ∷ 3 ∷ 255 ∷ []) ≡ 0x00 ∷ 0xFF ∷ 0xFF ∷ []
  -- "Style 00: minimum, maximum, offset, scale, decimals and unit are all one bits.": 19 bytes
  pub style_00 : put 36 (0 ∷ replicate 19 0xFF) ≡ 0x00
  pub not_00 : put_style 0 19 ≡ replicate 19 0xFF
  -- "Style 01: minimum and maximum are all one bits.": 8 bytes
  pub style_01 : put 36 (1 ∷ replicate 8 0xFF) ≡ 0x00
  pub not_01 : put_style 1 8 ≡ replicate 8 0xFF
  -- "Style 10: minimum at most maximum."
  pub minimum : put4 37 (32 ∷ 33 ∷ []) ≡ 0x00 ∷ 0xFF ∷ []
  -- "Styles 01 and 10: scale finite and above zero, decimals at most 7, unit not FFFF."
  pub scale : put4 49 (0 ∷ 1 ∷ 0x7F7FFFFF ∷ 0x7F800000 ∷ 0x80000000 ∷ []) ≡ 0xFF ∷ 0x00 ∷ 0x00 ∷ 0xFF ∷ 0xFF ∷ []
  pub decimals : put1 53 (0 ∷ 7 ∷ 8 ∷ 255 ∷ []) ≡ 0x00 ∷ 0x00 ∷ 0xFF ∷ 0xFF ∷ []
  pub unit : put2 54 (0 ∷ 65534 ∷ 65535 ∷ []) ≡ 0x00 ∷ 0x00 ∷ 0xFF ∷ []
  pub scale_01 : put 36 (1 ∷ replicate 8 0xFF ++ replicate 8 0x00) ≡ 0xFF
  -- "state ID at most 63"
  pub state_id : put1 66 (0 ∷ 63 ∷ 64 ∷ []) ≡ 0x00 ∷ 0x00 ∷ 0xFF ∷ []
  -- "S at most 64": 64 numbers of which no object is there, and 65
  pub states : verdict_of (base 1 1 ++ listing 64 (replicate 128 9)) ≡ verdict 0x04 0x0909
  pub too_many : verdict_of (base 1 1 ++ listing 65 (replicate 130 9)) ≡ verdict 0xFF 1
  -- "names and pictures not FFFF": of the base, the function and the state
  pub names : map (λ place. put2 place (0 ∷ 65534 ∷ 65535 ∷ [])) (20 ∷ 22 ∷ 56 ∷ 58 ∷ 67 ∷ 69 ∷ []) ≡ replicate 6 (0x00 ∷ 0x00 ∷ 0xFF ∷ [])
  -- "for a base, N of 0 or above 63, code 09, then M so, 0B"
  pub labels :
      map (λ s. (verdict_of (s ++ function)).code) (base 0 1 ∷ base 63 1 ∷ base 64 1 ∷ base 1 0 ∷ base 1 63 ∷ base 1 64 ∷ base 0 0 ∷ [])
      ≡ 0x09 ∷ 0x00 ∷ 0x09 ∷ 0x0B ∷ 0x00 ∷ 0x0B ∷ 0x09 ∷ []
  -- each of the 256 bytes as a version label; as a configuration label, each is taken
  pub characters : put1 27 (up_to 256) ≡ map label_code (up_to 256)
  pub configuration : put1 28 (up_to 256) ≡ replicate 256 0x00
  -- "At most 16,384 bytes; more gives FF, object FFFF."
  pub long : (s : List ℕ) → 16384 < length s → verdict_of s ≡ verdict 0xFF 0xFFFF
  -- "fewer than 3 bytes left, FF and object FFFF"
  pub one_left : verdict_of (whole ++ 9 ∷ []) ≡ verdict 0xFF 0xFFFF
  pub two_left : verdict_of (whole ++ 9 ∷ 9 ∷ []) ≡ verdict 0xFF 0xFFFF
  pub three_left : verdict_of (whole ++ 9 ∷ 9 ∷ 9 ∷ []) ≡ verdict 0x01 0x0909
