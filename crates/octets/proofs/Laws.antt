-- The laws of numbers in bytes, each over the width: a number is one of more bytes that are 0; it fits its width; what is written is
-- read back, and what is read is written again.
use Prim.Native.Nat.{ℕ, zero, suc, ◌+◌, ◌-◌, ◌*◌, ◌/◌, ◌%◌, ◌^◌, ◌≤◌, ◌<◌}
use native.Mathlib.Nat.{zero-add, add-zero, suc-add, add-suc, pow-succ', pow-suc, div-lt_iff_lt-mul, mod-add-div, zero-lt-suc}
use native.Mathlib.Numerals.{add-one}
use native.Mathlib.Omega.{arith}
use mathlib.Core.Path.{◌≡◌, refl, sym, ap, subst, ◌∙◌}
use mathlib.Core.List.{List, [], ◌∷◌, ◌++◌}
use lib.ListN.{length, get_or, take, drop, set, replicate, length-set, length-take, get_or-eq_default, drop_of_length-le}
use lib.Seq.{sets, set_out, drop-cons, drop-drop, drop_at, get_or-drop, get_or-take}
use Rattle.std.specs.Int.{w16, w32, w64, from_le_bytes, to_le_bytes}
use Rattle.octets.specs.Octets.{number_at, bytes_of}

-- every element is a byte, as in a slice of bytes
abbrev pub Bytes : List ℕ → Type 0
Bytes s = (k : ℕ) → get_or s k 0 < 256

-- a number of one byte is that byte
pub number_one : (s : List ℕ) (i : ℕ) → number_at 1 s i ≡ get_or s i 0
unfolding number_at
number_one s i = omega arith

pub number_fits : (w : ℕ) (s : List ℕ) (i : ℕ) → Bytes s → number_at w s i < 256 ^ w
unfolding number_at
number_fits zero s i B = zero-lt-suc 0
number_fits (suc w) s i B =
    rw (pow-succ' 256 w) (omega (arith, B i, number_fits w s (i + 1) B))

pub length_bytes : (w v : ℕ) → length (bytes_of w v) ≡ w
unfolding bytes_of
length_bytes zero v = refl
length_bytes (suc w) v = ap suc (length_bytes w (v / 256))

-- what is read is written again
pub bytes_of_number : (w : ℕ) (s : List ℕ) (i : ℕ) → Bytes s → i + w ≤ length s → bytes_of w (number_at w s i) ≡ take w (drop i s)
unfolding number_at bytes_of
bytes_of_number zero s i B h = refl
bytes_of_number (suc w) s i B h =
    let b : ℕ = get_or s i 0 in
    let r : ℕ = number_at w s (i + 1) in
    let hb : b < 256 = B i in
    let low : (b + 256 * r) % 256 ≡ b = omega arith in
    let high : (b + 256 * r) / 256 ≡ r = omega arith in
    rw (low, high, bytes_of_number w s (i + 1) B (omega arith), add-one i, drop-cons s i 0 (omega arith))

-- what stands at a place, and after it, by what stands from there on
pub here : (s : List ℕ) (i x : ℕ) (xs : List ℕ) → drop i s ≡ x ∷ xs → get_or s i 0 ≡ x
here s i x xs e =
    let z : i ≡ i + 0 = omega arith in
    ap (λ (j : ℕ). get_or s j 0) z ∙ sym (get_or-drop i s 0 0) ∙ ap (λ (l : List ℕ). get_or l 0 0) e

pub past : (s : List ℕ) (i n : ℕ) (xs ys : List ℕ) → length xs ≡ n → drop i s ≡ xs ++ ys → drop (i + n) s ≡ ys
past s i n xs ys el e = sym (drop-drop n i s) ∙ ap (drop n) e ∙ drop_at xs ys n el

-- what is written is read back
pub number_of_bytes : (w v : ℕ) (s : List ℕ) (i : ℕ) (rest : List ℕ) → drop i s ≡ bytes_of w v ++ rest → v < 256 ^ w → number_at w s i ≡ v
unfolding number_at bytes_of
number_of_bytes zero v s i rest e h = omega arith
number_of_bytes (suc w) v s i rest e h =
    let x : ℕ = v % 256 in
    let f : v / 256 < 256 ^ w = (div-lt_iff_lt-mul (zero-lt-suc 255)).1 (subst (λ (n : ℕ). v < n) (pow-suc 256 w) h) in
    let d : drop (i + 1) s ≡ bytes_of w (v / 256) ++ rest = past s i 1 (x ∷ []) (bytes_of w (v / 256) ++ rest) refl e in
    omega (arith, here s i x (bytes_of w (v / 256) ++ rest) e, number_of_bytes w (v / 256) s (i + 1) rest d f, mod-add-div v 256)

-- the bytes that the library makes
pub bytes_of_two : (v : ℕ) → bytes_of 2 v ≡ to_le_bytes w16 v
unfolding bytes_of
bytes_of_two v = refl

pub bytes_of_four : (v : ℕ) → bytes_of 4 v ≡ to_le_bytes w32 v
unfolding bytes_of
bytes_of_four v =
    let third : v / 256 / 256 ≡ v / 65536 = omega arith in
    let fourth : v / 65536 / 256 ≡ v / 16777216 = omega arith in
    rw (third, fourth)

-- ---- a number as one of more bytes

-- a place and the places after it
place : (l : List ℕ) (i : ℕ) → get_or l i 0 ≡ get_or l (i + 0) 0
place l i = ap (λ (j : ℕ). get_or l j 0) (sym (add-zero i))

place_after : (l : List ℕ) (i k : ℕ) → get_or l (i + 1 + k) 0 ≡ get_or l (i + suc k) 0
place_after l i k =
    let e : i + 1 + k ≡ i + suc k = omega arith in
    ap (λ (j : ℕ). get_or l j 0) e

-- the bytes that it has more are 0
number_more :
    (v w : ℕ) (t s : List ℕ) (j i : ℕ) →
    w ≤ v →
    ((k : ℕ) → k < w → get_or t (j + k) 0 ≡ get_or s (i + k) 0) →
    ((k : ℕ) → w ≤ k → get_or t (j + k) 0 ≡ 0) →
    number_at v t j ≡ number_at w s i
unfolding number_at
number_more zero zero t s j i h same none = refl
number_more zero (suc w) t s j i h same none = absurd (omega arith)
number_more (suc v) zero t s j i h same none =
    let rest : number_at v t (j + 1) ≡ 0 = number_more v zero t s (j + 1) i (omega arith) (λ k l. absurd (omega arith)) (λ k l. place_after t j k ∙ none (suc k) (omega arith)) in
    omega (arith, place t j, none 0 (omega arith))
number_more (suc v) (suc w) t s j i h same none =
    let rest : number_at v t (j + 1) ≡ number_at w s (i + 1) =
    number_more v w t s (j + 1) (i + 1) (omega arith) (λ k l. place_after t j k ∙ same (suc k) (omega arith) ∙ sym (place_after s i k)) (λ k l. place_after t j k ∙ none (suc k) (omega arith)) in
    omega (arith, place t j, place s i, same 0 (omega arith))

-- a part of a list, and 0 past it
pub number_of_part : (v w : ℕ) (s : List ℕ) (i : ℕ) → w ≤ v → number_at v (take w (drop i s)) 0 ≡ number_at w s i
number_of_part v w s i h = number_more v w t s 0 i h within past_it
  where
    t : List ℕ
    t = take w (drop i s)

    from_first : (k : ℕ) → get_or t (0 + k) 0 ≡ get_or t k 0
    from_first k = ap (λ (j : ℕ). get_or t j 0) (zero-add k)

    within : (k : ℕ) → k < w → get_or t (0 + k) 0 ≡ get_or s (i + k) 0
    within k l = from_first k ∙ get_or-take w (drop i s) k 0 l ∙ get_or-drop i s k 0

    past_it : (k : ℕ) → w ≤ k → get_or t (0 + k) 0 ≡ 0
    past_it k l = from_first k ∙ get_or-eq_default t 0 (omega (arith, length-take w (drop i s)))

-- filled up with 0
zeros : (n k : ℕ) → get_or (replicate {A = ℕ} n 0) k 0 ≡ 0
zeros zero k = refl
zeros (suc n) zero = refl
zeros (suc n) (suc k) = zeros n k

filled_up : (bytes : List ℕ) (n k : ℕ) → get_or (bytes ++ replicate n 0) k 0 ≡ get_or bytes k 0
filled_up [] n k = zeros n k
filled_up (b ∷ bytes) n zero = refl
filled_up (b ∷ bytes) n (suc k) = filled_up bytes n k

number_filled_up : (w : ℕ) (bytes : List ℕ) (n i : ℕ) → number_at w (bytes ++ replicate n 0) i ≡ number_at w bytes i
unfolding number_at
number_filled_up zero bytes n i = refl
number_filled_up (suc w) bytes n i =
    omega (arith, filled_up bytes n i, number_filled_up w bytes n (i + 1))

-- eight bytes, as the library reads them
of_eight : (bytes : List ℕ) → from_le_bytes w64 bytes ≡ number_at 8 bytes 0
unfolding number_at
of_eight bytes = omega arith

-- the number of a list's bytes, of which there are at most eight
pub number_of_list : (bytes : List ℕ) (n : ℕ) → from_le_bytes w64 (bytes ++ replicate n 0) ≡ number_at 8 bytes 0
number_of_list bytes n = of_eight (bytes ++ replicate n 0) ∙ number_filled_up 8 bytes n 0

-- ---- stores, one after the other

-- two lists, the second where the first ends
pub sets_append : (l : List ℕ) (i : ℕ) (xs ys : List ℕ) → sets l i (xs ++ ys) ≡ sets (sets l i xs) (i + length xs) ys
sets_append l i [] ys = ap (λ (j : ℕ). sets l j ys) (sym (add-zero i))
sets_append l i (x ∷ xs) ys =
    sets_append (set l i x) (suc i) xs ys ∙ ap (λ (j : ℕ). sets (sets (set l i x) (suc i) xs) j ys) (suc-add i (length xs) ∙ sym (add-suc i (length xs)))

-- the same where the first list's length is known
pub then_sets : (l : List ℕ) (i n : ℕ) (xs ys : List ℕ) → length xs ≡ n → sets l i (xs ++ ys) ≡ sets (sets l i xs) (i + n) ys
then_sets l i n xs ys e = sets_append l i xs ys ∙ ap (λ (m : ℕ). sets (sets l i xs) (i + m) ys) e

-- past the end nothing is stored
pub sets_past : (l : List ℕ) (i : ℕ) (xs : List ℕ) → length l ≤ i → sets l i xs ≡ l
sets_past l i [] h = refl
sets_past l i (x ∷ xs) h = ap (λ (m : List ℕ). sets m (suc i) xs) (set_out l i x h) ∙ sets_past l (suc i) xs (omega arith)

-- so of a number's w bytes the n that reach the end are stored
pub put_cut : (l : List ℕ) (i w n v : ℕ) → n ≤ w → length l ≤ i + n → sets l i (bytes_of n v) ≡ sets l i (bytes_of w v)
unfolding bytes_of
put_cut l i w zero v h e = sym (sets_past l i (bytes_of w v) (omega arith))
put_cut l i zero (suc n) v h e = absurd (omega arith)
put_cut l i (suc w) (suc n) v h e = put_cut (set l i (v % 256)) (suc i) w n (v / 256) (omega arith) (rw (length-set l i (v % 256)) (omega arith))

-- byte after byte
module _ (out : List ℕ) (i : ℕ) where
  pub put_start : (w v : ℕ) → sets out i (bytes_of w v) ≡ sets out (i + 0) (bytes_of (w - 0) v)
  put_start w v =
      let e : i ≡ i + 0 = omega arith in
      let d : w ≡ w - 0 = omega arith in
      ap (λ (j : ℕ). sets out j (bytes_of w v)) e ∙ ap (λ (n : ℕ). sets out (i + 0) (bytes_of n v)) d

  pub put_step : (w k v : ℕ) → k < w → sets out (i + k) (bytes_of (w - k) v) ≡ sets (set out (i + k) (v % 256)) (i + (k + 1)) (bytes_of (w - (k + 1)) (v / 256))
  unfolding bytes_of
  put_step w k v h =
      let e : w - k ≡ suc (w - (k + 1)) = omega arith in
      let e' : suc (i + k) ≡ i + (k + 1) = omega arith in
      ap (λ (n : ℕ). sets out (i + k) (bytes_of n v)) e
      ∙ ap (λ (j : ℕ). sets (set out (i + k) (v % 256)) j (bytes_of (w - (k + 1)) (v / 256))) e'

  pub put_end : (w k v : ℕ) → w ≤ k → sets out (i + k) (bytes_of (w - k) v) ≡ out
  unfolding bytes_of
  put_end w k v h =
      let e : w - k ≡ 0 = omega arith in
      ap (λ (n : ℕ). sets out (i + k) (bytes_of n v)) e

-- the bytes of a list, from its byte k on
module _ (out : List ℕ) (i : ℕ) (bytes : List ℕ) where
  pub stored_start : sets out i bytes ≡ sets out (i + 0) (drop 0 bytes)
  stored_start = ap (λ (j : ℕ). sets out j bytes) (sym (add-zero i))

  pub stored_step : (k : ℕ) → k < length bytes → sets out (i + k) (drop k bytes) ≡ sets (set out (i + k) (get_or bytes k 0)) (i + (k + 1)) (drop (k + 1) bytes)
  stored_step k h =
      let e : suc (i + k) ≡ i + (k + 1) = omega arith in
      ap (sets out (i + k)) (drop-cons bytes k 0 h)
      ∙ ap (λ (j : ℕ). sets (set out (i + k) (get_or bytes k 0)) j (drop (suc k) bytes)) e
      ∙ ap (λ (n : ℕ). sets (set out (i + k) (get_or bytes k 0)) (i + (k + 1)) (drop n bytes)) (sym (add-one k))

  pub stored_end : (k : ℕ) → length bytes ≤ k → sets out (i + k) (drop k bytes) ≡ out
  stored_end k h = ap (sets out (i + k)) (drop_of_length-le bytes h)
