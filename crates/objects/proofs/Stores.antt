-- The laws by which the loops go: cells that are filled, and fields that are stored one after the other.
use Prim.Native.Nat.{ℕ, suc, ◌+◌, ◌-◌, ◌*◌, ◌%◌, ◌≤◌, ◌<◌}
use native.Mathlib.Nat.{add-suc, add-zero, le_refl}
use native.Mathlib.Numerals.{add-one}
use native.Mathlib.Omega.{arith}
use mathlib.Core.Path.{◌≡◌, refl, sym, ap, ◌∙◌}
use mathlib.Core.List.{List, [], ◌∷◌, ◌++◌, map, append-nil, append_assoc}
use lib.ListN.{length, get_or, take, drop, set, length-append, length-drop, take-append-drop, drop_of_length-le}
use lib.Seq.{sets, drop-cons, take_all, take-set-le, drop-set-add}
use borrow.Rule.Slice.PartMut.{put_mid}
use Rattle.octets.specs.Octets.{number_at, bytes_of}
use Rattle.octets.proofs.Laws.{Bytes, length_bytes, then_sets}
use Rattle.pool.specs.Fields.{numbers_at}
use Rattle.pool.proofs.Lists.{length_numbers, number_in}
use Rattle.objects.specs.Objects.{Field, field, bytes_of_fields}

-- ---- numbers that are read into cells, from the k-th on

module _ (w : ℕ) (s : List ℕ) (i n k : ℕ) (out : List ℕ) where
  pub cell_next : (v : ℕ) → k < n → v ≡ number_at w s (i + w * k) → sets out k (drop k (numbers_at w s i n)) ≡ sets (set out k v) (k + 1) (drop (k + 1) (numbers_at w s i n))
  cell_next v h e =
      let l : k < length (numbers_at w s i n) = rw (length_numbers w s i n) h in
      rw (add-one, drop-cons (numbers_at w s i n) k 0, number_in w s i n k h, ← e)

  pub cell_end : n ≤ k → sets out k (drop k (numbers_at w s i n)) ≡ out
  cell_end h = ap (sets out k) (drop_of_length-le (numbers_at w s i n) {i = k} (rw (length_numbers w s i n) h))

-- ---- fields that are stored

field_first : (out : List ℕ) (i : ℕ) (f : Field) (fs : List Field) → sets out i (bytes_of_fields (f ∷ fs)) ≡ sets (sets out i (bytes_of f.width f.value)) (i + f.width) (bytes_of_fields fs)
unfolding bytes_of_fields
field_first out i f fs =
    then_sets out i f.width (bytes_of f.width f.value) (bytes_of_fields fs) (length_bytes f.width f.value)

-- how many bytes they are
unfoldable pub total : List Field → ℕ
total [] = 0
total (f ∷ fs) = f.width + total fs

pub length_fields : (fs : List Field) → length (bytes_of_fields fs) ≡ total fs
unfolding bytes_of_fields total
length_fields [] = refl
length_fields (f ∷ fs) = length-append (bytes_of f.width f.value) (bytes_of_fields fs) ∙ omega (arith, length_bytes f.width f.value, length_fields fs)

pub total_numbers : (w : ℕ) (l : List ℕ) → total (map (field w) l) ≡ w * length l
unfolding total
total_numbers w [] = omega arith
total_numbers w (x ∷ l) = omega (arith, total_numbers w l)

-- all of them, the first at i
abbrev pub stored : List ℕ → ℕ → List Field → List ℕ
stored out i [] = out
stored out i (f ∷ fs) = stored (sets out i (bytes_of f.width f.value)) (i + f.width) fs

pub stored_all : (out : List ℕ) (i : ℕ) (fs : List Field) → stored out i fs ≡ sets out i (bytes_of_fields fs)
unfolding bytes_of_fields
stored_all out i [] = refl
stored_all out i (f ∷ fs) = stored_all (sets out i (bytes_of f.width f.value)) (i + f.width) fs ∙ sym (field_first out i f fs)

fields_append : (fs gs : List Field) → bytes_of_fields (fs ++ gs) ≡ bytes_of_fields fs ++ bytes_of_fields gs
unfolding bytes_of_fields
fields_append [] gs = refl
fields_append (f ∷ fs) gs = rw (fields_append fs gs) (sym (append_assoc (bytes_of f.width f.value) (bytes_of_fields fs) (bytes_of_fields gs)))

-- two runs of fields, the second where the first ends
pub then_stored : (out : List ℕ) (i n : ℕ) (fs gs : List Field) → total fs ≡ n → sets out i (bytes_of_fields (fs ++ gs)) ≡ sets (sets out i (bytes_of_fields fs)) (i + n) (bytes_of_fields gs)
then_stored out i n fs gs e =
    ap (sets out i) (fields_append fs gs)
    ∙ then_sets out i n (bytes_of_fields fs) (bytes_of_fields gs) (length_fields fs ∙ e)

-- the numbers of a list, all of one width, from the k-th on
module _ (w : ℕ) (l : List ℕ) (k i : ℕ) (out : List ℕ) where
  pub number_next : k < length l → sets out i (bytes_of_fields (map (field w) (drop k l))) ≡ sets (sets out i (bytes_of w (get_or l k 0))) (i + w) (bytes_of_fields (map (field w) (drop (k + 1) l)))
  number_next g =
      ap (λ (r : List ℕ). sets out i (bytes_of_fields (map (field w) r))) (drop-cons l k 0 g)
      ∙ field_first out i (field w (get_or l k 0)) (map (field w) (drop (suc k) l))
      ∙ rw (add-one)

  pub number_end : length l ≤ k → sets out i (bytes_of_fields (map (field w) (drop k l))) ≡ out
  unfolding bytes_of_fields
  number_end g = ap (λ (r : List ℕ). sets out i (bytes_of_fields (map (field w) r))) (drop_of_length-le l {i = k} g)

-- numbers of one byte are their own bytes
pub bytes_are_fields : (l : List ℕ) → Bytes l → bytes_of_fields (map (field 1) l) ≡ l
unfolding bytes_of_fields bytes_of
bytes_are_fields [] b = refl
bytes_are_fields (x ∷ l) b =
    let same : x % 256 ≡ x = omega (arith, b 0) in
    rw (same, bytes_are_fields l (λ k. b (suc k)))

-- ---- a part of a buffer is stored to

take_sets : (a j : ℕ) (out b : List ℕ) → a ≤ j → take a (sets out j b) ≡ take a out
take_sets a j out [] h = refl
take_sets a j out (x ∷ b) h = take_sets a (suc j) (set out j x) b (omega arith) ∙ take-set-le a out j x h

drop_sets : (a j : ℕ) (out b : List ℕ) → drop a (sets out (a + j) b) ≡ sets (drop a out) j b
drop_sets a j out [] = refl
drop_sets a j out (x ∷ b) =
    ap (λ (i : ℕ). drop a (sets (set out (a + j) x) i b)) (sym (add-suc a j))
    ∙ drop_sets a (suc j) (set out (a + j) x) b
    ∙ ap (λ (l : List ℕ). sets l (suc j) b) (drop-set-add a out j x)

pub part_stored : (a : ℕ) (out last b : List ℕ) → a ≤ length out → last ≡ sets (take (length out - a) (drop a out)) 0 b → put_mid a (length out - a) out last ≡ sets out a b
part_stored a out last b h e =
    let whole : take (length out - a) (drop a out) ≡ drop a out = take_all (length out - a) (drop a out) (omega (arith, length-drop a out)) in
    let after : drop (length out - a) (drop a out) ≡ [] = drop_of_length-le (drop a out) {i = length out - a} (omega (arith, length-drop a out)) in
    let here : a + 0 ≡ a = add-zero a in
    rw (after, e, whole)
    (ap (λ (l : List ℕ). take a out ++ l) (append-nil (sets (drop a out) 0 b) ∙ sym (drop_sets a 0 out b))
    ∙ rw (here) (ap (λ (l : List ℕ). l ++ drop a (sets out a b)) (sym (take_sets a a out b (le_refl a))) ∙ take-append-drop a (sets out a b)))
