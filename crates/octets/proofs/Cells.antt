-- Lists that are filled one cell after the other.
use mathlib.Core.Path.{◌≡◌, refl, sym, ◌∙◌}
use mathlib.Core.List.{List, [], ◌∷◌, ◌++◌}
use mathlib.Core.Bool.{Bool, true, false}
use Prim.Native.Nat.{ℕ, zero, suc, ◌+◌, ◌-◌, ◌≤◌, ◌<◌}
use native.Mathlib.Numerals.{add-one}
use native.Mathlib.Omega.{arith}
use lib.Dec.{ltb}
use borrow.Author.Tests.{ltb-true, ltb-false}
use lib.ListN.{length, get_or, set, take, drop, replicate, length-append, length-take, get_or-append, get_or-eq_default}
use lib.Seq.{set_at, drop-cons, append_snoc, get_or_at, get_or-drop, take-suc}
use Rattle.std.proofs.lemmas.List.{append-nil, append_assoc, take_all, drop-replicate, replicate_more, replicate-append-replicate}
use Rattle.octets.specs.Label.{row_of}

pub length_cells : (n : ℕ) (f : ℕ → ℕ) → length (row_of n f) ≡ n
length_cells zero f = refl
length_cells (suc n) f = length-append (row_of n f) (f n ∷ []) ∙ rw (length_cells n f, add-one)

-- the next cell is filled
next : (i : ℕ) (f : ℕ → ℕ) (y : ℕ) (ys : List ℕ) → set (row_of i f ++ y ∷ ys) i (f i) ≡ row_of (i + 1) f ++ ys
next i f y ys = set_at (row_of i f) y ys (f i) i (length_cells i f) ∙ rw (add-one) (sym (append_snoc (row_of i f) (f i) ys))

-- in a slice
pub next_in : (s : List ℕ) (f : ℕ → ℕ) (i : ℕ) → i < length s → set (row_of i f ++ drop i s) i (f i) ≡ row_of (i + 1) f ++ drop (i + 1) s
next_in s f i h = rw (drop-cons s i 0 h) (next i f (get_or s i 0) (drop (suc i) s) ∙ rw (add-one))

-- a cell, with anything after the last
pub cell : (n : ℕ) (f : ℕ → ℕ) (i : ℕ) → i < n → get_or (row_of n f) i 0 ≡ f i
cell zero f i h = omega arith
cell (suc n) f i h = go (ltb i n) refl (cell n f i)
  where
    go : (b : Bool) → ltb i n ≡ b → (i < n → get_or (row_of n f) i 0 ≡ f i) → get_or (row_of n f ++ f n ∷ []) i 0 ≡ f i
    go true e earlier =
        let l : i < n = ltb-true i n e in
        let m : i < length (row_of n f) = rw (length_cells n f) l in
        get_or-append (row_of n f) (f n ∷ []) 0 i m ∙ earlier l
    go false e earlier =
        let l : n ≤ i = ltb-false i n e in
        let same : i ≡ n = omega arith in
        rw same (get_or_at (row_of n f) (f n) [] 0 n (length_cells n f))

-- the same cells by another function
pub same_cells : (n : ℕ) (f g : ℕ → ℕ) → ((i : ℕ) → i < n → f i ≡ g i) → row_of n f ≡ row_of n g
same_cells zero f g h = refl
same_cells (suc n) f g h = rw (same_cells n f g (λ i l. h i (omega arith)), h n (omega arith))

-- the cells that the first elements of a list fill, and 0 past its end
first_cells : (n : ℕ) (l : List ℕ) → row_of n (λ k. get_or l k 0) ≡ take n l ++ replicate (n - length l) 0
first_cells zero l = let e : zero - length l ≡ 0 = omega arith in rw e
first_cells (suc n) l = go (ltb n (length l)) refl (first_cells n l)
  where
    go : (b : Bool) → ltb n (length l) ≡ b → row_of n (λ k. get_or l k 0) ≡ take n l ++ replicate (n - length l) 0 → row_of (suc n) (λ k. get_or l k 0) ≡ take (suc n) l ++ replicate (suc n - length l) 0
    go true e before =
        let h : n < length l = ltb-true n (length l) e in
        let none : n - length l ≡ 0 = omega arith in
        let none' : suc n - length l ≡ 0 = omega arith in
        rw (before, none, none', take-suc l n 0 h, append-nil, append-nil)
    go false e before =
        let h : length l ≤ n = ltb-false n (length l) e in
        let h' : length l ≤ suc n = omega arith in
        let more : suc n - length l ≡ n - length l + 1 = omega arith in
        rw (before, take_all n l h, take_all (suc n) l h', get_or-eq_default l 0 h, append_assoc, more, replicate_more {X = ℕ} (n - length l) 0)

-- cells filled by a part of a list, which may end before them, and 0 in those that are left of k
pub part_of_cells : (k n : ℕ) (s : List ℕ) (i : ℕ) → n ≤ k → take n (drop i s) ++ drop (length (take n (drop i s))) (replicate k 0) ≡ row_of n (λ j. get_or s (i + j) 0) ++ replicate (k - n) 0
part_of_cells k n s i h =
    let l : List ℕ = drop i s in
    let cells : row_of n (λ j. get_or s (i + j) 0) ≡ take n l ++ replicate (n - length l) 0 =
    same_cells n (λ j. get_or s (i + j) 0) (λ j. get_or l j 0) (λ j m. sym (get_or-drop i s j 0)) ∙ first_cells n l in
    let left : k - length (take n l) ≡ n - length l + (k - n) = omega (arith, length-take n l) in
    rw (cells, drop-replicate {X = ℕ} (length (take n l)) k 0, left, append_assoc, replicate-append-replicate)
