-- Laws of `sets`: what stands at a place afterwards and what is stored in a part.
use Prim.Native.Nat.{ℕ, ◌+◌, ◌≤◌}
use native.Mathlib.Omega.{arith}
use mathlib.Core.Path.{◌≡◌, sym, ap, ◌∙◌}
use mathlib.Core.List.{List, ◌++◌, append_assoc}
use borrow.Rule.Slice.PartMut.{put_mid}
use Rattle.std.proofs.lemmas.List.{drop-append-le}
use lib.ListN.{length, take, drop, length-drop, take-append-drop}
use lib.Seq.{sets, sets-eq, drop_at, drop-drop, take_at, length-take-le}

-- ---- what stands at a place

-- what was stored, where there is room for it
pub stands : (l : List ℕ) (i n : ℕ) (xs : List ℕ) → length xs ≡ n → i + n ≤ length l → take n (drop i (sets l i xs)) ≡ xs
stands l i n xs e h =
    let fits : i + length xs ≤ length l = omega arith in
    let room : i ≤ length l = omega arith in
    rw (sets-eq xs l i fits, append_assoc (take i l) xs (drop (i + length xs) l), drop_at (take i l) (xs ++ drop (i + length xs) l) i (length-take-le i l room))
    (take_at xs (drop (i + length xs) l) n e)

-- ---- a part, and what is stored in it

-- the part is replaced
pub part_put : (l : List ℕ) (i n : ℕ) (ys : List ℕ) → length ys ≡ n → i + n ≤ length l → put_mid i n l ys ≡ sets l i ys
part_put l i n ys e h =
    let fits : i + length ys ≤ length l = omega arith in
    rw (sets-eq ys l i fits, e, append_assoc (take i l) ys (drop (i + n) l), ← drop-drop n i l)

-- a list is stored at its start
pub part_set : (l : List ℕ) (i n : ℕ) (ys : List ℕ) → length ys ≤ n → i + n ≤ length l → put_mid i n l (sets (take n (drop i l)) 0 ys) ≡ sets l i ys
part_set l i n ys e h =
    let d : List ℕ = drop i l in
    let long : length (take n d) ≡ n = length-take-le n d (omega (arith, length-drop i l)) in
    let fits : i + length ys ≤ length l = omega arith in
    let inside : 0 + length ys ≤ length (take n d) = omega arith in
    let start : 0 + length ys ≡ length ys = omega arith in
    let rest : drop (length ys) (take n d) ++ drop n d ≡ drop (i + length ys) l =
    sym (drop-append-le (length ys) (take n d) (drop n d) (omega arith)) ∙ ap (drop (length ys)) (take-append-drop n d) ∙ drop-drop (length ys) i l in
    rw (sets-eq ys (take n d) 0 inside, start, sets-eq ys l i fits, append_assoc ys (drop (length ys) (take n d)) (drop n d), rest, append_assoc (take i l) ys (drop (i + length ys) l))
