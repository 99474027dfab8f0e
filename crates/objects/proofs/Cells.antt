-- Cells with numbers at the front and 0 after them: the numbers are read back, the others are blank, and such cells are known by that.
use Prim.Native.Nat.{ℕ, zero, suc, ◌-◌, ◌≤◌, ◌<◌, min}
use native.Mathlib.Nat.{zero-add}
use native.Mathlib.Omega.{arith}
use mathlib.Core.Path.{◌≡◌, refl, sym, ap, ◌∙◌}
use mathlib.Core.List.{List, [], ◌∷◌, ◌++◌}
use mathlib.Core.Bool.{true}
use lib.ListN.{length, take, drop, replicate, length-drop, length-replicate, take-append-drop}
use lib.Seq.{ext_get_or, sets-eq, take_at, drop_at, length-take-le}
use lib.Dec.{eqb}
use borrow.Author.Tests.{eqb-true}
use Rattle.octets.specs.Label.{bytes_at, label_at}
use Rattle.octets.proofs.Cells.{length_cells, cell}
use Rattle.pool.specs.Fields.{numbers_at}
use Rattle.pool.proofs.Lists.{length_numbers, number_in, byte_in}
use Rattle.objects.specs.Objects.{cells, all_blank, blank_from}
use Rattle.objects.proofs.Limits.{and_l, and_r}

blank_replicate : (n m : ℕ) → blank_from n (replicate m 0) ≡ true
blank_replicate zero zero = refl
blank_replicate zero (suc m) = blank_replicate zero m
blank_replicate (suc n) zero = refl
blank_replicate (suc n) (suc m) = blank_replicate n m

-- two blank lists of one length are the same
blanks_same : (a b : List ℕ) → all_blank a ≡ true → all_blank b ≡ true → length a ≡ length b → a ≡ b
blanks_same [] [] p q e = refl
blanks_same [] (y ∷ b) p q e = absurd (omega arith)
blanks_same (x ∷ a) [] p q e = absurd (omega arith)
blanks_same (x ∷ a) (y ∷ b) p q e =
    let x0 : x ≡ 0 = eqb-true x 0 (and_l (eqb x 0) (all_blank a) p) in
    let y0 : y ≡ 0 = eqb-true y 0 (and_l (eqb y 0) (all_blank b) q) in
    rw (x0, y0, blanks_same a b (and_r (eqb x 0) (all_blank a) p) (and_r (eqb y 0) (all_blank b) q) (omega arith))

module _ (m n : ℕ) (l : List ℕ) (h : n ≤ m) (e : length l ≡ n) where
  cells_split : cells m l ≡ l ++ drop n (replicate m 0)
  cells_split = sets-eq l (replicate m 0) 0 (omega (arith, length-replicate {A = ℕ} m 0)) ∙ rw (zero-add (length l), e)

  pub take_cells : take n (cells m l) ≡ l
  take_cells = ap (take n) cells_split ∙ take_at l (drop n (replicate m 0)) n e

  pub cells_blank : blank_from n (cells m l) ≡ true
  cells_blank = ap (λ (k : List ℕ). all_blank (drop n k)) cells_split ∙ ap all_blank (drop_at l (drop n (replicate m 0)) n e) ∙ blank_replicate n m

pub cells_are : (m n : ℕ) (l v : List ℕ) → n ≤ m → length v ≡ m → blank_from n v ≡ true → l ≡ take n v → cells m l ≡ v
cells_are m n l v h e b t =
    let d : drop n (replicate m 0) ≡ drop n v = blanks_same (drop n (replicate m 0)) (drop n v) (blank_replicate n m) b (omega (arith, length-drop {A = ℕ} n (replicate m 0), length-drop n v, length-replicate {A = ℕ} m 0)) in
    cells_split m n l h (ap length t ∙ length-take-le n v (omega arith)) ∙ rw (t, d) (take-append-drop n v)

-- ---- a label's cells

bytes_are : (s : List ℕ) (i n : ℕ) → bytes_at s i n ≡ numbers_at 1 s i n
bytes_are s i n =
    ext_get_or 0 (bytes_at s i n) (numbers_at 1 s i n) (length_cells n _ ∙ sym (length_numbers 1 s i n)) (λ k h.
    let l : k < n = rw (length_cells n _) at h in
    cell n _ k l ∙ byte_in s i k ∙ sym (number_in 1 s i n k l))

pub label_cells : (s : List ℕ) (i n : ℕ) → n ≤ 63 → (label_at s i n).bytes ≡ cells 63 (numbers_at 1 s i n)
unfolding label_at
label_cells s i n h =
    let m : min n 63 ≡ n = omega arith in
    let after : drop {A = ℕ} n (replicate 63 0) ≡ replicate (63 - n) 0 =
    blanks_same (drop n (replicate 63 0)) (replicate (63 - n) 0) (blank_replicate n 63) (blank_replicate 0 (63 - n)) (omega (arith, length-drop {A = ℕ} n (replicate 63 0), length-replicate {A = ℕ} 63 0, length-replicate {A = ℕ} (63 - n) 0)) in
    rw (m, bytes_are s i n) (sym (cells_split 63 n (numbers_at 1 s i n) h (length_numbers 1 s i n) ∙ rw after))
