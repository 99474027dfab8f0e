-- Fields in a list of bytes: each stands where the one before it ends. What is read so is written as the same bytes, and what is written is read.
use Prim.Native.Nat.{ℕ, zero, suc, ◌+◌, ◌≤◌}
use native.Mathlib.Nat.{add_assoc, add-zero}
use native.Mathlib.Omega.{arith}
use mathlib.Core.Path.{◌≡◌, refl, sym, ap, ◌∙◌, subst}
use mathlib.Core.Bool.{true}
use mathlib.Core.List.{List, [], ◌∷◌, ◌++◌, map, append_assoc}
use lib.ListN.{length, take, drop}
use lib.Seq.{drop-drop, take-add}
use lib.Dec.{lit≤}
use borrow.Author.Rules.{rules}
use Rattle.octets.specs.Pick.{pick}
use Rattle.octets.specs.Octets.{number_at, bytes_of}
use Rattle.octets.proofs.Laws.{Bytes, number_one, number_fits, length_bytes, bytes_of_number, number_of_bytes, past}
use Rattle.pool.specs.declared.Head.{Head}
use Rattle.pool.specs.declared.Head.TheVariants.{Base, Function, State}
use Rattle.pool.specs.Fields.{kind_at, head_at, numbers_at}
use Rattle.std.specs.Prelude.{Ok, Err}
use Rattle.objects.specs.Objects.{Kind, parts_of, Field, field, head_fields, bytes_of_fields, kind_right}
use Rattle.objects.specs.RoundTrip.{Fit}
use Rattle.objects.proofs.Stores.{total}
use Rattle.objects.proofs.Passed.{by_kind}

-- each field stands in s, the first at i
abbrev pub Reads : List ℕ → ℕ → List Field → Type 0
Reads s i [] = Unit {0}
Reads s i (f ∷ fs) = (f.value ≡ number_at f.width s i) × Reads s (i + f.width) fs

module _ (s : List ℕ) where
  pub fields_written : (fs : List Field) (i : ℕ) → Bytes s → Reads s i fs → i + total fs ≤ length s → bytes_of_fields fs ≡ take (total fs) (drop i s)
  unfolding bytes_of_fields total
  fields_written [] i B r h = refl
  fields_written (f ∷ fs) i B r h =
      let w : ℕ = f.width in
      rw (r.0, bytes_of_number w s i B (omega arith), fields_written fs (i + w) B r.1 (omega arith), ← drop-drop w i s) (sym (take-add w (total fs) (drop i s)))

  pub fields_read : (fs : List Field) (i : ℕ) (rest : List ℕ) → drop i s ≡ bytes_of_fields fs ++ rest → Fit fs → Reads s i fs
  unfolding bytes_of_fields
  fields_read [] i rest e h = tt
  fields_read (f ∷ fs) i rest e h =
      let b : List ℕ = bytes_of f.width f.value in
      let e' : drop i s ≡ b ++ (bytes_of_fields fs ++ rest) = e ∙ append_assoc b (bytes_of_fields fs) rest in
      (sym (number_of_bytes f.width f.value s i (bytes_of_fields fs ++ rest) e' h.0), fields_read fs (i + f.width) rest (past s i f.width b (bytes_of_fields fs ++ rest) (length_bytes f.width f.value) e') h.1)

  pub reads_fit : (fs : List Field) (i : ℕ) → Bytes s → Reads s i fs → Fit fs
  reads_fit [] i B r = tt
  reads_fit (f ∷ fs) i B r = (rw r.0 (number_fits f.width s i B), reads_fit fs (i + f.width) B r.1)

  -- two runs of fields, the second where the first ends
  pub reads_both : (fs gs : List Field) (i : ℕ) → Reads s i fs → Reads s (i + total fs) gs → Reads s i (fs ++ gs)
  unfolding total
  reads_both [] gs i r q = rw add-zero at q
  reads_both (f ∷ fs) gs i r q = (r.0, reads_both fs gs (i + f.width) r.1 (subst (λ (j : ℕ). Reads s j gs) (omega arith) q))

  pub reads_first : (fs gs : List Field) (i : ℕ) → Reads s i (fs ++ gs) → Reads s i fs
  reads_first [] gs i r = tt
  reads_first (f ∷ fs) gs i r = (r.0, reads_first fs gs (i + f.width) r.1)

  pub reads_then : (fs gs : List Field) (i : ℕ) → Reads s i (fs ++ gs) → Reads s (i + total fs) gs
  unfolding total
  reads_then [] gs i r = rw add-zero r
  reads_then (f ∷ fs) gs i r = subst (λ (j : ℕ). Reads s j gs) (omega arith) (reads_then fs gs (i + f.width) r.1)

  -- numbers of one width
  pub numbers_read : (w i n : ℕ) → Reads s i (map (field w) (numbers_at w s i n))
  unfolding numbers_at
  numbers_read w i zero = tt
  numbers_read w i (suc n) = (refl, numbers_read w (i + w) n)

  pub numbers_are : (w i : ℕ) (l : List ℕ) → Reads s i (map (field w) l) → numbers_at w s i (length l) ≡ l
  unfolding numbers_at
  numbers_are w i [] r = refl
  numbers_are w i (x ∷ l) r = rw (← r.0, numbers_are w (i + w) l r.1)

-- ---- the fixed part

module _ (s : List ℕ) (at : ℕ) where
  pub head_reads : kind_at s at ≤ 2 → Reads s at (head_fields (Ok (head_at s at)))
  head_reads k =
      by_kind s at (λ h. Reads s at (head_fields (Ok h))) k
      (λ e. simp (add_assoc, number_one, e) (search rules))
      (λ e. simp (add_assoc, number_one, e) (search rules))
      (λ e. simp (add_assoc, number_one, e) (search rules))

  head_are : (h : Head) → Reads s at (head_fields (Ok h)) → head_at s at ≡ h
  unfolding head_at pick
  head_are (Base h) r =
      let f = simp (add_assoc, number_one) at r in
      rw (← f.1.0, ← f.0, ← f.1.1.0, ← f.1.1.1.0, ← f.1.1.1.1.0, ← f.1.1.1.1.1.0, ← f.1.1.1.1.1.1.0, ← f.1.1.1.1.1.1.1.0, ← f.1.1.1.1.1.1.1.1.0, ← f.1.1.1.1.1.1.1.1.1.0)
  head_are (Function h) r =
      let f = simp (add_assoc, number_one) at r in
      rw (← f.1.0, ← f.0, ← f.1.1.0, ← f.1.1.1.0, ← f.1.1.1.1.0, ← f.1.1.1.1.1.0, ← f.1.1.1.1.1.1.0, ← f.1.1.1.1.1.1.1.0, ← f.1.1.1.1.1.1.1.1.0, ← f.1.1.1.1.1.1.1.1.1.0, ← f.1.1.1.1.1.1.1.1.1.1.0, ← f.1.1.1.1.1.1.1.1.1.1.1.0, ← f.1.1.1.1.1.1.1.1.1.1.1.1.0, ← f.1.1.1.1.1.1.1.1.1.1.1.1.1.0)
  head_are (State h) r =
      let f = simp (add_assoc, number_one) at r in
      rw (← f.1.0, ← f.0, ← f.1.1.0, ← f.1.1.1.0, ← f.1.1.1.1.0)

  pub kind_is : (k : Kind) → kind_right k ≡ true → Reads s at (head_fields k) → Ok (head_at s at) ≡ k
  kind_is (Ok h) e r = ap Ok (head_are h r)
  kind_is (Err p) e r = let z : ◌≡◌ {A = ℕ} 0 1 = cc in absurd (omega arith)

  -- its type is 0, 1 or 2
  pub type_known : (k : Kind) → kind_right k ≡ true → Reads s at (head_fields k) → kind_at s at ≤ 2
  type_known (Ok (Base h)) e r = omega (arith, r.1.0, number_one s (at + 2))
  type_known (Ok (Function h)) e r = omega (arith, r.1.0, number_one s (at + 2))
  type_known (Ok (State h)) e r = omega (arith, r.1.0, number_one s (at + 2))
  type_known (Err p) e r = let z : ◌≡◌ {A = ℕ} 0 1 = cc in absurd (omega arith)

-- a list has 255 numbers at most
pub list_most : (k : Kind) → Fit (head_fields k) → (parts_of k).list ≤ 255
list_most (Ok (Base h)) f = omega (arith, f.1.1.1.1.1.1.1.1.1.0)
list_most (Ok (Function h)) f = omega (arith, f.1.1.1.1.1.1.1.1.1.1.1.1.1.0)
list_most (Ok (State h)) f = lit≤ tt
list_most (Err p) f = lit≤ tt

pub fit_first : (fs gs : List Field) → Fit (fs ++ gs) → Fit fs
fit_first [] gs f = tt
fit_first (x ∷ fs) gs f = (f.0, fit_first fs gs f.1)
