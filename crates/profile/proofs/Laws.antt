-- The laws of the tables of a profile: a table that is filled from the last function of a list to the first holds what the list says of each ID.
use Prim.Native.Nat.{ℕ, ◌+◌, ◌<◌, ◌≤◌}
use native.Mathlib.Numerals.{add-one}
use native.Mathlib.Omega.{arith}
use mathlib.Core.Path.{◌≡◌, refl, sym, ap, ◌∙◌}
use mathlib.Core.List.{List, map}
use mathlib.Core.Bool.{Bool, true, false}
use lib.Dec.{eqb}
use lib.ListN.{length, get_or, drop, set, replicate, get_or-replicate, drop_of_length-le}
use lib.Seq.{drop-cons, ext_get_or, get_or-set_same, get_or-set_other}
use borrow.Author.Tests.{eq-eqb, ne_eqb, eqb-true, eqb-false}
use Rattle.octets.specs.Pick.{pick}
use Rattle.octets.specs.Bits.{bits_of}
use Rattle.octets.specs.Label.{row_of}
use Rattle.octets.proofs.Cells.{length_cells, cell}
use Rattle.pool.specs.declared.Verdict.{Verdict}
use Rattle.pool.specs.Pool.{verdict_of}
use Rattle.pool.specs.Fields.{base_type, function_type, state_type, function_at, functions_of, places_from}
use Rattle.pool.specs.StageTwo.{object_of, id_of, states_listed}
use Rattle.pool.proofs.Repeats.{has_bits}
use Rattle.profile.specs.Profile.{trigger_in, states_in, table_of, kept_at, kept_of_pool, blank_profile, profile_of, Says}

-- ---- a table of 256 cells

-- what h says of each ID stands in its cell
abbrev pub Table : (ℕ → ℕ) → List ℕ → Type 0
Table h t = (id : ℕ) → id < 256 → get_or t id 0 ≡ h id

pub table_is : (h : ℕ → ℕ) (t : List ℕ) → length t ≡ 256 → Table h t → t ≡ table_of h
unfolding table_of
table_is h t e says =
    ext_get_or 0 t (row_of 256 h) (e ∙ sym (length_cells 256 h)) (λ i l.
    let below : i < 256 = omega arith in
    says i below ∙ sym (cell 256 h i below))

pub table_says : (h : ℕ → ℕ) → Table h (table_of h)
unfolding table_of
table_says h id l = cell 256 h id l

pub table_blank : Table (λ id. 0) (replicate 256 0)
table_blank id l = get_or-replicate {A = ℕ} 256 id 0 0 l

-- one more function, with this key, goes before the others
pub table_more : (key val : ℕ) (h : ℕ → ℕ) (t : List ℕ) → length t ≡ 256 → key < 256 → Table h t → Table (λ id. pick (eqb key id) val (h id)) (set t key val)
unfolding pick
table_more key val h t e small says id l = go (eqb key id) refl
  where
    go : (b : Bool) → eqb key id ≡ b → get_or (set t key val) id 0 ≡ pick b val (h id)
    go true m = rw (← eqb-true key id m) (get_or-set_same t key val 0 (omega arith))
    go false n = get_or-set_other t key id val 0 (λ m. eqb-false key id n (sym m)) ∙ says id l

-- ---- what a list says from its function k on

picked : (b : Bool) (x y : List ℕ) → bits_of (pick b x y) ≡ pick b (bits_of x) (bits_of y)
unfolding pick
picked true x y = refl
picked false x y = refl

module _ (s ps l : List ℕ) (k id : ℕ) where
  pub trigger_end : length l ≤ k → trigger_in s ps (drop k l) id ≡ 0
  unfolding trigger_in
  trigger_end h = ap (λ (xs : List ℕ). trigger_in s ps xs id) (drop_of_length-le l h)

  pub trigger_next : k < length l → trigger_in s ps (drop k l) id ≡ pick (eqb (id_of s ps function_type (get_or l k 0)) id) (function_at s (object_of s ps function_type (get_or l k 0))).trigger (trigger_in s ps (drop (k + 1) l) id)
  unfolding trigger_in
  trigger_next h = rw (add-one, drop-cons l k 0)

  pub states_end : length l ≤ k → bits_of (states_in s ps (drop k l) id) ≡ 0
  unfolding states_in bits_of
  states_end h = ap (λ (xs : List ℕ). bits_of (states_in s ps xs id)) (drop_of_length-le l h)

  pub states_next : k < length l → bits_of (states_in s ps (drop k l) id) ≡ pick (eqb (id_of s ps function_type (get_or l k 0)) id) (bits_of (map (id_of s ps state_type) (states_listed s ps (get_or l k 0)))) (bits_of (states_in s ps (drop (k + 1) l) id))
  unfolding states_in
  states_next h = rw (add-one, drop-cons l k 0) (picked (eqb (id_of s ps function_type (get_or l k 0)) id) _ _)

-- ---- what is kept says what the lists say

pub says : (s : List ℕ) → Says s (kept_of_pool s)
unfolding kept_of_pool kept_at
says s =
    let ps = places_from s 0 in
    let l = functions_of s (object_of s ps base_type 0) in
    record {
      triggers = table_says (trigger_in s ps l);
      states = λ id t h u. rw (table_says (λ (f : ℕ). bits_of (states_in s ps l f)) id h) (has_bits (states_in s ps l id) t u);
    }

-- ---- of a refused pool nothing is kept

module _ (s : List ℕ) (v : Verdict) (e : v ≡ verdict_of s) where
  pub refused_profile : (v.code ≡ 0 → ⊥) → blank_profile ≡ profile_of s
  unfolding profile_of pick
  refused_profile n = rw (← e, ne_eqb v.code 0 n)

  pub kept_profile : v.code ≡ 0 → kept_of_pool s ≡ profile_of s
  unfolding profile_of pick
  kept_profile z = rw (← e, eq-eqb v.code 0 z)
