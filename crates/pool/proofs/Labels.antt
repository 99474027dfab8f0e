-- What is known of the base of an accepted pool: its labels have 1 to 63 bytes, and the version label has no byte that it may not have.
use Prim.Native.Nat.{ℕ, suc, ◌≤◌, ◌<◌}
use native.Mathlib.Omega.{arith}
use mathlib.Core.Path.{◌≡◌, refl, sym, ◌∙◌}
use mathlib.Core.List.{List, [], ◌∷◌}
use mathlib.Core.Logic.{◌⊎◌, inl, inr}
use mathlib.Core.Bool.{Bool, true, false, not, ◌&&◌, true≢false}
use lib.ListN.{length}
use lib.Dec.{eqb, ltb}
use borrow.Author.Tests.{eqb-true, eq-eqb, ltb-false, leb-false, not-false}
use Rattle.octets.specs.Pick.{pick}
use Rattle.octets.proofs.Tests.{both}
use Rattle.octets.proofs.All.{All, none, ◌also◌}
use Rattle.pool.specs.declared.Verdict.{Verdict}
use Rattle.pool.specs.Verdicts.{verdict, fault, first, first_of, first_fault}
use Rattle.pool.specs.Fields.{object_number, base_type, base_at, size_at, version_label, places_from}
use Rattle.pool.specs.Ranges.{label_right}
use Rattle.pool.specs.StageOne.{Fault, code_of, bytes_left, is_base, faults_at, code_at, fault_at, stage_one}
use Rattle.pool.specs.StageTwo.{find, is_object, object_of, label_bytes, character_right, character_fault, rules_of, stage_two}
use Rattle.pool.specs.Pool.{verdict_of}

-- ---- verdicts without a fault

-- the first of two has none where both have none
pub both_fine : (v later : Verdict) → (first v later).code ≡ 0 → (v.code ≡ 0) × (later.code ≡ 0)
unfolding first pick
both_fine v later e = go (eqb v.code 0) refl e
  where
    go : (b : Bool) → eqb v.code 0 ≡ b → (pick b later v).code ≡ 0 → (v.code ≡ 0) × (later.code ≡ 0)
    go true t z = (eqb-true v.code 0 t, z)
    go false t z = absurd (true≢false (sym (eq-eqb v.code 0 z) ∙ t))

pub all_fine : (f : ℕ → Verdict) (l : List ℕ) → (first_fault f l).code ≡ 0 → All (λ x. (f x).code ≡ 0) l
unfolding first_of
all_fine f [] e = none
all_fine f (x ∷ l) e = let b = both_fine (f x) (first_fault f l) e in b.0 also all_fine f l b.1

-- a rule whose code is not 0
pub no_fault_found : (b : Bool) (c o : ℕ) → (fault b (suc c) o).code ≡ 0 → b ≡ false
unfolding pick
no_fault_found true c o e = absurd (omega arith)
no_fault_found false c o e = refl

pub code_late : (b : Bool) (c : ℕ) (fs : List Fault) → code_of ((b, suc c) ∷ fs) ≡ 0 → (b ≡ false) × (code_of fs ≡ 0)
unfolding code_of pick
code_late true c fs e = absurd (omega arith)
code_late false c fs e = (refl, e)

pub right_where : (a b : Bool) → a ≡ true → (a && not b) ≡ false → b ≡ true
right_where true true t e = refl
right_where true false t e = sym e
right_where false true t e = refl
right_where false false t e = t

-- an object without a fault: of a base both labels are right, and it is whole
pub record Fine (s : List ℕ) (at : ℕ) : Type 0 where
  pub version : (is_base s at && not (label_right (base_at s at).n)) ≡ false
  pub configuration : (is_base s at && not (label_right (base_at s at).m)) ≡ false
  pub whole : size_at s at ≤ bytes_left s at

pub code_fine : (s : List ℕ) (at : ℕ) → code_at s at ≡ 0 → Fine s at
unfolding faults_at
code_fine s at e =
    let three = code_late _ 0xFE _ e in
    let known = code_late _ 0x00 _ three.1 in
    let fixed = code_late _ 0xFE _ known.1 in
    let n = code_late _ 0x08 _ fixed.1 in
    let m = code_late _ 0x0A _ n.1 in
    let rest = code_late _ 0xFE _ m.1 in
    record { version = n.0; configuration = m.0; whole = ltb-false _ _ rest.0 }

-- ---- the place that is found

-- what holds of every place holds of the one that is found, and it passes the test
found : (P : ℕ → Type 0) (f : ℕ → Bool) (ps : List ℕ) (d : ℕ) → All P ps → (find f ps d ≡ d) ⊎ ((f (find f ps d) ≡ true) × P (find f ps d))
unfolding find pick
found P f [] d none = inl refl
found P f (p ∷ ps) d (h also hs) = go (f p) refl (found P f ps d hs)
  where
    go : (b : Bool) → f p ≡ b → (find f ps d ≡ d) ⊎ ((f (find f ps d) ≡ true) × P (find f ps d))
        → (pick b p (find f ps d) ≡ d) ⊎ ((f (pick b p (find f ps d)) ≡ true) × P (pick b p (find f ps d)))
    go true t z = inr (t, h)
    go false t z = z

-- ---- the base

pub record RightBase (s : List ℕ) (b : ℕ) : Type 0 where
  pub version : label_right (base_at s b).n ≡ true
  pub configuration : label_right (base_at s b).m ≡ true
  pub characters : All (λ c. character_right c ≡ true) (label_bytes (version_label s b))

module _ (s : List ℕ) where
  abbrev base : ℕ
  base = object_of s (places_from s 0) base_type 0

  -- of an object without a fault that is a base
  lengths_right : (at : ℕ) → code_at s at ≡ 0 → is_base s at ≡ true → (label_right (base_at s at).n ≡ true) × (label_right (base_at s at).m ≡ true)
  lengths_right at e b =
      let f = code_fine s at e in
      (right_where (is_base s at) (label_right (base_at s at).n) b f.version, right_where (is_base s at) (label_right (base_at s at).m) b f.configuration)

  letters : (l : List ℕ) → All (λ c. (character_fault 0x0A c).code ≡ 0) l → All (λ c. character_right c ≡ true) l
  letters [] none = none
  letters (c ∷ l) (h also hs) = not-false (character_right c) (no_fault_found _ 0x09 0 h) also letters l hs

  stage_two_lem : (stage_two s).code ≡ 0 → (base < length s) × All (λ c. character_right c ≡ true) (label_bytes (version_label s base))
  unfolding stage_two rules_of first_of
  stage_two_lem e =
      let there = both_fine _ _ e in
      let numbers = both_fine _ _ there.1 in
      let version = both_fine _ _ numbers.1 in
      let label = both_fine _ _ version.1 in
      (leb-false (length s) base (no_fault_found _ 0x01 0 there.0), letters _ (all_fine (character_fault 0x0A) _ label.0))

  stage_one_lem : (stage_one s).code ≡ 0 → base < length s → (label_right (base_at s base).n ≡ true) × (label_right (base_at s base).m ≡ true)
  unfolding stage_one object_of is_object
  stage_one_lem e l = go (found (λ p. code_at s p ≡ 0) (is_object s base_type 0) (places_from s 0) (length s) (all_fine (fault_at s) (places_from s 0) e))
    where
      go : (base ≡ length s) ⊎ ((is_object s base_type 0 base ≡ true) × (code_at s base ≡ 0)) → (label_right (base_at s base).n ≡ true) × (label_right (base_at s base).m ≡ true)
      go (inl z) = absurd (omega arith)
      go (inr h) = lengths_right base h.1 (both (eqb (object_number s base) 0) (is_base s base) h.0).1

  pub accepted_base : (verdict_of s).code ≡ 0 → RightBase s base
  unfolding verdict_of pick
  accepted_base e = go (ltb 16384 (length s)) e
    where
      go : (b : Bool) → (pick b (verdict 255 65535) (first (stage_one s) (stage_two s))).code ≡ 0 → RightBase s base
      go true z = absurd (omega arith)
      go false z =
          let v = both_fine (stage_one s) (stage_two s) z in
          let two = stage_two_lem v.1 in
          let one = stage_one_lem v.0 two.0 in
          record { version = one.0; configuration = one.1; characters = two.1 }
