-- The laws of the walk of stage one: what is known of an object without a fault, where the base stands that is met first, and what holds at each turn.
use Prim.Native.Nat.{ℕ, suc, ◌+◌, ◌*◌, ◌≤◌, ◌<◌}
use native.Mathlib.Omega.{arith}
use mathlib.Core.Path.{◌≡◌, refl, sym, ◌∙◌}
use mathlib.Core.List.{List, [], ◌∷◌, ◌++◌}
use mathlib.Core.Bool.{Bool, true, false, not, ◌&&◌, and-false, true≢false}
use lib.Dec.{ltb, eqb}
use lib.ListN.{length, take, set, length-set}
use borrow.Author.Tests.{le-ltb, lt-ltb, ltb-true, ltb-false, eq-eqb, ne_eqb}
use Rattle.octets.specs.Pick.{pick}
use Rattle.std.specs.Prelude.{Option, Some, None, IfSome, unwrap_or}
use Rattle.std.specs.Option.{is_some}
use Rattle.octets.proofs.Tests.{pick_both, pick_true, pick_false}
use Rattle.pool.specs.Verdicts.{first_fault}
use Rattle.pool.specs.{declared.BaseHead.BaseHead, declared.FunctionHead.FunctionHead, declared.StateHead.StateHead}
use Rattle.pool.specs.Fields.{kind_at, base_type, function_type, state_type, base_at, function_at, state_at, head_at}
use Rattle.pool.specs.Fields.{base_fixed, function_fixed, state_fixed, fixed_of, rest_at, size_at, places_from}
use Rattle.pool.specs.Ranges.{label_right, base_right, function_right, state_right}
use Rattle.pool.specs.StageOne.{code_of, bytes_left, faults_at, code_at, fault_at}
use Rattle.pool.specs.StageTwo.{find, is_object, object_of}
use Rattle.pool.specs.Search.Walk.{base_from}
use Rattle.pool.proofs.Walk.{size_least, places_end, places_next, listed_next}
use Rattle.pool.proofs.Faults.{walk_next}

-- ---- which faults are left to an object of each type; h is its fixed part

module _ (s : List ℕ) (at : ℕ) (three : at + 3 ≤ length s) where
  known : ltb (bytes_left s at) 3 ≡ false
  known = le-ltb (bytes_left s at) 3 (omega arith)

  pub base_code : (h : BaseHead) → h ≡ base_at s at → kind_at s at ≡ base_type → code_at s at ≡ code_of (
      (ltb (bytes_left s at) base_fixed, 0xFF) ∷ (not (label_right h.n), 0x09) ∷ (not (label_right h.m), 0x0B)
      ∷ (ltb (bytes_left s at) (size_at s at), 0xFF) ∷ (not (base_right h), 0xFF) ∷ [])
  unfolding code_of faults_at head_at fixed_of pick
  base_code h e k = rw (e, known, k)

  pub function_code : (h : FunctionHead) → h ≡ function_at s at → kind_at s at ≡ function_type → code_at s at ≡ code_of (
      (ltb (bytes_left s at) function_fixed, 0xFF) ∷ (ltb (bytes_left s at) (size_at s at), 0xFF) ∷ (not (function_right h), 0xFF) ∷ [])
  unfolding code_of faults_at head_at fixed_of pick
  function_code h e k = rw (e, known, k)

  pub state_code : (h : StateHead) → h ≡ state_at s at → kind_at s at ≡ state_type → code_at s at ≡ code_of (
      (ltb (bytes_left s at) state_fixed, 0xFF) ∷ (not (state_right h), 0xFF) ∷ [])
  unfolding code_of faults_at head_at fixed_of rest_at pick
  state_code h e k = rw (e, known, k) (go (ltb (bytes_left s at) 8) _)
    where
      go : (t : Bool) (n : ℕ) → pick t 0xFF (pick t 0xFF n) ≡ pick t 0xFF n
      go true n = refl
      go false n = refl

-- an object that may have a fault in its fields only has none where they are right
pub right_where_fine : (r : Bool) → r ≡ (eqb (pick (not r) 0xFF 0x00) 0x00 && true)
unfolding pick
right_where_fine true = refl
right_where_fine false = refl

-- an object of another type is no base
pub no_base : (s : List ℕ) (at k b : ℕ) → kind_at s at ≡ suc k → base_from s at b ≡ b
unfolding is_object
no_base s at k b e = pick_false _ at b (simp (ne_eqb (kind_at s at) base_type (λ z. omega (arith, e)), and-false))

-- the base that is met first, this object taken in
module _ (s : List ℕ) (at : ℕ) where
  pub met_before : (base : Option ℕ) → is_some base ≡ true → IfSome base (λ b. b < length s) → unwrap_or base (length s) ≡ base_from s at (unwrap_or base (length s))
  met_before None e h = absurd (true≢false (sym e))
  met_before (Some b) e h =
      let n : eqb b (length s) ≡ false = ne_eqb b (length s) (λ m. omega arith) in
      sym (pick_false _ at b (rw n))

  pub met_here : (base : Option ℕ) → is_some base ≡ false → is_object s base_type 0 at ≡ true → at ≡ base_from s at (unwrap_or base (length s))
  met_here None e h = sym (pick_true _ at (length s) (rw (eq-eqb (length s) (length s) refl, h)))
  met_here (Some b) e h = absurd (true≢false e)

  pub met_not_here : (base : Option ℕ) → is_some base ≡ false → is_object s base_type 0 at ≡ false → length s ≡ base_from s at (unwrap_or base (length s))
  met_not_here None e h = sym (pick_false _ at (length s) (simp (h, and-false)))
  met_not_here (Some b) e h = absurd (true≢false e)

-- ---- a state

module _ (s : List ℕ) (at : ℕ) (k : kind_at s at ≡ state_type) where
  pub state_size : size_at s at ≡ state_fixed
  unfolding fixed_of rest_at pick
  state_size = rw k

-- ---- a function

module _ (s : List ℕ) (at : ℕ) (k : kind_at s at ≡ function_type) where
  pub function_size : size_at s at ≡ function_fixed + 2 * (function_at s at).s
  unfolding fixed_of rest_at pick
  function_size = rw k

-- ---- the base

-- the one met before a place, or the first from there on: the pool's length stands for none
unfoldable pub base_after : List ℕ → ℕ → ℕ → ℕ
base_after s at b = pick (ltb b (length s)) b (object_of s (places_from s at) base_type 0)

module _ (s : List ℕ) where
  pub base_start : object_of s (places_from s 0) base_type 0 ≡ base_after s 0 (length s)
  unfolding base_after pick
  base_start = rw (le-ltb (length s) (length s) (omega arith))

  module _ (at b : ℕ) (hb : b ≤ length s) where
    pub base_end : length s ≤ at → base_after s at b ≡ b
    unfolding base_after object_of find pick
    base_end h = rw (places_end s at h) (go (ltb b (length s)) refl)
      where
        go : (t : Bool) → ltb b (length s) ≡ t → pick t b (length s) ≡ b
        go true e = refl
        go false e = omega (arith, ltb-false b (length s) e)

    pub base_within : at < length s → base_from s at b ≤ length s
    base_within h = pick_both (λ (n : ℕ). n ≤ length s) _ (omega arith) hb

    pub base_next : at < length s → base_after s at b ≡ base_after s (at + size_at s at) (base_from s at b)
    unfolding base_after object_of find pick
    base_next h = rw (places_next s at h) (go (ltb b (length s)) refl (is_object s base_type 0 at))
      where
        later : ℕ
        later = find (is_object s base_type 0) (places_from s (at + size_at s at)) (length s)

        next : ℕ → ℕ
        next n = pick (ltb n (length s)) n later

        go : (t : Bool) → ltb b (length s) ≡ t → (u : Bool) → pick t b (pick u at later) ≡ next (pick (eqb b (length s) && u) at b)
        go true e u = rw (ne_eqb b (length s) (λ m. omega (arith, ltb-true b (length s) e)), e)
        go false e true = rw (eq-eqb b (length s) (omega (arith, ltb-false b (length s) e)), lt-ltb at (length s) h)
        go false e false = rw (and-false, e)

-- ---- what holds at each turn: the first fault is the first from here, the places found and those from here on are the pool's, and the base is
-- the one met or the first from here on

pub record Turn (s places : List ℕ) (count base at : ℕ) : Type 0 where
  pub fault : first_fault (fault_at s) (places_from s 0) ≡ first_fault (fault_at s) (places_from s at)
  pub listed : take count places ++ places_from s at ≡ places_from s 0
  pub least : 8 * count ≤ at
  pub few : count ≤ 2048
  pub long : length places ≡ 2048
  pub met : object_of s (places_from s 0) base_type 0 ≡ base_after s at base
  pub within : base ≤ length s

pub turn_next : (s places : List ℕ) (count base at : ℕ) → Turn s places count base at → length s ≤ 16384 → at < length s → code_at s at ≡ 0
    → Turn s (set places count at) (count + 1) (base_from s at base) (at + size_at s at)
turn_next s places count base at t short h e =
    record {
      fault = t.fault ∙ walk_next (fault_at s) s at h e;
      listed = listed_next s at places count (omega arith) h ∙ t.listed;
      least = omega (arith, size_least s at);
      few = omega arith;
      long = simp length-set t.long;
      met = t.met ∙ base_next s at base t.within h;
      within = base_within s at base t.within h;
    }
