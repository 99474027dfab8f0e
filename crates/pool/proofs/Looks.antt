-- The laws of one look at a list of states, from its state k on.
use Prim.Native.Nat.{ℕ, ◌+◌, ◌≤◌, ◌<◌}
use native.Mathlib.Numerals.{add-one}
use native.Mathlib.Omega.{arith}
use mathlib.Core.Path.{◌≡◌, refl, sym, ap, ◌∙◌}
use mathlib.Core.Bool.{Bool, true, false}
use mathlib.Core.List.{List, ◌∷◌, map}
use lib.Dec.{eqb}
use lib.ListN.{length, get_or, drop, set, length-map, drop_of_length-le}
use lib.Seq.{drop-cons, get_or-set_same, get_or-set_other}
use borrow.Author.Tests.{lt-leb, lt-ltb, eqb-true, eqb-false}
use Rattle.octets.specs.Pick.{pick}
use Rattle.octets.specs.Bits.{has_bit, with_bit, bits_of}
use Rattle.octets.proofs.BitLaws.{bits_end}
use Rattle.pool.specs.Verdicts.{fine, first_fault}
use Rattle.pool.specs.Fields.{state_type, id_at}
use Rattle.pool.specs.StageTwo.{object_of, id_of, is_in, states_listed, absent_fault, ids_fault}
use Rattle.pool.specs.Search.Look.{Right, set_of, Sets}
use Rattle.pool.proofs.Faults.{fault_end, fault_next}
use Rattle.pool.proofs.Lists.{get_d_map}
use Rattle.pool.proofs.Repeats.{Unlike, unlike_fine, has_bits}

module _ (s ps l : List ℕ) where
  -- the IDs of the list's states
  abbrev keys : List ℕ
  keys = map (id_of s ps state_type) l

  -- of the states from k on none is absent, no two are alike, and this is the set of their IDs
  pub record RightFrom (k ids : ℕ) : Type 0 where
    pub present : (code : ℕ) → first_fault (absent_fault s ps code state_type) (drop k l) ≡ fine
    pub unlike : Unlike (drop k keys)
    pub set : ids ≡ bits_of (drop k keys)

  length_keys : length keys ≡ length l
  length_keys = length-map l (id_of s ps state_type)

  pub right_end : (k : ℕ) → length l ≤ k → RightFrom k 0
  right_end k h =
      let past : length keys ≤ k = omega (arith, length_keys) in
      record {
        present = λ code. fault_end (absent_fault s ps code state_type) l k h;
        unlike = rw (drop_of_length-le keys past) tt;
        set = sym (bits_end keys k past);
      }

  -- the state before them is there, with an ID that is not among theirs
  module _ (k ids id p : ℕ) (h : k < length l) (later : RightFrom (k + 1) ids) (is : p ≡ object_of s ps state_type (get_or l k 0)) (there : p < length s) (e : id ≡ id_at s p) (small : id < 64) (new : has_bit ids id ≡ false) where
    key : get_or keys k 0 ≡ id
    unfolding id_of
    key = get_d_map (id_of s ps state_type) l k h ∙ sym (e ∙ ap (id_at s) is)

    cons : drop k keys ≡ id ∷ drop (k + 1) keys
    cons =
        let l : k < length keys = omega (arith, length_keys) in
        drop-cons keys k 0 l ∙ rw (key, add-one)

    fresh : is_in id (drop (k + 1) keys) ≡ false
    fresh = sym (has_bits (drop (k + 1) keys) id small) ∙ ap (λ (w : ℕ). has_bit w id) (sym later.set) ∙ new

    present : (code : ℕ) → absent_fault s ps code state_type (get_or l k 0) ≡ fine
    unfolding absent_fault pick
    present code = rw (← is, lt-leb _ _ there)

    pub right_next : RightFrom k (with_bit ids id)
    unfolding bits_of pick
    right_next =
        record {
          present = λ code. fault_next (absent_fault s ps code state_type) l k fine h (present code) refl ∙ later.present code;
          unlike = rw cons (fresh, later.unlike);
          set = rw (cons, lt-ltb id 64 small, ← later.set);
        }

  pub right_whole : (ids : ℕ) → RightFrom 0 ids → Right s ps l ids
  unfolding ids_fault
  right_whole ids r =
      record {
        present = r.present;
        unlike = λ code. unlike_fine code l keys r.unlike;
        set = r.set;
      }

-- ---- the sets of the functions from k on: one more is stored

module _ (s ps functions : List ℕ) where
  pub sets_none : (sets : List ℕ) (k : ℕ) → length functions ≤ k → Sets s ps functions sets k
  sets_none sets k h j l m = let z : ⊥ = omega arith in elim z [ ]

  pub sets_next : (sets : List ℕ) (k v : ℕ) → k < length sets → Sets s ps functions sets (k + 1) → v ≡ set_of s ps (states_listed s ps (get_or functions k 0)) → Sets s ps functions (set sets k v) k
  sets_next sets k v h later e j l m = go (eqb j k) refl
    where
      go : (b : Bool) → eqb j k ≡ b → get_or (set sets k v) j 0 ≡ set_of s ps (states_listed s ps (get_or functions j 0))
      go true t = rw (eqb-true j k t) (get_or-set_same sets k v 0 h ∙ e)
      go false t =
          let n : j ≡ k → ⊥ = eqb-false j k t in
          get_or-set_other sets k j v 0 n ∙ later j (omega (arith, n)) m
