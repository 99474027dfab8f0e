-- The laws of the chains: what is sought along a chain is what is found along the places, and a chain grows at its front.
use Prim.Native.Nat.{ℕ, suc, ◌+◌, ◌%◌, ◌≤◌, ◌<◌}
use native.Mathlib.Nat.{le_refl, mod-lt}
use native.Mathlib.Numerals.{add-one}
use native.Mathlib.Omega.{arith}
use mathlib.Core.Path.{◌≡◌, refl, sym, ap, ◌∙◌}
use mathlib.Core.List.{List, [], ◌∷◌}
use mathlib.Core.Bool.{Bool, true, false}
use lib.Dec.{eqb, lit<}
use lib.ListN.{length, get_or, drop, set, drop_of_length-le, length-drop, length-set, replicate, get_or-replicate}
use lib.Seq.{drop-cons, drop-length, get_or-set_same, get_or-set_other}
use borrow.Author.Tests.{ne_eqb, eqb-true, eqb-false}
use Rattle.octets.specs.Pick.{pick}
use Rattle.octets.proofs.Laws.{here, past}
use Rattle.pool.specs.Fields.{object_number}
use Rattle.pool.specs.StageTwo.{find, is_object}
use Rattle.pool.specs.Search.Index.{chain_of, in_chain, seek, Heads, Links, Unused, Indexed}
use Rattle.pool.proofs.Lists.{find_next}

-- an object of this number is in the number's chain
pub other_chain : (s : List ℕ) (kind n p : ℕ) → in_chain s (n % 16384) p ≡ false → is_object s kind n p ≡ false
unfolding in_chain is_object
other_chain s kind n p e =
    let d : eqb (object_number s p) n ≡ false = ne_eqb (object_number s p) n (λ m. eqb-false (chain_of s p) (n % 16384) e (ap (λ (x : ℕ). x % 16384) m)) in
    rw d

-- what is sought by a weaker test passes over nothing
module _ (f g : ℕ → Bool) (d : ℕ) (ps : List ℕ) (few : length ps ≤ 2048) (passes : (p : ℕ) → g p ≡ false → f p ≡ false) where
  pub record Sought (k : ℕ) (xs : List ℕ) (i : ℕ) : Type 0 where
    pub least : k ≤ i
    pub same : find f xs d ≡ find f (drop i ps) d
    pub holds : i < length ps → g (get_or ps i 0) ≡ true

  pub sought : (xs : List ℕ) (k : ℕ) → k ≤ length ps → drop k ps ≡ xs → Sought k xs (seek g k xs)
  unfolding seek find pick
  sought [] k h e =
      let past_all : length ps ≤ 65535 = omega arith in
      record {
        least = omega arith;
        same = sym (ap (λ (l : List ℕ). find f l d) (drop_of_length-le ps past_all));
        holds = λ l. let z : ⊥ = omega arith in elim z [ ];
      }
  sought (x ∷ xs) k h e =
      let more : k < length ps = omega (arith, length-drop k ps, ap length e) in
      let next : drop (suc k) ps ≡ xs = rw (← add-one k) (past ps k 1 (x ∷ []) xs refl e) in
      go (g x) refl (sought xs (suc k) (omega arith) next)
    where
      go : (b : Bool) → g x ≡ b → Sought (suc k) xs (seek g (suc k) xs) → Sought k (x ∷ xs) (seek g k (x ∷ xs))
      go true y later =
          rw y (record {
            least = le_refl k;
            same = ap (λ (l : List ℕ). find f l d) (sym e);
            holds = λ l. ap g (here ps k x xs e) ∙ y;
          })
      go false n later =
          rw n (record {
            least = omega (arith, later.least);
            same = rw (passes x n) later.same;
            holds = later.holds;
          })

-- ---- a chain grows at its front: the object at place k goes before what its chain held

abbrev pub grown : List ℕ → List ℕ → List ℕ → ℕ → List ℕ
grown s ps chain k = set (set chain (16384 + k) (get_or chain (chain_of s (get_or ps k 0)) 0)) (chain_of s (get_or ps k 0)) k

module _ (s ps chain : List ℕ) (k : ℕ) (long : length chain ≡ 18432) (few : length ps ≤ 2048) (h : k < length ps) (heads : Heads s ps chain (k + 1)) where
  abbrev p : ℕ
  p = get_or ps k 0

  abbrev linked : List ℕ
  linked = set chain (16384 + k) (get_or chain (chain_of s p) 0)

  small : chain_of s p < 16384
  small = mod-lt (object_number s p) (lit< tt)

  pub heads_grown : Heads s ps (grown s ps chain k) k
  unfolding seek in_chain pick
  heads_grown b hb = go (eqb (chain_of s p) b) refl
    where
      go : (t : Bool) → eqb (chain_of s p) b ≡ t → get_or (grown s ps chain k) b 0 ≡ seek (in_chain s b) k (drop k ps)
      go true e =
          let m : chain_of s p ≡ b = eqb-true (chain_of s p) b e in
          let w : chain_of s p < length linked = simp length-set (omega (arith, small)) in
          rw (drop-cons ps k 0 h, e) (rw (← m) (get_or-set_same linked (chain_of s p) k 0 w))
      go false e =
          let n : b ≡ chain_of s p → ⊥ = λ m. eqb-false (chain_of s p) b e (sym m) in
          rw (drop-cons ps k 0 h, e)
          (get_or-set_other linked (chain_of s p) b k 0 n
          ∙ get_or-set_other chain (16384 + k) b (get_or chain (chain_of s p) 0) 0 (λ m. omega arith)
          ∙ heads b hb
          ∙ rw (add-one k))

  apart : (j : ℕ) → get_or (grown s ps chain k) (16384 + j) 0 ≡ get_or linked (16384 + j) 0
  apart j = get_or-set_other linked (chain_of s p) (16384 + j) k 0 (λ m. omega (arith, small))

  pub unused_grown : Unused ps chain → Unused ps (grown s ps chain k)
  unused_grown unused j hj hl =
      apart j ∙ get_or-set_other chain (16384 + k) (16384 + j) (get_or chain (chain_of s p) 0) 0 (λ m. omega arith) ∙ unused j hj hl

  pub links_grown : Links s ps chain (k + 1) → Links s ps (grown s ps chain k) k
  links_grown links j hj hl = go (eqb j k) refl
    where
      go : (t : Bool) → eqb j k ≡ t → get_or (grown s ps chain k) (16384 + j) 0 ≡ seek (in_chain s (chain_of s (get_or ps j 0))) (j + 1) (drop (j + 1) ps)
      go true e =
          let m : j ≡ k = eqb-true j k e in
          apart j ∙ rw m (get_or-set_same chain (16384 + k) (get_or chain (chain_of s p) 0) 0 (omega arith) ∙ heads (chain_of s p) small)
      go false e =
          let n : j ≡ k → ⊥ = eqb-false j k e in
          apart j ∙ get_or-set_other chain (16384 + k) (16384 + j) (get_or chain (chain_of s p) 0) 0 (λ m. n (omega arith)) ∙ links j (omega (arith, n)) hl

-- ---- at the start there are no chains

pub heads_none : (s ps : List ℕ) → Heads s ps (replicate 18432 65535) (length ps)
unfolding seek
heads_none s ps b hb = rw (drop-length ps) (get_or-replicate {A = ℕ} 18432 b 65535 0 (omega arith))

pub unused_none : (ps : List ℕ) → Unused ps (replicate 18432 65535)
unused_none ps j hj hl = get_or-replicate {A = ℕ} 18432 (16384 + j) 65535 0 (omega arith)

-- ---- along the chain of a number

module _ (s ps chain : List ℕ) (x : Indexed s ps chain) (kind n : ℕ) where
  -- what is found along the places is found from place i on, and i is in the number's chain
  pub record On (i : ℕ) : Type 0 where
    pub same : find (is_object s kind n) ps (length s) ≡ find (is_object s kind n) (drop i ps) (length s)
    pub holds : i < length ps → in_chain s (n % 16384) (get_or ps i 0) ≡ true

  chain_small : n % 16384 < 16384
  chain_small = mod-lt n (lit< tt)

  from : (k : ℕ) → k ≤ length ps → Sought (is_object s kind n) (in_chain s (n % 16384)) (length s) ps x.few (other_chain s kind n) k (drop k ps) (seek (in_chain s (n % 16384)) k (drop k ps))
  from k h = sought (is_object s kind n) (in_chain s (n % 16384)) (length s) ps x.few (other_chain s kind n) (drop k ps) k h refl

  pub chain_start : On (get_or chain (n % 16384) 0)
  chain_start = rw (x.heads (n % 16384) chain_small) (record { same = (from 0 (omega arith)).same; holds = (from 0 (omega arith)).holds })

  -- the next of the chain stands later
  module _ (i : ℕ) (h : i < length ps) (o : On i) where
    next_is : get_or chain (16384 + i) 0 ≡ seek (in_chain s (n % 16384)) (i + 1) (drop (i + 1) ps)
    unfolding in_chain
    next_is =
        let b : chain_of s (get_or ps i 0) ≡ n % 16384 = eqb-true (chain_of s (get_or ps i 0)) (n % 16384) (o.holds h) in
        x.links i (omega arith) h ∙ rw b

    pub chain_later : i < get_or chain (16384 + i) 0
    chain_later = rw next_is (omega (arith, (from (i + 1) (omega arith)).least))

    pub chain_next : is_object s kind n (get_or ps i 0) ≡ false → On (get_or chain (16384 + i) 0)
    chain_next e =
        let later = from (i + 1) (omega arith) in
        rw next_is (record { same = o.same ∙ find_next (is_object s kind n) ps (length s) i h e ∙ later.same; holds = later.holds })
