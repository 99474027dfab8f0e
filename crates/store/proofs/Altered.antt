-- "any change inside one word is found": the check of the block in which it lies is wrong.
use Prim.Native.Nat.{ℕ, ◌+◌, ◌-◌, ◌*◌, ◌/◌, ◌%◌, ◌<◌}
use mathlib.Core.Path.{◌≡◌, refl, sym, ap, ◌∙◌}
use mathlib.Core.Bool.{Bool, true, false, not}
use mathlib.Core.List.{List}
use native.Mathlib.Omega.{arith}
use lib.Dec.{eqb}
use lib.ListN.{length, drop}
use lib.Seq.{get_or-take, get_or-drop}
use borrow.Author.Tests.{eqb-true, eqb-false, not-false}
use Rattle.octets.specs.{Pick.pick, Octets.number_at, Numbers.check_wrong}
use Rattle.octets.proofs.Laws.{Bytes, number_fits}
use Rattle.store.specs.Blocks.{block_bytes, block_at, word_at, sum_at, check_at, is_intact, is_damaged}
use Rattle.store.specs.Loaded.{load_number, loaded_of}
use Rattle.store.specs.Promises.{word, Altered}
use Rattle.store.proofs.Below.{below_none, some_below_lem}
use Rattle.store.proofs.Checks.{Agree, word_moved, check_moved, same_sum, sum_but}

-- ---- a block in its place

module _ (s : List ℕ) (b : ℕ) where
  alike : Agree (block_at s b) s 0 (512 * b) 512
  alike k h = let e : 0 + k ≡ k = omega arith in rw e (get_or-take 512 (drop (512 * b) s) k 0 h ∙ get_or-drop (512 * b) s k 0)

  -- its check is right, by the words of the whole
  pub right : is_intact (b + 1) (block_at s b) ≡ true → word_at s (512 * b) 127 ≡ (sum_at s (512 * b) 127 + (b + 1)) % 4294967296
  unfolding check_at
  right e =
      sym (word_moved (block_at s b) s 0 (512 * b) 128 127 alike (omega arith)) ∙ eqb-true _ _ e
      ∙ check_moved (block_at s b) s 0 (512 * b) (b + 1) (λ k h. alike k (omega arith))

-- ---- bytes that differ in word k of block b, and in no other word of it

module _ (s t : List ℕ) (b k : ℕ) (in_block : k < 128) (bytes : Bytes s) (bytes' : Bytes t)
    (others : (j : ℕ) → (j ≡ k → ⊥) → word_at t (512 * b) j ≡ word_at s (512 * b) j)
    (differs : word_at t (512 * b) k ≡ word_at s (512 * b) k → ⊥) where
  abbrev p : ℕ
  p = 512 * b

  -- not both have the right check: the sums agree and the check words do not, or the check words agree and the sums do not
  not_both : is_intact (b + 1) (block_at s b) ≡ true → is_intact (b + 1) (block_at t b) ≡ true → ⊥
  not_both x y = go (eqb k 127) refl (right s b x) (right t b y)
    where
      go : (l : Bool) → eqb k 127 ≡ l → word_at s p 127 ≡ (sum_at s p 127 + (b + 1)) % 4294967296
          → word_at t p 127 ≡ (sum_at t p 127 + (b + 1)) % 4294967296 → ⊥
      go true e f g =
          let z : k ≡ 127 = eqb-true k 127 e in
          let m : sum_at t p 127 ≡ sum_at s p 127 = same_sum t s p p 127 (λ j h. others j (λ q. omega arith)) in
          let n : word_at t p 127 ≡ word_at s p 127 = omega arith in
          differs (rw z n)
      go false e f g =
          let z : k ≡ 127 → ⊥ = eqb-false k 127 e in
          let n : word_at t p 127 ≡ word_at s p 127 = others 127 (λ q. omega arith) in
          let m : sum_at t p 127 + word_at s p k ≡ sum_at s p 127 + word_at t p k = sum_but t s p p 127 k (omega arith) (λ j h. others j) in
          let u : word_at s p k < 4294967296 = number_fits 4 s (p + 4 * k) bytes in
          let v : word_at t p k < 4294967296 = number_fits 4 t (p + 4 * k) bytes' in
          differs (omega arith)

  is_broken : is_intact (b + 1) (block_at s b) ≡ true → not (is_intact (b + 1) (block_at t b)) ≡ true
  is_broken x = go (is_intact (b + 1) (block_at t b)) refl
    where
      go : (l : Bool) → is_intact (b + 1) (block_at t b) ≡ l → not l ≡ true
      go true y = absurd (not_both x y)
      go false y = refl

-- ---- all blocks

module _ (s : List ℕ) where
  damaged_number : is_damaged s ≡ true → (loaded_of s).number ≡ check_wrong
  unfolding pick load_number loaded_of
  damaged_number e = rw e

  pub undamaged : ((loaded_of s).number ≡ check_wrong → ⊥) → is_damaged s ≡ false
  undamaged h = go (is_damaged s) refl
    where
      go : (l : Bool) → is_damaged s ≡ l → l ≡ false
      go true e = absurd (h (damaged_number e))
      go false e = refl

  pub all_intact : is_damaged s ≡ false → (b : ℕ) → b < length s / block_bytes → is_intact (b + 1) (block_at s b) ≡ true
  unfolding is_damaged
  all_intact e b h = not-false _ (below_none (λ j. not (is_intact (j + 1) (block_at s j))) (length s / block_bytes) e b h)

  one_broken : (b : ℕ) → b < length s / block_bytes → not (is_intact (b + 1) (block_at s b)) ≡ true → is_damaged s ≡ true
  unfolding is_damaged
  one_broken b h e = some_below_lem (λ j. not (is_intact (j + 1) (block_at s j))) (length s / block_bytes) b h e

pub altered :
    (s t : List ℕ) (i : ℕ) → Bytes s → ((loaded_of s).number ≡ check_wrong → ⊥) → 4 * i / block_bytes < length s / block_bytes → Altered s t i
    → (loaded_of t).number ≡ check_wrong
altered s t i bytes sound within a =
    let b : ℕ = 4 * i / 512 in
    let k : ℕ = i - 128 * b in
    let p : ℕ = 512 * b in
    let place : p + 4 * k ≡ 4 * i = omega arith in
    let at : (x : List ℕ) (j : ℕ) → word_at x p j ≡ word x (128 * b + j) = λ x j. ap (number_at 4 x) (omega arith) in
    let here : (x : List ℕ) → word_at x p k ≡ word x i = λ x. ap (number_at 4 x) place in
    let others : (j : ℕ) → (j ≡ k → ⊥) → word_at t p j ≡ word_at s p j =
    λ j h. at t j ∙ a.others (128 * b + j) (λ e. h (omega arith)) ∙ sym (at s j) in
    let differs : word_at t p k ≡ word_at s p k → ⊥ = λ e. a.differs (sym (here t) ∙ e ∙ here s) in
    let intact = all_intact s (undamaged s sound) b within in
    damaged_number t (one_broken t b (rw a.same_length within) (is_broken s t b k (omega arith) bytes a.bytes others differs intact))
