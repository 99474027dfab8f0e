-- Laws of blocks: a block is filled and its check written, its check is right wherever it stands, and blocks one after the other.
use Prim.Native.Nat.{ℕ, zero, suc, ◌+◌, ◌-◌, ◌*◌, ◌≤◌, ◌<◌}
use native.Mathlib.Nat.{add-zero}
use native.Mathlib.Numerals.{add-one}
use native.Mathlib.Omega.{arith}
use mathlib.Core.Path.{◌≡◌, refl, sym, ap, ◌∙◌}
use mathlib.Core.Bool.{true}
use mathlib.Core.List.{List, [], ◌∷◌, ◌++◌, append-nil, append_assoc}
use borrow.Rule.Slice.PartMut.{put_mid}
use lib.ListN.{length, get_or, take, drop, replicate, length-append, length-drop, get_or-append, drop_of_length-le}
use lib.Seq.{sets, sets-eq, length-sets, length-take-le, take-suc, take_at, drop-drop}
use borrow.Author.Tests.{eq-eqb}
use Rattle.octets.specs.Octets.{bytes_of}
use Rattle.octets.proofs.Laws.{length_bytes, then_sets}
use Rattle.arrays.proofs.Fill.{length_pad}
use Rattle.store.specs.Blocks.{block_bytes, content_bytes, check_at, is_intact}
use Rattle.store.specs.Stored.{filled, sealed, sealed_from}
use Rattle.store.specs.Loaded.{is_blank}
use Rattle.store.proofs.Lists.{pad_is}
use Rattle.store.proofs.Sets.{stands, part_put}
use Rattle.store.proofs.Checks.{check_fits, check_moved}
use Rattle.store.proofs.Stands.{At, at_start, at_left, at_right, at_number, at_blank}

pub length_filled : (content : List ℕ) → length (filled content) ≡ content_bytes
length_filled content = length_pad 0 content_bytes content

pub length_sealed : (number : ℕ) (content : List ℕ) → length (sealed number content) ≡ block_bytes
unfolding sealed
length_sealed number content =
    length-append (filled content) (bytes_of 4 (check_at (filled content) 0 number))
    ∙ rw (length_filled content, length_bytes 4 (check_at (filled content) 0 number))

pub length_blocks : (number : ℕ) (contents : List (List ℕ)) → length (sealed_from number contents) ≡ block_bytes * length contents
length_blocks number [] = refl
length_blocks number (content ∷ contents) =
    length-append (sealed number content) (sealed_from (number + 1) contents)
    ∙ omega (arith, length_sealed number content, length_blocks (number + 1) contents)

-- ---- a block is filled after its content, and its check written

module _ (block : List ℕ) (used number : ℕ) (h : length block ≡ 512) (u : used ≤ 508) where
  abbrev content : List ℕ
  content = take used block

  long : length content ≡ used
  long = length-take-le used block (omega arith)

  filled_stored : put_mid used (508 - used) block (replicate (508 - used) 0) ≡ filled content ++ drop 508 block
  filled_stored =
      let e : used + (508 - used) ≡ 508 = omega arith in
      rw (drop-drop (508 - used) used block, e, pad_is 0 508 content (omega (arith, long)), long, append_assoc content (replicate (508 - used) 0) (drop 508 block))

  check_there : check_at (filled content ++ drop 508 block) 0 number ≡ check_at (filled content) 0 number
  check_there =
      check_moved (filled content ++ drop 508 block) (filled content) 0 0 number
      (λ k g. get_or-append (filled content) (drop 508 block) 0 (0 + k) (omega (arith, length_filled content)))

  pub sealed_stored :
      (zeros : List ℕ) → zeros ≡ replicate (508 - used) 0
      → (check : ℕ) → check ≡ check_at (put_mid used (508 - used) block zeros) 0 number
      → sets (put_mid used (508 - used) block zeros) 508 (bytes_of 4 check) ≡ sealed number content
  unfolding sealed
  sealed_stored zeros z check e =
      let there : put_mid used (508 - used) block zeros ≡ filled content ++ drop 508 block = ap (put_mid used (508 - used) block) z ∙ filled_stored in
      let c : check ≡ check_at (filled content) 0 number = e ∙ ap (λ (l : List ℕ). check_at l 0 number) there ∙ check_there in
      let last : length (drop 508 block) ≡ 4 = omega (arith, length-drop 508 block) in
      let room : 508 + length (bytes_of 4 check) ≤ length (filled content ++ drop 508 block) =
      omega (arith, length-append (filled content) (drop 508 block), length_filled content, length_bytes 4 check) in
      let over : drop (508 + 4) (filled content ++ drop 508 block) ≡ [] =
      drop_of_length-le (filled content ++ drop 508 block) {i = 508 + 4} (omega (arith, length-append (filled content) (drop 508 block), length_filled content)) in
      ap (λ (l : List ℕ). sets l 508 (bytes_of 4 check)) there
      ∙ rw (sets-eq (bytes_of 4 check) (filled content ++ drop 508 block) 508 room, length_bytes 4 check, take_at (filled content) (drop 508 block) 508 (length_filled content), over, append-nil (filled content ++ bytes_of 4 check))
      (ap (λ (n : ℕ). filled content ++ bytes_of 4 n) c)

-- ---- storing blocks one after the other

blocks_more : (number : ℕ) (l : List (List ℕ)) (x : List ℕ) → sealed_from number (l ++ x ∷ []) ≡ sealed_from number l ++ sealed (number + length l) x
blocks_more number [] x = append-nil (sealed number x) ∙ ap (λ (n : ℕ). sealed n x) (sym (add-zero number))
blocks_more number (y ∷ l) x =
    let e : number + 1 + length l ≡ number + suc (length l) = omega arith in
    ap (λ (r : List ℕ). sealed number y ++ r) (blocks_more (number + 1) l x ∙ ap (λ (n : ℕ). sealed_from (number + 1) l ++ sealed n x) e)
    ∙ sym (append_assoc (sealed number y) (sealed_from (number + 1) l) (sealed (number + suc (length l)) x))

-- the block after those that are stored: its content, and over it the block
module _ (before : List ℕ) (contents : List (List ℕ)) (b : ℕ) (h : b < length contents) where
  blocks_next : sealed_from 1 (take (b + 1) contents) ≡ sealed_from 1 (take b contents) ++ sealed (b + 1) (get_or contents b [])
  blocks_next =
      let n : 1 + length (take b contents) ≡ b + 1 = omega (arith, length-take-le b contents (omega arith)) in
      ap (λ (k : ℕ). sealed_from 1 (take k contents)) (add-one b) ∙ ap (sealed_from 1) (take-suc contents b [] h) ∙ blocks_more 1 (take b contents) (get_or contents b [])
      ∙ ap (λ (k : ℕ). sealed_from 1 (take b contents) ++ sealed k (get_or contents b [])) n

  pub block_stored :
      (used : ℕ) (out block : List ℕ) → 512 * b + 512 ≤ length before → out ≡ sets before 0 (sealed_from 1 (take b contents)) → length (get_or contents b []) ≡ used
      → used ≤ 508 → length block ≡ 512 → (n : ℕ) → n ≡ 512
      → put_mid (512 * b) n out (sealed (b + 1) (take used (sets block 0 (get_or contents b [])))) ≡ sets before 0 (sealed_from 1 (take (b + 1) contents))
  block_stored used out block room e n u w m q =
      let x : List ℕ = get_or contents b [] in
      let wide : length out ≡ length before = ap length e ∙ length-sets before 0 (sealed_from 1 (take b contents)) in
      let place : length (sealed_from 1 (take b contents)) ≡ 512 * b = length_blocks 1 (take b contents) ∙ ap (λ (k : ℕ). 512 * k) (length-take-le b contents (omega arith)) in
      let here : 512 * b ≡ 0 + 512 * b = omega arith in
      let there : take used (sets block 0 x) ≡ x = stands block 0 used x n (omega arith) in
      ap (λ (l : List ℕ). put_mid (512 * b) m out (sealed (b + 1) l)) there
      ∙ part_put out (512 * b) m (sealed (b + 1) x) (length_sealed (b + 1) x ∙ sym q) (omega arith)
      ∙ ap (λ (l : List ℕ). sets l (512 * b) (sealed (b + 1) x)) e
      ∙ ap (λ (k : ℕ). sets (sets before 0 (sealed_from 1 (take b contents))) k (sealed (b + 1) x)) here
      ∙ sym (ap (sets before 0) blocks_next ∙ then_sets before 0 (512 * b) (sealed_from 1 (take b contents)) (sealed (b + 1) x) place)

-- ---- a block that stands at a place

module _ (number : ℕ) (content : List ℕ) where
  -- its check is right
  intact : is_intact number (sealed number content) ≡ true
  unfolding sealed
  intact =
      let check : ℕ = check_at (filled content) 0 number in
      let last : At (sealed number content) 508 (bytes_of 4 check) = at_right (filled content) (bytes_of 4 check) 508 (length_filled content) (at_start (sealed number content) _ refl) in
      let front = check_moved (filled content ++ bytes_of 4 check) (filled content) 0 0 number (λ k h. get_or-append (filled content) (bytes_of 4 check) 0 (0 + k) (omega (arith, length_filled content))) in
      eq-eqb _ _ (at_number 4 check last (check_fits (filled content) 0 number) ∙ sym front)

  module _ {s : List ℕ} {p : ℕ} (a : At s p (sealed number content)) where
    pub block_intact : is_intact number (take block_bytes (drop p s)) ≡ true
    block_intact = rw (a.stands, take_at (sealed number content) a.rest block_bytes (length_sealed number content)) intact

    -- what it holds, and the fill after it
    module _ (h : length content ≤ content_bytes) where
      at_filled : At s p (content ++ replicate (content_bytes - length content) 0)
      unfolding sealed
      at_filled = rw (pad_is 0 content_bytes content h) at (at_left (filled content) (bytes_of 4 (check_at (filled content) 0 number)) a)

      pub at_content : At s p content
      at_content = at_left content (replicate (content_bytes - length content) 0) at_filled

      pub at_fill : is_blank s (p + length content) (p + content_bytes) ≡ true
      at_fill =
          at_blank (content_bytes - length content) (p + content_bytes)
          (at_right content (replicate (content_bytes - length content) 0) (length content) refl at_filled) (omega arith)

-- block k of those that stand there
pub at_sealed :
    {s : List ℕ} {p : ℕ} (number : ℕ) (contents : List (List ℕ)) (k : ℕ) → At s p (sealed_from number contents) → k < length contents
    → At s (p + block_bytes * k) (sealed (number + k) (get_or contents k []))
at_sealed number [] k a h = absurd (omega arith)
at_sealed {p} number (content ∷ contents) zero a h =
    let e : p + block_bytes * 0 ≡ p = omega arith in
    rw (e, add-zero number) (at_left (sealed number content) (sealed_from (number + 1) contents) a)
at_sealed {p} number (content ∷ contents) (suc k) a h =
    let e : p + block_bytes + block_bytes * k ≡ p + block_bytes * suc k = omega arith in
    let f : number + 1 + k ≡ number + suc k = omega arith in
    rw (e, f) at
    (at_sealed {p = p + block_bytes} (number + 1) contents k (at_right (sealed number content) (sealed_from (number + 1) contents) block_bytes (length_sealed number content) a) (omega arith))
