-- Where each thing stands in the blocks of c client records and n steps, of this edition.
use Prim.Native.Nat.{ℕ, zero, suc, ◌+◌, ◌-◌, ◌*◌, ◌/◌, ◌%◌, ◌≤◌, ◌<◌}
use native.Mathlib.Decide.{dec_le}
use native.Mathlib.Nat.{lt_of_not-le, min_comm}
use native.Mathlib.Omega.{arith}
use mathlib.Core.Path.{◌≡◌, refl, sym, ap, ◌∙◌}
use mathlib.Core.Bool.{true, false, not}
use mathlib.Core.List.{List, []}
use lib.ListN.{length, get_or}
use Rattle.store.specs.Blocks.{block_bytes, content_bytes, is_damaged, client_blocks, step_blocks, blocks_for, used_bytes, client_place, step_place}
use Rattle.store.specs.Stored.{head_of, groups, sealed, sealed_from}
use Rattle.store.specs.Loaded.{rest_blank}
use Rattle.store.proofs.Below.{none_below}
use Rattle.store.proofs.Stands.{At, at_start}
use Rattle.store.proofs.Groups.{Wide, at_group, length_group}
use Rattle.store.proofs.Items.{head_length}
use Rattle.store.proofs.Blocks.{length_blocks, block_intact, at_content, at_fill, at_sealed}
use Rattle.store.proofs.Contents.{used_fits, used_head, used_clients, used_steps, contents, length_contents, client_content, step_content}

-- k things of w bytes each
pub record Things (w k : ℕ) (l : List (List ℕ)) : Type 0 where
  pub count : length l ≡ k
  pub wide : Wide w l

-- s is the blocks of the client records cs and the steps ns
pub record Written (s : List ℕ) (c n edition : ℕ) (cs ns : List (List ℕ)) : Type 0 where
  pub clients : Things 148 c cs
  pub steps : Things 16 n ns
  pub bytes : s ≡ sealed_from 1 (contents c n edition cs ns)

module _ {s : List ℕ} {c n edition : ℕ} {cs ns : List (List ℕ)} (W : Written s c n edition cs ns) where
  -- ---- how much of each block is used

  pub length_content : (b : ℕ) → b < blocks_for c n → length (get_or (contents c n edition cs ns) b []) ≡ used_bytes c n b
  length_content zero h = head_length c n edition ∙ used_head c n 0 refl
  length_content (suc j) h =
      elim (dec_le (suc j) (client_blocks c)) [
        | yes y ↦
            ap length (client_content c n edition cs ns j (omega arith)) ∙ length_group 3 148 (client_blocks c) cs j W.clients.wide (omega arith)
            ∙ used_clients c n (suc j) _ (client_blocks c) (omega arith) refl y (omega (arith, W.clients.count))
        | no x ↦
            let i : ℕ = j - client_blocks c in
            let e : client_blocks c + i ≡ j = omega arith in
            let d : suc j - 1 - client_blocks c ≡ i = omega arith in
            ap (λ (k : ℕ). length (get_or (contents c n edition cs ns) (suc k) [])) (sym e) ∙ ap length (step_content c n edition cs ns i)
            ∙ length_group 31 16 (step_blocks n) ns i W.steps.wide (omega arith)
            ∙ used_steps c n (suc j) _ (client_blocks c) (omega arith) refl (lt_of_not-le x) (rw (W.steps.count, d) (min_comm 31 (n - 31 * i)))
      ]

  content_fits : (b : ℕ) → b < blocks_for c n → length (get_or (contents c n edition cs ns) b []) ≤ content_bytes
  content_fits b h = rw (length_content b h) (used_fits c n b)

  -- ---- where it stands

  block_stands : (b : ℕ) → b < blocks_for c n → At s (block_bytes * b) (sealed (b + 1) (get_or (contents c n edition cs ns) b []))
  block_stands b h =
      let from : 0 + block_bytes * b ≡ block_bytes * b = omega arith in
      let number : 1 + b ≡ b + 1 = omega arith in
      rw (from, number) at (at_sealed 1 (contents c n edition cs ns) b (at_start s (sealed_from 1 (contents c n edition cs ns)) W.bytes) (omega (arith, length_contents c n edition cs ns)))

  content_stands : (b : ℕ) (content : List ℕ) → b < blocks_for c n → get_or (contents c n edition cs ns) b [] ≡ content → At s (block_bytes * b) content
  content_stands b content h e = rw e at (at_content (b + 1) (get_or (contents c n edition cs ns) b []) (block_stands b h) (content_fits b h))

  pub head_stands : At s 0 (head_of c n edition)
  head_stands = content_stands 0 (head_of c n edition) (omega arith) refl

  pub client_stands : (k : ℕ) → k < c → At s (client_place k) (get_or cs k [])
  client_stands k h =
      let b : k / 3 < client_blocks c = omega arith in
      let place : block_bytes * suc (k / 3) + 148 * (k % 3) ≡ client_place k = omega arith in
      let number : 3 * (k / 3) + k % 3 ≡ k = omega arith in
      rw (place, number) at
      (at_group 3 148 (client_blocks c) cs (k / 3) W.clients.wide b (k % 3)
      (content_stands (suc (k / 3)) (get_or (groups (client_blocks c) 3 cs) (k / 3) []) (omega arith) (client_content c n edition cs ns (k / 3) b)) (omega arith) (omega arith))

  pub step_stands : (k : ℕ) → k < n → At s (step_place c k) (get_or ns k [])
  step_stands k h =
      let b : k / 31 < step_blocks n = omega arith in
      let i : ℕ = suc (client_blocks c + k / 31) in
      let place : block_bytes * i + 16 * (k % 31) ≡ step_place c k = omega arith in
      let number : 31 * (k / 31) + k % 31 ≡ k = omega arith in
      rw (place, number) at
      (at_group 31 16 (step_blocks n) ns (k / 31) W.steps.wide b (k % 31)
      (content_stands i (get_or (groups (step_blocks n) 31 ns) (k / 31) []) (omega arith) (step_content c n edition cs ns (k / 31))) (omega arith) (omega arith))

  pub rest_blank_lem : (b : ℕ) → b < blocks_for c n → rest_blank s c n b ≡ true
  rest_blank_lem b h = rw (length_content b h) at (at_fill (b + 1) (get_or (contents c n edition cs ns) b []) (block_stands b h) (content_fits b h))

  -- ---- all of them

  pub length_written : length s ≡ block_bytes * blocks_for c n
  length_written = ap length W.bytes ∙ length_blocks 1 (contents c n edition cs ns) ∙ rw (length_contents c n edition cs ns)

  pub undamaged : is_damaged s ≡ false
  unfolding is_damaged
  undamaged =
      none_below _ (length s / block_bytes) (λ b h.
      ap not (block_intact (b + 1) (get_or (contents c n edition cs ns) b []) (block_stands b (omega (arith, length_written)))))
