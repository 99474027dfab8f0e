-- What stands at a place of the bytes, from what is read there: one list after another, bytes, a number, zeros, items of one width, blocks.
use Prim.Native.Nat.{ℕ, zero, suc, ◌+◌, ◌-◌, ◌*◌, ◌≤◌, ◌<◌}
use native.Mathlib.Nat.{mul-zero, mul-suc, add-zero}
use native.Mathlib.Omega.{arith}
use mathlib.Core.Path.{◌≡◌, refl, sym, ap, ◌∙◌}
use mathlib.Core.Bool.{true}
use mathlib.Core.List.{List, [], ◌∷◌, ◌++◌, append_assoc}
use lib.Dec.{eqb}
use lib.ListN.{length, get_or, take, drop, replicate, length-take, length-drop, length-replicate, get_or-replicate, take-append-drop}
use lib.Seq.{ext_get_or, take_all, take-append_seam, drop-cons, get_or-take, get_or-drop}
use borrow.Author.Tests.{eqb-true}
use Rattle.octets.specs.{Octets.number_at, Octets.bytes_of, Label.bytes_at}
use Rattle.octets.proofs.{Laws.Bytes, Laws.past, Laws.bytes_of_number, Cells.length_cells, Cells.cell}
use Rattle.store.specs.Blocks.{block_bytes}
use Rattle.store.specs.Stored.{joined, groups, sealed, sealed_from}
use Rattle.store.specs.Loaded.{byte_at, is_blank}
use Rattle.store.proofs.Below.{range_below, below_every}
use Rattle.store.proofs.Lists.{every_take, every_drop}
use Rattle.store.proofs.Stands.{At}
use Rattle.store.proofs.Groups.{Wide, group_at}
use Rattle.store.proofs.Blocks.{length_sealed}

-- what stands at the start and is as long as the whole is the whole
pub is_whole : (s l : List ℕ) → At s 0 l → length s ≡ length l → l ≡ s
is_whole s l a e = sym (take-append_seam l a.rest) ∙ ap (take (length l)) (sym a.stands) ∙ take_all (length l) s (omega arith)

module _ {s : List ℕ} where
  none_there : (p : ℕ) → At s p []
  none_there p = record { rest = drop p s; stands = refl }

  -- one list, and another where it ends
  pub both_there : {p : ℕ} (a b : List ℕ) (n : ℕ) → length a ≡ n → At s p a → At s (p + n) b → At s p (a ++ b)
  both_there {p} a b n e x y =
      record {
        rest = y.rest;
        stands = x.stands ∙ ap (λ (l : List ℕ). a ++ l) (sym (past s p n a x.rest e x.stands) ∙ y.stands) ∙ sym (append_assoc a b y.rest);
      }

  -- the last two of three
  pub last_there : {p : ℕ} (a b c : List ℕ) (n : ℕ) → length a ≡ n → At s p a → At s (p + n) (b ++ c) → At s p (a ++ b ++ c)
  last_there a b c n e x y = rw (append_assoc a b c) (both_there a (b ++ c) n e x y)

-- ---- from what is read

module _ (s : List ℕ) where
  -- n bytes
  pub bytes_there : (p n : ℕ) → p + n ≤ length s → At s p (bytes_at s p n)
  bytes_there p zero h = none_there p
  bytes_there p (suc n) h =
      both_there (bytes_at s p n) (byte_at s (p + n) ∷ []) n (length_cells n _) (bytes_there p n (omega arith))
      (record { rest = drop (suc (p + n)) s; stands = drop-cons s (p + n) 0 (omega arith) })

  -- a number
  pub number_there : Bytes s → (w p : ℕ) → p + w ≤ length s → At s p (bytes_of w (number_at w s p))
  number_there B w p h = record { rest = drop w (drop p s); stands = rw (bytes_of_number w s p B h) (sym (take-append-drop w (drop p s))) }

  -- zeros, up to place j
  pub zeros_there : (p m j : ℕ) → p + m ≡ j → j ≤ length s → is_blank s p j ≡ true → At s p (replicate m 0)
  zeros_there p m j e h b =
      let d : j - p ≡ m = omega arith in
      let same : bytes_at s p m ≡ replicate m 0 =
      ext_get_or 0 (bytes_at s p m) (replicate m 0) (length_cells m _ ∙ sym (length-replicate {A = ℕ} m 0)) (λ k l.
      let g : k < m = rw (length_cells m _) at l in
      cell m _ k g ∙ eqb-true _ _ (below_every (λ i. eqb (byte_at s (p + i)) 0) (j - p) (sym (range_below (λ at. eqb (byte_at s at) 0) p (j - p)) ∙ b) k (omega arith)) ∙ sym (get_or-replicate m k 0 0 g)) in
      rw same at (bytes_there p m (omega arith))

-- ---- from what stands there, part by part

module _ {s : List ℕ} where
  -- items of width w, one after the other
  joined_there :
      (w : ℕ) (p : ℕ) (l : List (List ℕ)) → Wide w l → ((k : ℕ) → k < length l → At s (p + w * k) (get_or l k [])) → At s p (joined l)
  joined_there w p [] h f = none_there p
  joined_there w p (x ∷ l) h f =
      let start : p + w * 0 ≡ p = omega (arith, mul-zero w) in
      both_there x (joined l) w h.0 (rw start at (f 0 (omega arith)))
      (joined_there w (p + w) l h.1 (λ k b.
      let e : p + w * suc k ≡ p + w + w * k = omega (arith, mul-suc w k) in
      rw e at (f (suc k) (omega arith))))

  -- group j of n to a block
  pub group_there :
      (n w blocks p : ℕ) (l : List (List ℕ)) (j : ℕ) → Wide w l → j < blocks
      → ((r : ℕ) → r < n → n * j + r < length l → At s (p + w * r) (get_or l (n * j + r) []))
      → At s p (get_or (groups blocks n l) j [])
  group_there n w blocks p l j h b f =
      let part : List (List ℕ) = take n (drop (n * j) l) in
      rw (group_at n blocks l j b)
      (joined_there w p part (every_take _ n (drop (n * j) l) (every_drop _ (n * j) l h)) (λ r g.
      let m : (r < n) × (n * j + r < length l) = omega (arith, length-take n (drop (n * j) l), length-drop (n * j) l) in
      rw (get_or-take n (drop (n * j) l) r [] m.0, get_or-drop (n * j) l r []) (f r m.0 m.1)))

  -- blocks, one after the other
  pub blocks_there :
      (number p : ℕ) (contents : List (List ℕ))
      → ((k : ℕ) → k < length contents → At s (p + block_bytes * k) (sealed (number + k) (get_or contents k [])))
      → At s p (sealed_from number contents)
  blocks_there number p [] f = none_there p
  blocks_there number p (x ∷ l) f =
      let start : p + block_bytes * 0 ≡ p = omega arith in
      both_there (sealed number x) (sealed_from (number + 1) l) block_bytes (length_sealed number x) (rw (start, add-zero number) at (f 0 (omega arith)))
      (blocks_there (number + 1) (p + block_bytes) l (λ k b.
      let e : p + block_bytes * suc k ≡ p + block_bytes + block_bytes * k = omega arith in
      let g : number + suc k ≡ number + 1 + k = omega arith in
      rw (e, g) at (f (suc k) (omega arith))))
