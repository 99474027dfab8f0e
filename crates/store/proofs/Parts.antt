-- What the bytes from place p on say is what all bytes say at p: a byte, a number, a label, fill, a client record and a step. And a part that is written.
use Prim.Native.Nat.{ℕ, zero, suc, ◌+◌, ◌-◌}
use native.Mathlib.Omega.{arith}
use mathlib.Core.Path.{◌≡◌, refl, sym, ap, ◌∙◌}
use mathlib.Core.List.{List}
use lib.Dec.{eqb}
use lib.ListN.{drop}
use lib.Seq.{get_or-drop}
use Rattle.octets.specs.Octets.{number_at}
use Rattle.octets.specs.Label.{row_of, label_at}
use Rattle.pool.specs.StageTwo.{character_right}
use Rattle.store.specs.Below.{every_below}
use Rattle.store.specs.Loaded.{byte_at, is_blank, client_at, client_right, client_blank, step_at, step_blank}
use Rattle.store.proofs.Below.{every_same, range_below}
use Rattle.store.proofs.Checks.{number_moved}

same_row : (n : ℕ) (f g : ℕ → ℕ) → ((k : ℕ) → f k ≡ g k) → row_of n f ≡ row_of n g
same_row zero f g h = refl
same_row (suc n) f g h = rw (same_row n f g h, h n)

module _ (s : List ℕ) (p : ℕ) where
  pub byte_in : (i j : ℕ) → p + i ≡ j → byte_at (drop p s) i ≡ byte_at s j
  byte_in i j e = get_or-drop p s i 0 ∙ ap (λ (k : ℕ). byte_at s k) e

  number_in : (w i j : ℕ) → p + i ≡ j → number_at w (drop p s) i ≡ number_at w s j
  number_in w i j e = number_moved w (drop p s) s i j (λ k h. byte_in (i + k) (j + k) (omega arith))

  label_in : (i j n : ℕ) → p + i ≡ j → label_at (drop p s) i n ≡ label_at s j n
  unfolding label_at
  label_in i j n e = rw (same_row _ (λ k. byte_at (drop p s) (i + k)) (λ k. byte_at s (j + k)) (λ k. byte_in (i + k) (j + k) (omega arith)))

  blank_in : (i j a b : ℕ) → p + i ≡ a → p + j ≡ b → is_blank (drop p s) i j ≡ is_blank s a b
  blank_in i j a b e f =
      let same : j - i ≡ b - a = omega arith in
      range_below (λ at. eqb (byte_at (drop p s) at) 0) i (j - i)
      ∙ every_same (λ k. eqb (byte_at (drop p s) (i + k)) 0) (λ k. eqb (byte_at s (a + k)) 0) (j - i) (λ k h.
      ap (λ (x : ℕ). eqb x 0) (byte_in (i + k) (a + k) (omega arith)))
      ∙ ap (λ (n : ℕ). every_below n (λ k. eqb (byte_at s (a + k)) 0)) same
      ∙ sym (range_below (λ at. eqb (byte_at s at) 0) a (b - a))

  zero_in : p + 0 ≡ p
  zero_in = omega arith

  -- ---- a client record

  characters_in : (n : ℕ) → every_below n (λ k. character_right (byte_at (drop p s) (20 + k))) ≡ every_below n (λ k. character_right (byte_at s (p + 20 + k)))
  characters_in n =
      every_same (λ k. character_right (byte_at (drop p s) (20 + k))) (λ k. character_right (byte_at s (p + 20 + k))) n (λ k h.
      ap character_right (byte_in (20 + k) (p + 20 + k) (omega arith)))

  pub client_right_in : client_right (drop p s) 0 ≡ client_right s p
  unfolding client_right
  client_right_in =
      rw (byte_in 0 p zero_in, byte_in 1 (p + 1) refl, byte_in 2 (p + 2) refl, characters_in (byte_at s (p + 1)))

  pub client_blank_in : client_blank (drop p s) 0 ≡ client_blank s p
  unfolding client_blank
  client_blank_in =
      let v = byte_at s (p + 1) in
      let w = byte_at s (p + 2) in
      rw (
        byte_in 1 (p + 1) refl,
        byte_in 2 (p + 2) refl,
        byte_in 3 (p + 3) refl,
        blank_in (20 + v) 84 (p + 20 + v) (p + 84) (omega arith) refl,
        blank_in (84 + w) 148 (p + 84 + w) (p + 148) (omega arith) refl,
      )

  pub client_at_in : client_at (drop p s) 0 ≡ client_at s p
  unfolding client_at
  client_at_in =
      rw (
        byte_in 1 (p + 1) refl,
        byte_in 2 (p + 2) refl,
        number_in 8 4 (p + 4) refl,
        number_in 8 12 (p + 12) refl,
        label_in 20 (p + 20) (byte_at s (p + 1)) refl,
        label_in 84 (p + 84) (byte_at s (p + 2)) refl,
      )

  -- ---- a step

  pub step_at_in : step_at (drop p s) 0 ≡ step_at s p
  unfolding step_at
  step_at_in =
      rw (byte_in 0 p zero_in, byte_in 1 (p + 1) refl, byte_in 2 (p + 2) refl, byte_in 3 (p + 3) refl, number_in 4 8 (p + 8) refl, number_in 4 4 (p + 4) refl)

  pub step_blank_in : step_blank (drop p s) 0 ≡ step_blank s p
  step_blank_in = blank_in 12 16 (p + 12) (p + 16) refl refl
