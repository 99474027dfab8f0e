-- 01, "The shown value", of every value, every offset and the 32 bits of every scale. 1 to 7F7FFFFF are the bits of the f32s that are finite and above
-- zero. 02, request 13: "The leaf that gives the shown value now says also whether it is exact". The function `promises` of the crate ensures these statements.
use Rattle.std.specs.Prelude.{ℕ, ◌≤◌, ◌<◌, ◌≡◌, ℤ, pos, ◌+ℤ◌, nat_abs}
use Rattle.std.specs.Float.{binary32, binary64}
use Rattle.std.specs.Float.Ieee.{of_bits}
use Rattle.shown.specs.Value.{IsProduct, shown_of}
use Rattle.shown.specs.declared.Shown.{Shown}

abbrev shown_at : ℕ → ℤ → ℕ → Shown
shown_at value offset bits = shown_of value offset (of_bits binary32 bits)

pub record ShownValue : Type 0 where
  -- "Below 2^29 in magnitude of the sum it is exact."
  pub exact :
      (value : ℕ) (offset : ℤ) (bits : ℕ) →
      1 ≤ bits →
      bits ≤ 0x7F7F_FFFF →
      nat_abs (pos value +ℤ offset) < 536_870_912 →
      IsProduct (shown_at value offset bits).value (pos value +ℤ offset) (of_bits binary32 bits)
  pub says_exact : (value : ℕ) (offset : ℤ) (bits : ℕ) → 1 ≤ bits → bits ≤ 0x7F7F_FFFF → nat_abs (pos value +ℤ offset) < 536_870_912 → (shown_at value offset bits).exact ≡ 1
  -- of a scale finite and above zero, exact is 1 if and only if the f64 is the exact product; it is 0 or 1 always
  pub only : (value : ℕ) (offset : ℤ) (bits : ℕ) → (shown_at value offset bits).exact ≡ 1 → IsProduct (shown_at value offset bits).value (pos value +ℤ offset) (of_bits binary32 bits)
  pub every :
      (value : ℕ) (offset : ℤ) (bits : ℕ) →
      1 ≤ bits →
      bits ≤ 0x7F7F_FFFF →
      IsProduct (shown_at value offset bits).value (pos value +ℤ offset) (of_bits binary32 bits) →
      (shown_at value offset bits).exact ≡ 1
  pub either : (value : ℕ) (offset : ℤ) (bits : ℕ) → (shown_at value offset bits).exact ≤ 1
  -- a scale finite and above zero is never refused
  pub given : (value : ℕ) (offset : ℤ) (bits : ℕ) → 1 ≤ bits → bits ≤ 0x7F7F_FFFF → (shown_at value offset bits).number ≡ 0
  -- "A scale not finite and above zero, as style 00 has it, gives 4 and value 0."
  pub zero : (value : ℕ) (offset : ℤ) → shown_at value offset 0 ≡ record { number = 4; exact = 0; value = of_bits binary64 0 }
  pub above : (value : ℕ) (offset : ℤ) (bits : ℕ) → 0x7F7F_FFFF < bits → shown_at value offset bits ≡ record { number = 4; exact = 0; value = of_bits binary64 0 }
