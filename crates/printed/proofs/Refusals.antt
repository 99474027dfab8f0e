-- What a call gives back and leaves, by the bits of the scale, the decimals and the room.
use mathlib.Core.Path.{◌≡◌, refl}
use mathlib.Core.Logic.{◌⊎◌, inl, inr}
use Prim.Native.Nat.{ℕ, ◌≤◌, ◌<◌}
use mathlib.Core.Bool.{true, false, and-false}
use mathlib.Core.List.{List, ◌++◌}
use borrow.Author.Tests.{le-leb, lt-leb}
use denote.Floats.{passes}
use lib.IntN.{ℤ}
use lib.Dec.{leb}
use lib.ListN.{length, drop}
use lib.Ieee.{binary32, of_bits}
use lib.Ieee.Positive.{positive}
use Rattle.octets.specs.Pick.{pick}
use Rattle.shown.specs.Value.{sum_of}
use Rattle.shown.proofs.Bits.{positive_bits, at_zero}
use Rattle.printed.specs.Number.{Nearest}
use Rattle.printed.specs.Text.{text_of}
use Rattle.printed.specs.Printing.{printable, Prints}
use Rattle.printed.specs.declared.Printed.{Printed}
use Rattle.printed.proofs.Nearby.{one}

not_taken : (bits decimals : ℕ) → (bits ≡ 0) ⊎ ((0x7f7f_ffff < bits) ⊎ (7 < decimals)) → printable (of_bits binary32 bits) decimals ≡ false
not_taken bits decimals (inl z) = rw (z, at_zero)
not_taken bits decimals (inr (inl h)) = rw (positive_bits bits, lt-leb bits 0x7f7f_ffff h, and-false (leb 1 bits))
not_taken bits decimals (inr (inr h)) = rw (lt-leb decimals 7 h) (and-false (positive (of_bits binary32 bits)))

pub above_zero : (bits : ℕ) → 1 ≤ bits → bits ≤ 0x7f7f_ffff → positive (of_bits binary32 bits) ≡ true
above_zero bits l h = rw (positive_bits bits, le-leb 1 bits l, le-leb bits 0x7f7f_ffff h)

taken : (bits decimals : ℕ) → 1 ≤ bits → bits ≤ 0x7f7f_ffff → decimals ≤ 7 → printable (of_bits binary32 bits) decimals ≡ true
taken bits decimals l h d = rw (above_zero bits l h, le-leb decimals 7 d)

module _ {value : ℕ} {offset : ℤ} {bits decimals : ℕ} {lent left : List ℕ} {r : Printed} (p : Prints value offset (of_bits binary32 bits) decimals lent left r) where
  pub four : (bits ≡ 0) ⊎ ((0x7f7f_ffff < bits) ⊎ (7 < decimals)) → (r.number ≡ 4) × (r.length ≡ 0) × (left ≡ lent)
  unfolding pick
  four h = let e = not_taken bits decimals h in rw (p.answer, p.leaves, e) (refl, refl, refl)

  module _ (n : ℤ) (l : 1 ≤ bits) (h : bits ≤ 0x7f7f_ffff) (d : decimals ≤ 7) (near : Nearest n (sum_of value offset) (of_bits binary32 bits) decimals) where
    same : p.n ≡ n
    same = one p.n n (sum_of value offset) (of_bits binary32 bits) decimals (p.nearest (passes _ (taken bits decimals l h d))) near

    pub room : length lent < length (text_of decimals n) → (r.number ≡ 1) × (r.length ≡ 0) × (left ≡ lent)
    unfolding pick
    room k = rw (p.answer, p.leaves, same, taken bits decimals l h d, lt-leb (length (text_of decimals n)) (length lent) k) (refl, refl, refl)

    pub written : length (text_of decimals n) ≤ length lent
        → (r.number ≡ 0) × (r.length ≡ length (text_of decimals n)) × (left ≡ text_of decimals n ++ drop (length (text_of decimals n)) lent)
    unfolding pick
    written k = rw (p.answer, p.leaves, same, taken bits decimals l h d, le-leb (length (text_of decimals n)) (length lent) k) (refl, refl, refl)
