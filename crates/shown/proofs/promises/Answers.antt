-- `shown::promises` meets its contract: the two answers, by the bits of the scale.
use Prim.Native.Nat.{ℕ, ◌≤◌}
use mathlib.Core.Path.{◌≡◌, refl, sym, ◌∙◌}
use native.Mathlib.Omega.{arith}
use mathlib.Core.Bool.{Bool, true, false, cond, and-false}
use lib.IntN.{ℤ}
use lib.Dec.{leb}
use lib.Ieee.{Float, binary32, of_bits}
use lib.Ieee.Positive.{positive}
use borrow.Author.Tests.{le-leb, lt-leb}
use Rattle.shown.specs.Value.{sum_of, product_of, is_product, shown_of}
use Rattle.shown.proofs.Bits.{positive_bits, at_zero}
use Rattle.shown.proofs.Answers.{only_exact, every_exact, small_exact, refusal, refuses}
use Rattle.shown.proofs.promises.Goals as goal

taken : (bits : ℕ) → 1 ≤ bits → bits ≤ 0x7f7f_ffff → positive (of_bits binary32 bits) ≡ true
taken bits l h = positive_bits bits ∙ rw (le-leb 1 bits l, le-leb bits 0x7f7f_ffff h)

refused : (value : ℕ) (offset : ℤ) (bits : ℕ) → positive (of_bits binary32 bits) ≡ false → shown_of value offset (of_bits binary32 bits) ≡ refusal
refused value offset bits e = sym (refuses value offset (of_bits binary32 bits) e).0

bit : (b : Bool) → cond b 1 0 ≤ 1
bit true = omega arith
bit false = omega arith

either : (value : ℕ) (offset : ℤ) (x : Float) (p : Bool) → positive x ≡ p → (shown_of value offset x).exact ≤ 1
either value offset x true e = rw e (bit (is_product (product_of (sum_of value offset) x) (sum_of value offset) x))
either value offset x false e = rw e (omega arith)

pub returns : goal.returns
unfolding of_bits
returns c =
    record {
      exact = λ value offset bits l h. small_exact value offset bits (taken bits l h);
      says_exact = λ value offset bits l h s. let e = taken bits l h in every_exact value offset (of_bits binary32 bits) e (small_exact value offset bits e s);
      only = λ value offset bits. only_exact value offset (of_bits binary32 bits);
      every = λ value offset bits l h. every_exact value offset (of_bits binary32 bits) (taken bits l h);
      either = λ value offset bits. either value offset (of_bits binary32 bits) (positive (of_bits binary32 bits)) refl;
      given = λ value offset bits l h. rw (taken bits l h);
      zero = λ value offset. refused value offset 0 at_zero;
      above = λ value offset bits h. refused value offset bits (positive_bits bits ∙ rw (lt-leb bits 0x7f7f_ffff h) (and-false (leb 1 bits)));
    }
