-- Where the f64 is exact, the number that is nearest to the product is within half a last digit of the f64: the two are one fraction.
use mathlib.Core.Path.{◌≡◌, sym, ap, ◌∙◌}
use Prim.Native.Nat.{ℕ, ◌*◌, ◌^◌, ◌≤◌, ◌<◌}
use native.Mathlib.Nat.{le_trans, le_of_eq, mul_comm, mul_assoc, mul_right_comm, mul-le-mul_right, le_of_mul-le-mul_right}
use lib.IntN.{ℤ, pos, ◌-ℤ◌, ◌*ℤ◌, nat_abs}
use lib.Ieee.{Float}
use lib.Ieee.Positive.{num, den, den_pos}
use Rattle.shown.specs.Value.{sum_of, numerator, IsProduct, shown_of}
use Rattle.shown.proofs.Answers.{only_exact}
use Rattle.printed.specs.Number.{Nearest}
use Rattle.printed.specs.Promises.{WithinHalf}
use Rattle.printed.proofs.Signs.{common, times_times}

-- x / c is sum * m / d: the distances from n, each times the other's divisor, are the same
one_distance : (n sum x : ℤ) (m t d c : ℕ) → x *ℤ pos d ≡ sum *ℤ pos (m * c) → nat_abs (n *ℤ pos c -ℤ x *ℤ pos t) * d ≡ nat_abs (n *ℤ pos d -ℤ sum *ℤ pos (m * t)) * c
one_distance n sum x m t d c e =
    sym (common n x c t d)
    ∙ ap (λ (y : ℤ). nat_abs (n *ℤ pos (c * d) -ℤ y)) moved
    ∙ ap (λ (k : ℕ). nat_abs (n *ℤ pos k -ℤ sum *ℤ pos (m * t * c))) (mul_comm c d)
    ∙ common n sum d (m * t) c
  where
    moved : x *ℤ pos (t * d) ≡ sum *ℤ pos (m * t * c)
    moved =
        ap (λ (k : ℕ). x *ℤ pos k) (mul_comm t d)
        ∙ sym (times_times x d t)
        ∙ ap (λ (y : ℤ). y *ℤ pos t) e
        ∙ times_times sum (m * c) t
        ∙ ap (λ (k : ℕ). sum *ℤ pos k) (mul_right_comm m c t)

half_of : (a b c d : ℕ) → 0 < d → a * d ≡ b * c → 2 * b ≤ d → 2 * a ≤ c
half_of a b c d D e h =
    le_of_mul-le-mul_right {k = d}
    (le_trans (le_of_eq (mul_assoc 2 a d ∙ ap (λ (k : ℕ). 2 * k) e ∙ sym (mul_assoc 2 b c))) (le_trans (mul-le-mul_right c h) (le_of_eq (mul_comm d c))))
    D

of_product : (n sum : ℤ) (scale x : Float) (decimals : ℕ) → IsProduct x sum scale → Nearest n sum scale decimals → WithinHalf n x decimals
of_product n sum scale x decimals p h =
    half_of _ _ (den x) (den scale) (den_pos scale) (one_distance n sum (numerator x) (num scale) (10 ^ decimals) (den scale) (den x) p.1) h.near

pub within_half :
    (value : ℕ) (offset : ℤ) (scale : Float) (decimals : ℕ) (n : ℤ) →
    (shown_of value offset scale).exact ≡ 1 →
    Nearest n (sum_of value offset) scale decimals →
    WithinHalf n (shown_of value offset scale).value decimals
within_half value offset scale decimals n h near =
    of_product n (sum_of value offset) scale (shown_of value offset scale).value decimals (only_exact value offset scale h) near
