-- The text read again: its digits make the number, and a minus sign stands first where the number is below zero.
use mathlib.Core.Path.{◌≡◌, refl, sym, ap, ◌∙◌}
use Prim.Native.Nat.{ℕ, zero, suc, ◌+◌, ◌-◌, ◌*◌, ◌/◌, ◌%◌, ◌^◌, ◌≤◌}
use native.Mathlib.Nat.{zero-lt-suc, mod-eq_of_lt, div-add-mod', pow-suc, suc_inj}
use native.Mathlib.Omega.{arith}
use mathlib.Core.Bool.{Bool, true, false, true≢false, cond, ◌||◌}
use mathlib.Core.List.{List, [], ◌∷◌, ◌++◌}
use borrow.Author.Tests.{leb-false, le-leb, ne_eqb}
use lib.IntN.{ℤ, pos, negsuc, nat_abs}
use lib.Arith.{mod-mul}
use lib.Dec.{T, leb}
use Rattle.shown.specs.Value.{negative}
use Rattle.printed.specs.Text.{digit, last_digits, places, whole_of, part_of, text_of}
use Rattle.printed.specs.Promises.{read_from, has_minus, not_zero}
use Rattle.printed.proofs.Decimal.{tens_pos, places_pos, places_below}
use Rattle.printed.proofs.Texts.{first_digit}

-- ---- the digits make the number
read_append : (m : ℕ) (a b : List ℕ) → read_from m (a ++ b) ≡ read_from (read_from m a) b
read_append m [] b = refl
read_append m (c ∷ a) b = read_append (cond (leb 48 c) (m * 10 + (c - 48)) m) a b

read_digit : (m n : ℕ) → read_from m (digit n ∷ []) ≡ m * 10 + n % 10
read_digit m n = rw (le-leb 48 (48 + n % 10) (omega arith)) (omega arith)

read_digits : (m count n : ℕ) → read_from m (last_digits count n) ≡ m * 10 ^ count + n % 10 ^ count
unfolding last_digits
read_digits m zero n = omega arith
read_digits m (suc count) n =
    read_append m (last_digits count (n / 10)) (digit n ∷ [])
    ∙ read_digit (read_from m (last_digits count (n / 10))) n
    ∙ rw (read_digits m count (n / 10), pow-suc 10 count, mod-mul n (tens_pos count) (zero-lt-suc 9)) (omega arith)

read_part : (w decimals n : ℕ) → w ≡ n / 10 ^ decimals → read_from w (part_of decimals n) ≡ n
read_part w zero n e = e ∙ omega arith
read_part w (suc decimals) n e = read_digits w (suc decimals) n ∙ rw e (div-add-mod' n (10 ^ suc decimals))

read_unsigned : (decimals n : ℕ) → read_from 0 (whole_of decimals n ++ part_of decimals n) ≡ n
read_unsigned decimals n =
    let w = n / 10 ^ decimals in
    read_append 0 (whole_of decimals n) (part_of decimals n)
    ∙ read_part (read_from 0 (whole_of decimals n)) decimals n (read_digits 0 (places w) w ∙ omega (arith, mod-eq_of_lt (places_below w)))

pub reads : (decimals : ℕ) (n : ℤ) → read_from 0 (text_of decimals n) ≡ nat_abs n
unfolding text_of
reads decimals (pos n) = read_unsigned decimals n
reads decimals (negsuc n) = read_unsigned decimals (suc n)

-- ---- the sign
digits_first : (count n : ℕ) (rest : List ℕ) → 1 ≤ count → has_minus (last_digits count n ++ rest) ≡ false
digits_first zero n rest h = absurd (omega arith)
digits_first (suc count) n rest h = rw (first_digit count n) (ne_eqb (digit (n / 10 ^ count)) 45 (omega arith))

sign_shown : (decimals : ℕ) (n : ℤ) → has_minus (text_of decimals n) ≡ negative n
unfolding text_of
sign_shown decimals (pos n) = let w = n / 10 ^ decimals in digits_first (places w) w (part_of decimals n) (places_pos w)
sign_shown decimals (negsuc n) = refl

-- by its sign and its size a number is known
by_sign : (n m : ℤ) → negative n ≡ negative m → nat_abs n ≡ nat_abs m → n ≡ m
by_sign (pos n) (pos m) s e = ap pos e
by_sign (pos n) (negsuc m) s e = absurd (true≢false (sym s))
by_sign (negsuc n) (pos m) s e = absurd (true≢false s)
by_sign (negsuc n) (negsuc m) s e = ap negsuc (suc_inj e)

pub tells : (decimals : ℕ) (n m : ℤ) → text_of decimals n ≡ text_of decimals m → n ≡ m
tells decimals n m e =
    by_sign n m (sym (sign_shown decimals n) ∙ ap has_minus e ∙ sign_shown decimals m) (sym (reads decimals n) ∙ ap (read_from 0) e ∙ reads decimals m)

-- ---- a text without a digit above zero reads as zero
zero_digit : (c : ℕ) → leb 49 c ≡ false → cond (leb 48 c) (0 * 10 + (c - 48)) 0 ≡ 0
zero_digit c h = go (leb 48 c)
  where
    go : (t : Bool) → cond t (0 * 10 + (c - 48)) 0 ≡ 0
    go true = omega (arith, leb-false 49 c h)
    go false = refl

zeros : (text : List ℕ) → not_zero text ≡ false → read_from 0 text ≡ 0
zeros [] e = refl
zeros (c ∷ text) e = go (leb 49 c) refl e (zeros text)
  where
    go : (t : Bool) → leb 49 c ≡ t → t || not_zero text ≡ false → (not_zero text ≡ false → read_from 0 text ≡ 0) → read_from 0 (c ∷ text) ≡ 0
    go true h e f = absurd (true≢false e)
    go false h e f = rw (zero_digit c h) (f e)

-- so where the number is below zero a digit is not zero
pub minus_sign : (decimals : ℕ) (n : ℤ) → T (has_minus (text_of decimals n)) → T (not_zero (text_of decimals n))
minus_sign decimals (pos n) t = absurd (rw (sign_shown decimals (pos n)) at t)
minus_sign decimals (negsuc n) t = go (not_zero (text_of decimals (negsuc n))) refl
  where
    go : (b : Bool) → not_zero (text_of decimals (negsuc n)) ≡ b → T b
    go true e = tt
    go false e = absurd (omega (arith, zeros (text_of decimals (negsuc n)) e, reads decimals (negsuc n)))
