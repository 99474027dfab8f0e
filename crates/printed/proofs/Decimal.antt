-- The laws of decimal digits, each over the count of them: how many there are, each of them, the number that they make, a number times another digit by
-- digit, and how many digits a number has.
use mathlib.Core.Path.{◌≡◌, refl, sym, ap, ◌∙◌}
use mathlib.Core.Bool.{Bool, true, false}
use mathlib.Core.List.{List, ◌++◌, append-nil}
use Prim.Native.Nat.{ℕ, zero, suc, ◌+◌, ◌-◌, ◌*◌, ◌/◌, ◌%◌, ◌^◌, ◌≤◌, ◌<◌}
use native.Mathlib.Nat.{zero-add, add-zero, mul-zero, mul_assoc, le_refl, lt_of_lt_of_le, zero-lt-suc, one-le-pow, pow-zero, pow-suc, pow-succ', pow-le-pow_right, mod-lt, mod-eq_of_lt, mod-one, div-one, div-div-eq-div-mul, div-add-mod, div-lt_iff_lt-mul, le-div_iff_mul-le, mul-add-mod_self_left, mul-le-mul}
use native.Mathlib.Numerals.{add-one}
use native.Mathlib.Omega.{arith}
use lib.Arith.{mod-mul}
use lib.Dec.{ltb}
use lib.ListN.{length, get_or, take, drop, set}
use lib.Pow.{pow-add}
use lib.Seq.{drop-cons, take-suc-set, append_snoc, take_all}
use borrow.Author.Tests.{ltb-true, ltb-false, lt-ltb, le-ltb}
use Rattle.printed.specs.Text.{places, places_from}
use Rattle.printed.specs.Steps.{low_digits, number_in}

pub tens_pos : (c : ℕ) → 0 < 10 ^ c
tens_pos c = one-le-pow c 10 (zero-lt-suc 9)

-- ---- the digits of a number, so many of them

-- digit i is the last of what is left of the number without i digits
pub digit_at : (c n i : ℕ) → i < c → get_or (low_digits c n) i 0 ≡ n / 10 ^ i % 10
unfolding low_digits
digit_at zero n i h = omega arith
digit_at (suc c) n zero h = rw (pow-zero, div-one)
digit_at (suc c) n (suc i) h = digit_at c (n / 10) i (omega arith) ∙ rw (div-div-eq-div-mul, pow-succ')

-- the last digit and the others of a number's last digits
module _ (c n : ℕ) where
  low_and_high : n % 10 ^ suc c ≡ n / 10 % 10 ^ c * 10 + n % 10
  low_and_high = rw (pow-suc) (mod-mul n (tens_pos c) (zero-lt-suc 9))

  last_of : n % 10 ^ suc c % 10 ≡ n % 10
  last_of = omega (arith, low_and_high)

  others_of : n % 10 ^ suc c / 10 ≡ n / 10 % 10 ^ c
  others_of = omega (arith, low_and_high)

-- what the digits make is the number, but for what goes beyond them
pub number_low : (c n : ℕ) → number_in (low_digits c n) ≡ n % 10 ^ c
unfolding low_digits number_in
number_low zero n = sym (mod-one n)
number_low (suc c) n = omega (arith, number_low c (n / 10), low_and_high c n)

pub number_of_low : (c n : ℕ) → n < 10 ^ c → number_in (low_digits c n) ≡ n
number_of_low c n h = number_low c n ∙ mod-eq_of_lt h

-- a list that is the digits of its number makes a number of so many digits
pub number_below : (c : ℕ) (ds : List ℕ) → ds ≡ low_digits c (number_in ds) → number_in ds < 10 ^ c
number_below c ds e =
    let f : number_in ds ≡ number_in ds % 10 ^ c = ap number_in e ∙ number_low c (number_in ds) in
    rw f (mod-lt (number_in ds) (tens_pos c))

-- and each of them is a digit of it
pub digit_of : (c : ℕ) (ds : List ℕ) → ds ≡ low_digits c (number_in ds) → (i : ℕ) → i < c → get_or ds i 0 ≡ number_in ds / 10 ^ i % 10
digit_of c ds e i h = ap (λ (l : List ℕ). get_or l i 0) e ∙ digit_at c (number_in ds) i h

-- what goes beyond them does not count
low_mod : (c n : ℕ) → low_digits c (n % 10 ^ c) ≡ low_digits c n
unfolding low_digits
low_mod zero n = refl
low_mod (suc c) n = rw (last_of c n, others_of c n, low_mod c (n / 10))

-- numbers that differ only beyond them have the same
pub low_again : (c n m p : ℕ) → low_digits c (number_in (low_digits c n) * m + p) ≡ low_digits c (n * m + p)
low_again c n m p =
    let t : ℕ = 10 ^ c in
    let whole : n * m + p ≡ t * (n / t * m) + (n % t * m + p) = split t (n / t) (n % t) n m p (div-add-mod n t) in
    let same : (n * m + p) % t ≡ (n % t * m + p) % t = rw whole (mul-add-mod_self_left t (n / t * m) (n % t * m + p)) in
    rw (number_low c n, ← low_mod c (n % t * m + p), ← same, low_mod c (n * m + p))
  where
    split : (t q r n m p : ℕ) → t * q + r ≡ n → n * m + p ≡ t * (q * m) + (r * m + p)
    split t q r n m p e = rw (← e) (omega arith)

-- so a product may be made in steps
pub low_product : (c z n t m p : ℕ) → low_digits c (number_in (low_digits c (number_in (low_digits c (z * 0 + n)) * t)) * m + p) ≡ low_digits c (n * t * m + p)
low_product c z n t m p =
    let e : z * 0 + n ≡ n = rw (mul-zero, zero-add) in
    rw (e, low_again c (number_in (low_digits c n) * t) m p, mul_assoc (number_in (low_digits c n)) t m, low_again c n (t * m) p, mul_assoc n t m)

pub low_doubled : (c n a b : ℕ) → low_digits c (number_in (low_digits c (n * 2 ^ a + 0)) * 2 ^ b) ≡ low_digits c (n * 2 ^ (a + b))
low_doubled c n a b = rw (pow-add, ← mul_assoc) (simp add-zero (simp add-zero at (low_again c (n * 2 ^ a) (2 ^ b) 0)))

-- ---- a number times m and c more, digit by digit: d is the last digit and v makes the others
module _ (d v m c : ℕ) where
  here : ((d + 10 * v) * m + c) % 10 ≡ (d * m + c) % 10
  here = omega arith

  left : ((d + 10 * v) * m + c) / 10 ≡ v * m + (d * m + c) / 10
  left = omega arith

-- what is done and what is left of n digits, when k of them are in r and c is carried
pub scaled_step :
    (n k : ℕ) (ds r : List ℕ) (m c : ℕ) →
    k < n →
    k < length ds →
    k < length r →
    take k r ++ low_digits (n - k) (number_in (drop k ds) * m + c)
    ≡ take (k + 1) (set r k ((get_or ds k 0 * m + c) % 10)) ++ low_digits (n - (k + 1)) (number_in (drop (k + 1) ds) * m + (get_or ds k 0 * m + c) / 10)
unfolding low_digits number_in
scaled_step n k ds r m c h hd hr =
    let d : ℕ = get_or ds k 0 in
    let v : ℕ = number_in (drop (suc k) ds) in
    let e : n - k ≡ suc (n - (k + 1)) = omega arith in
    rw (e, drop-cons ds k 0 hd, here d v m c, left d v m c, add-one, take-suc-set r k ((d * m + c) % 10) hr, append_snoc)

pub scaled_end : (n k : ℕ) (ds r : List ℕ) (m c : ℕ) → n ≤ k → length r ≤ k → take k r ++ low_digits (n - k) (number_in (drop k ds) * m + c) ≡ r
unfolding low_digits
scaled_end n k ds r m c h hr =
    let e : n - k ≡ 0 = omega arith in
    rw (e, take_all k r hr, append-nil)

-- what is carried stays small, for a digit that is a byte
pub carry_below : (d m c : ℕ) → d < 256 → m ≤ 2 ^ 26 → c < 2 ^ 57 → (d * m + c < 2 ^ 58) × ((d * m + c) / 10 < 2 ^ 57)
carry_below d m c hd hm hc =
    let l : d ≤ 255 = omega arith in
    omega (arith, mul-le-mul l hm)

-- ---- how many digits a number has

abbrev counted : ℕ → ℕ → ℕ
counted f n = places_from f (ltb n 10) n

few_from : (f n : ℕ) → n < 10 → counted f n ≡ 1
few_from zero n h = refl
few_from (suc f) n h = rw (lt-ltb n 10 h)

more_from : (f n : ℕ) → 10 ≤ n → counted (suc f) n ≡ suc (counted f (n / 10))
more_from f n h = rw (le-ltb n 10 h)

-- the counting comes to its end wherever it may take as many turns as the number says
enough : (f g n : ℕ) → n ≤ f → n ≤ g → counted f n ≡ counted g n
enough zero g n hf hg = sym (few_from g n (omega arith))
enough (suc f) zero n hf hg = few_from (suc f) n (omega arith)
enough (suc f) (suc g) n hf hg = by (ltb n 10) refl (enough f g (n / 10))
  where
    by : (b : Bool) → ltb n 10 ≡ b → (n / 10 ≤ f → n / 10 ≤ g → counted f (n / 10) ≡ counted g (n / 10)) → places_from (suc f) b n ≡ places_from (suc g) b n
    by true e earlier = refl
    by false e earlier = let l : 10 ≤ n = ltb-false n 10 e in ap suc (earlier (omega arith) (omega arith))

-- below ten there is one, and from ten on one more than without the last
pub places_few : (n : ℕ) → n < 10 → places n ≡ 1
unfolding places
places_few n h = few_from n n h

pub places_more : (n : ℕ) → 10 ≤ n → places n ≡ suc (places (n / 10))
unfolding places
places_more n h =
    enough n (suc (n - 1)) n (le_refl n) (omega arith)
    ∙ more_from (n - 1) n h
    ∙ ap suc (enough (n - 1) (n / 10) (n / 10) (omega arith) (le_refl (n / 10)))

-- so what holds of one digit, and of one digit more, holds of every number
pub by_tens : (P : ℕ → Type 0) → ((n : ℕ) → n < 10 → P n) → ((n : ℕ) → 10 ≤ n → P (n / 10) → P n) → (n : ℕ) → P n
by_tens P few more n = go n n (le_refl n)
  where
    go : (f m : ℕ) → m ≤ f → P m
    go zero m h = few m (omega arith)
    go (suc f) m h = by (ltb m 10) refl (go f (m / 10))
      where
        by : (b : Bool) → ltb m 10 ≡ b → (m / 10 ≤ f → P (m / 10)) → P m
        by true e earlier = few m (ltb-true m 10 e)
        by false e earlier = let l : 10 ≤ m = ltb-false m 10 e in more m l (earlier (omega arith))

pub places_pos : (n : ℕ) → 1 ≤ places n
places_pos = by_tens (λ n. 1 ≤ places n) (λ n h. omega (arith, places_few n h)) (λ n h earlier. omega (arith, places_more n h))

-- a number is below ten to the count of its digits, and that count is the least
pub places_below : (n : ℕ) → n < 10 ^ places n
places_below = by_tens (λ n. n < 10 ^ places n) (λ n h. rw (places_few n h) h) (λ n h earlier. rw (places_more n h, pow-suc) (omega (arith, earlier)))

pub places_least : (n c : ℕ) → n < 10 ^ c → 1 ≤ c → places n ≤ c
places_least = by_tens Least (λ n h c l o. omega (arith, places_few n h)) more
  where
    Least : ℕ → Type 0
    Least n = (c : ℕ) → n < 10 ^ c → 1 ≤ c → places n ≤ c

    more : (n : ℕ) → 10 ≤ n → Least (n / 10) → Least n
    more n h earlier zero l o = omega arith
    more n h earlier (suc zero) l o = omega arith
    more n h earlier (suc (suc c)) l o =
        let m : n / 10 < 10 ^ suc c = (div-lt_iff_lt-mul (zero-lt-suc 9)).1 (rw (pow-suc) at l) in
        omega (arith, places_more n h, earlier (suc c) m (omega arith))

-- so many as the powers of ten around it say
pub places_are : (n c : ℕ) → 10 ^ suc c ≤ n → n < 10 ^ suc (suc c) → places n ≡ suc (suc c)
places_are n c h l = go (ltb (suc c) (places n)) refl
  where
    go : (b : Bool) → ltb (suc c) (places n) ≡ b → places n ≡ suc (suc c)
    go true e =
        let most : suc c < places n = ltb-true (suc c) (places n) e in
        let least : places n ≤ suc (suc c) = places_least n (suc (suc c)) l (omega arith) in
        omega arith
    go false e =
        let few : 10 ^ places n ≤ 10 ^ suc c = pow-le-pow_right (zero-lt-suc 9) (ltb-false (suc c) (places n) e) in
        omega (arith, places_below n)

-- ---- a number without its last d digits

module _ (n c d : ℕ) where
  pub drop_below : n < 10 ^ (c + d) → n / 10 ^ d < 10 ^ c
  drop_below h = (div-lt_iff_lt-mul (tens_pos d)).1 (rw (pow-add) at h)

  pub drop_least : 10 ^ (c + d) ≤ n → 10 ^ c ≤ n / 10 ^ d
  drop_least h = (le-div_iff_mul-le (tens_pos d)).1 (rw (pow-add) at h)

-- the highest digit of a number of at most top digits: where it is 0 the number has one less, else no less
pub highest_zero : (n top : ℕ) → 1 ≤ top → n < 10 ^ top → n / 10 ^ (top - 1) % 10 ≡ 0 → n < 10 ^ (top - 1)
highest_zero n top o h e =
    let one : top ≡ suc (top - 1) = omega arith in
    let t : ℕ = 10 ^ (top - 1) in
    let few : n / t < 10 = (div-lt_iff_lt-mul (tens_pos (top - 1))).1 (rw (← pow-succ' 10 (top - 1), ← one) h) in
    let none : n / t < 1 = omega arith in
    omega (arith, (div-lt_iff_lt-mul (tens_pos (top - 1))).0 none)

-- so it has no more digits than those above which all are 0
below_zeros : (n m d : ℕ) → n < 10 ^ (m + d) → ((k : ℕ) → m ≤ k → k < m + d → n / 10 ^ k % 10 ≡ 0) → n < 10 ^ m
below_zeros n m zero h z = rw add-zero at h
below_zeros n m (suc d) h z =
    let e : m + suc d - 1 ≡ m + d = omega arith in
    below_zeros n m d (rw e at (highest_zero n (m + suc d) (omega arith) h (rw e (z (m + d) (omega arith) (omega arith))))) (λ k a b. z k a (omega arith))

pub below_digits : (digits : List ℕ) (m : ℕ) → digits ≡ low_digits 56 (number_in digits) → m ≤ 56 → ((k : ℕ) → m ≤ k → k < 56 → get_or digits k 0 ≡ 0) → number_in digits < 10 ^ m
below_digits digits m are h z =
    let n : ℕ = number_in digits in
    let e : m + (56 - m) ≡ 56 = omega arith in
    below_zeros n m (56 - m) (rw e (number_below 56 digits are)) (λ k a b. sym (digit_of 56 digits are k (omega arith)) ∙ z k a (omega arith))

pub highest_digit : (n top : ℕ) → (n / 10 ^ top % 10 ≡ 0 → ⊥) → 10 ^ top ≤ n
highest_digit n top e =
    let some : 1 ≤ n / 10 ^ top = omega arith in
    omega (arith, (le-div_iff_mul-le (tens_pos top)).0 some)

-- so many digits stand before the point: one, or all but the last d
pub one_place : (n d top : ℕ) → top ≤ d + 1 → n < 10 ^ top → places (n / 10 ^ d) ≡ 1
one_place n d top l h =
    let m : top ≤ 1 + d = omega arith in
    places_few (n / 10 ^ d) (drop_below n 1 d (lt_of_lt_of_le h (pow-le-pow_right (zero-lt-suc 9) m)))

pub places_from_top : (n d top : ℕ) → d + 1 < top → 10 ^ (top - 1) ≤ n → n < 10 ^ top → places (n / 10 ^ d) ≡ top - d
places_from_top n d top l h b =
    let c : ℕ = top - d - 2 in
    let least : top - 1 ≡ suc c + d = omega arith in
    let below : top ≡ suc (suc c) + d = omega arith in
    let count : top - d ≡ suc (suc c) = omega arith in
    rw count (places_are (n / 10 ^ d) c (drop_least n (suc c) d (rw (← least) h)) (drop_below n (suc (suc c)) d (rw (← below) b)))
