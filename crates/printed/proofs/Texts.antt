-- The laws of the text, each over the count: which digit stands where, how bytes are stored one after the other, and how long a text is.
use mathlib.Core.Path.{◌≡◌, refl, sym, ap, ◌∙◌}
use mathlib.Core.List.{List, [], ◌∷◌, ◌++◌}
use mathlib.Core.Bool.{Bool, true, false}
use Prim.Native.Nat.{ℕ, zero, suc, ◌+◌, ◌-◌, ◌/◌, ◌%◌, ◌^◌, ◌≤◌, ◌<◌}
use native.Mathlib.Nat.{zero-add, pow-succ', div-one, div-div-eq-div-mul, mod-mod}
use native.Mathlib.Numerals.{add-one}
use native.Mathlib.Omega.{arith}
use lib.IntN.{ℤ, pos, negsuc, nat_abs}
use lib.Pow.{pow-add}
use lib.ListN.{length, get_or, set, drop, length-append}
use lib.Seq.{sets, sets-eq}
use Rattle.octets.proofs.Laws.{sets_append}
use Rattle.shown.specs.Value.{negative}
use Rattle.printed.specs.Text.{point, digit, last_digits, places, part_of, text_of}
use Rattle.printed.specs.Steps.{low_digits, sign_bytes}
use Rattle.printed.proofs.Decimal.{digit_at}

-- ---- digits

-- the highest first: the first of them, and the others
pub first_digit : (count n : ℕ) → last_digits (suc count) n ≡ digit (n / 10 ^ count) ∷ last_digits count n
unfolding last_digits
first_digit zero n = ap (λ (m : ℕ). digit m ∷ []) (sym (div-one n))
first_digit (suc count) n = ap (λ (l : List ℕ). l ++ digit n ∷ []) (first_digit count (n / 10)) ∙ rw (div-div-eq-div-mul, pow-succ')

-- the byte that is written for a digit, from a list of digits that has the lowest first
pub byte_of_digit : (count n from i : ℕ) (digits : List ℕ) → digits ≡ low_digits count n → from + i < count → 48 + get_or digits (from + i) 0 % 10 ≡ digit (n / 10 ^ from / 10 ^ i)
byte_of_digit count n from i digits e h = rw (e, digit_at count n (from + i) h, mod-mod, pow-add, ← div-div-eq-div-mul)

pub length_digits : (count n : ℕ) → length (last_digits count n) ≡ count
unfolding last_digits
length_digits zero n = refl
length_digits (suc count) n = length-append (last_digits count (n / 10)) (digit n ∷ []) ∙ rw (length_digits count (n / 10), add-one)

-- with decimals a point and the digits, without them nothing
pub part_some : (decimals n : ℕ) → 0 < decimals → part_of decimals n ≡ point ∷ last_digits decimals n
part_some zero n h = absurd (omega arith)
part_some (suc decimals) n h = refl

pub part_none : (decimals n : ℕ) → decimals ≤ 0 → part_of decimals n ≡ []
part_none zero n h = refl
part_none (suc decimals) n h = absurd (omega arith)

-- ---- bytes that are stored

-- sign, digits and part from the start, each where the one before it ends
pub sets_text : (out sign part : List ℕ) (whole n : ℕ) → sets out 0 (sign ++ last_digits whole n ++ part)
    ≡ sets (sets (sets out 0 sign) (length sign) (last_digits whole n)) (length sign + whole) part
sets_text out sign part whole n =
    let front = sign ++ last_digits whole n in
    sets_append out 0 front part
    ∙ rw (sets_append out 0 sign (last_digits whole n), zero-add (length sign), zero-add (length front), length-append sign (last_digits whole n), length_digits whole n)

-- digits from place on, the highest first: k of them are stored, and one more
pub digits_step : (out : List ℕ) (place count k n : ℕ) → k < count → sets out (place + k) (last_digits (count - k) n)
    ≡ sets (set out (place + k) (digit (n / 10 ^ (count - 1 - k)))) (place + (k + 1)) (last_digits (count - (k + 1)) n)
digits_step out place count k n h =
    let e : count - k ≡ suc (count - 1 - k) = omega arith in
    let left : count - 1 - k ≡ count - (k + 1) = omega arith in
    let next : place + (k + 1) ≡ suc (place + k) = omega arith in
    rw (e, first_digit, next, left)

-- from the start: the text, and behind it what stood there
pub sets_front : (l text : List ℕ) → length text ≤ length l → sets l 0 text ≡ text ++ drop (length text) l
sets_front l text h =
    let e : 0 + length text ≡ length text = zero-add (length text) in
    sets-eq text l 0 (omega arith) ∙ ap (λ (k : ℕ). text ++ drop k l) e

-- ---- a text by its parts, and how long they are

pub sign_most : (below : Bool) → length (sign_bytes below) ≤ 1
sign_most true = omega arith
sign_most false = omega arith

pub length_part : (decimals n : ℕ) → length (part_of decimals n) ≡ length (part_of decimals 0)
length_part zero n = refl
length_part (suc decimals) n = omega (arith, length_digits (suc decimals) n, length_digits (suc decimals) 0)

pub part_most : (decimals n : ℕ) → length (part_of decimals n) ≤ decimals + 1
part_most zero n = omega arith
part_most (suc decimals) n = omega (arith, length_digits (suc decimals) n)

pub text_is : (decimals : ℕ) (n : ℤ) → text_of decimals n
    ≡ sign_bytes (negative n) ++ last_digits (places (nat_abs n / 10 ^ decimals)) (nat_abs n / 10 ^ decimals) ++ part_of decimals (nat_abs n)
unfolding text_of
text_is decimals (pos n) = refl
text_is decimals (negsuc n) = refl

pub length_text : (decimals : ℕ) (n : ℤ) → length (text_of decimals n) ≡ length (sign_bytes (negative n)) + places (nat_abs n / 10 ^ decimals) + length (part_of decimals 0)
length_text decimals n = ap length (text_is decimals n) ∙ simp (length-append, length_digits) (rw (length_part decimals (nat_abs n)))
