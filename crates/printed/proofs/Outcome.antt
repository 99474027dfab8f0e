-- What printing comes to: a refusal that changes nothing, or the text of the number that was laid out.
use mathlib.Core.Path.{◌≡◌, refl, sym, ap, ◌∙◌}
use Prim.Native.Nat.{ℕ, ◌+◌, ◌-◌, ◌/◌, ◌^◌, ◌≤◌, ◌<◌}
use native.Mathlib.Omega.{arith}
use mathlib.Core.Bool.{Bool, true, false}
use mathlib.Core.List.{List, ◌++◌}
use borrow.Author.Tests.{le-leb, lt-leb}
use lib.IntN.{ℤ, pos, nat_abs}
use lib.Dec.{T}
use lib.ListN.{length}
use lib.Seq.{sets}
use lib.Ieee.{Float}
use lib.Ieee.Positive.{positive}
use Rattle.octets.specs.Numbers.{completed, too_short, wrong_value}
use Rattle.octets.specs.Pick.{pick}
use Rattle.shown.specs.Value.{sum_of}
use Rattle.printed.specs.Text.{places, last_digits, part_of, text_of}
use Rattle.printed.specs.Printing.{printable, answer_of, left_of, Prints}
use Rattle.printed.specs.Steps.{low_digits, number_in, sign_bytes}
use Rattle.printed.specs.LaidOut.{LaidOut}
use Rattle.printed.specs.declared.Printed.{Printed}
use Rattle.printed.specs.declared.text.Laid.{Laid}
use Rattle.printed.proofs.Nearby.{one}
use Rattle.printed.proofs.Decimal.{number_of_low, places_least, drop_below}
use Rattle.printed.proofs.Texts.{text_is, length_text, sets_front}

-- the digits of a number that has at most 56 make it again
pub number_back : (n : ℕ) (digits : List ℕ) → digits ≡ low_digits 56 n → n < 10 ^ 56 → (number_in digits ≡ n) × (digits ≡ low_digits 56 (number_in digits))
number_back n digits e h =
    let b : number_in digits ≡ n = ap number_in e ∙ number_of_low 56 n h in
    (b, e ∙ ap (low_digits 56) (sym b))

-- the digits before the point and behind it are at most 56
pub room : (n before decimals : ℕ) → n < 10 ^ 56 → before ≡ places (n / 10 ^ decimals) → decimals ≤ 7 → before + decimals ≤ 56
room n before decimals fits e d =
    let split : 56 ≡ 56 - decimals + decimals = omega arith in
    let h : n < 10 ^ (56 - decimals + decimals) = rw (← split) fits in
    omega (arith, e, places_least (n / 10 ^ decimals) (56 - decimals) (drop_below n (56 - decimals) decimals h) (omega arith))

-- ---- one outcome: where nothing is printed the number makes no difference
by_text : (t : Bool) (text text' lent : List ℕ) → (T t → text ≡ text') → (answer_of t text (length lent) ≡ answer_of t text' (length lent)) × (left_of t text lent ≡ left_of t text' lent)
unfolding pick
by_text true text text' lent e = rw (e tt) (refl, refl)
by_text false text text' lent e = (refl, refl)

pub settled :
    (value : ℕ) (offset : ℤ) (scale : Float) (decimals : ℕ) (lent left left' : List ℕ) (r r' : Printed) →
    Prints value offset scale decimals lent left r →
    Prints value offset scale decimals lent left' r' →
    (r ≡ r') × (left ≡ left')
settled value offset scale decimals lent left left' r r' p q =
    let same : T (printable scale decimals) → text_of decimals p.n ≡ text_of decimals q.n = λ t. ap (text_of decimals) (one p.n q.n (sum_of value offset) scale decimals (p.nearest t) (q.nearest t)) in
    let e = by_text (printable scale decimals) (text_of decimals p.n) (text_of decimals q.n) lent same in
    (p.answer ∙ e.0 ∙ sym q.answer, p.leaves ∙ e.1 ∙ sym q.leaves)

-- ---- where the scale or the decimals are refused
pub bad_scale : (x : Float) (decimals : ℕ) → positive x ≡ false → printable x decimals ≡ false
bad_scale x decimals e = rw e

pub not_printable : (value : ℕ) (offset : ℤ) (scale : Float) (decimals : ℕ) (lent : List ℕ) (r : Printed) → printable scale decimals ≡ false → r ≡ record { number = wrong_value; length = 0 } → Prints value offset scale decimals lent lent r
unfolding pick
not_printable value offset scale decimals lent r e q =
    record { n = pos 0; nearest = λ t. absurd (rw e at t); answer = rw e q; leaves = rw e }

-- ---- of what was laid out
module _ {value : ℕ} {offset : ℤ} {scale : Float} {decimals : ℕ} {x : Laid} (l : LaidOut value offset scale decimals x) (d : decimals ≤ 7) where
  abbrev back : (number_in x.digits ≡ nat_abs l.n) × (x.digits ≡ low_digits 56 (number_in x.digits))
  back = number_back (nat_abs l.n) x.digits l.digits l.fits

  its_text : sign_bytes x.below ++ last_digits x.places (number_in x.digits / 10 ^ x.decimals) ++ part_of x.decimals (number_in x.digits) ≡ text_of decimals l.n
  its_text = rw (l.same, l.below, l.before_point, back.0) (sym (text_is decimals l.n))

  its_length : length (sign_bytes x.below) + x.places + length (part_of x.decimals 0) ≡ length (text_of decimals l.n)
  its_length = rw (l.same, l.below, l.before_point) (sym (length_text decimals l.n))

  module _ (p : printable scale decimals ≡ true) (lent : List ℕ) (count : ℕ) (c : count ≡ length (sign_bytes x.below) + x.places + length (part_of x.decimals 0)) where
    pub too_short_lem : (r : Printed) → length lent < count → r ≡ record { number = too_short; length = 0 } → Prints value offset scale decimals lent lent r
    unfolding pick
    too_short_lem r h q =
        let f = lt-leb (length (text_of decimals l.n)) (length lent) (omega (arith, its_length)) in
        record { n = l.n; nearest = λ t. l.nearest; answer = rw (p, f) q; leaves = rw (p, f) }

    pub written : (left : List ℕ) → count ≤ length lent
        → left ≡ sets lent 0 (sign_bytes x.below ++ last_digits x.places (number_in x.digits / 10 ^ x.decimals) ++ part_of x.decimals (number_in x.digits))
        → Prints value offset scale decimals lent left (record { number = completed; length = count })
    unfolding pick
    written left h q =
        let k : length (text_of decimals l.n) ≤ length lent = omega (arith, its_length) in
        let f = le-leb (length (text_of decimals l.n)) (length lent) k in
        record {
          n = l.n;
          nearest = λ t. l.nearest;
          answer = rw (p, f, c, its_length);
          leaves = rw (p, f) (q ∙ ap (sets lent 0) its_text ∙ sets_front lent (text_of decimals l.n) k);
        }
