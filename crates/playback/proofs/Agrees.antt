-- What it means that two NAMEs agree under a mask and in an edition, and that two labels agree.
use Prim.Native.Nat.{ℕ, zero, suc, ◌+◌, ◌*◌, ◌-◌, ◌/◌, ◌%◌, ◌^◌, ◌<◌, min}
use mathlib.Core.Path.{◌≡◌, refl, sym, ap, ◌∙◌}
use mathlib.Core.Bool.{Bool, true, false, not, ◌&&◌, ◌||◌, true≢false}
use mathlib.Core.List.{List}
use native.Mathlib.Omega.{arith}
use native.Mathlib.Nat.{pow-suc, div-one, mod-lt}
use borrow.Author.Tests.{eqb-true, eqb-false, eq-eqb}
use lib.Bits.{bit_and, and_step, and_shr, and_le_r, and_mask}
use lib.Dec.{eqb}
use lib.Pow.{pow_pos, shr-shr, field, mod-mod-pow}
use Rattle.std.proofs.lemmas.Slice.Eq.{bytes_eq-Decides}
use Rattle.octets.specs.Bits.{has_bit}
use Rattle.octets.specs.declared.label.Label.{Label}
use Rattle.octets.proofs.Tests.{pick_true, pick_false}
use Rattle.client.specs.declared.Client.{Client}
use Rattle.client.specs.declared.ClientRecord.{ClientRecord}
use Rattle.playback.specs.Verification.{agree_under, both_own, masters_agree, names_agree, identities_agree, rule_of, same_bytes, same_label}
use Rattle.playback.specs.Promises.{SameBits, BothOwn, SameNames, Agrees}

-- ---- bits

and_odd : (a b : ℕ) → bit_and a b % 2 ≡ min (a % 2) (b % 2)
and_odd a b = rw (and_step a b) (omega arith)

-- digit k of a bit_and
and_digit : (a b k : ℕ) → bit_and a b / 2 ^ k % 2 ≡ min (a / 2 ^ k % 2) (b / 2 ^ k % 2)
and_digit a b k = rw (and_shr a b k) (and_odd _ _)

-- numbers with the same digits are the same
digits : (n a b : ℕ) → a < 2 ^ n → b < 2 ^ n → ((k : ℕ) → k < n → a / 2 ^ k % 2 ≡ b / 2 ^ k % 2) → a ≡ b
digits zero a b h k e = omega arith
digits (suc n) a b h k e =
    let p : 2 ^ suc n ≡ 2 ^ n * 2 = pow-suc 2 n in
    let z : a % 2 ≡ b % 2 = simp div-one at (e 0 (omega arith)) in
    let r : a / 2 ≡ b / 2 = digits n (a / 2) (b / 2) (omega arith) (omega arith)
    (λ j l. rw (shr-shr a 1 j, shr-shr b 1 j) (e (1 + j) (omega arith))) in
    omega arith

same_digit : (x y : ℕ) → x < 2 → y < 2 → eqb x 1 ≡ eqb y 1 → x ≡ y
same_digit x y h k e = go (eqb y 1) refl
  where
    go : (t : Bool) → eqb y 1 ≡ t → x ≡ y
    go true f = let a = eqb-true x 1 (e ∙ f) in let b = eqb-true y 1 f in omega arith
    go false f = let a = eqb-false x 1 (e ∙ f) in let b = eqb-false y 1 f in omega arith

pub bits : (mask a b : ℕ) → agree_under mask a b ≡ true → SameBits mask a b
unfolding has_bit
bits mask a b e k l h =
    let s : bit_and a mask ≡ bit_and b mask = eqb-true _ _ e in
    let m : mask / 2 ^ k % 2 ≡ 1 = eqb-true _ _ h in
    let d : bit_and a mask / 2 ^ k % 2 ≡ bit_and b mask / 2 ^ k % 2 = rw s in
    let q : a / 2 ^ k % 2 ≡ b / 2 ^ k % 2 = omega (arith, and_digit a mask k, and_digit b mask k) in
    rw q

bits_only : (mask a b : ℕ) → mask < 2 ^ 64 → SameBits mask a b → agree_under mask a b ≡ true
unfolding has_bit
bits_only mask a b h e =
    eq-eqb _ _ (digits 64 (bit_and a mask) (bit_and b mask) (omega (arith, and_le_r a mask)) (omega (arith, and_le_r b mask)) each)
  where
    go : (k : ℕ) → k < 64 → (t : Bool) → has_bit mask k ≡ t → bit_and a mask / 2 ^ k % 2 ≡ bit_and b mask / 2 ^ k % 2
    go k l true f =
        let d : a / 2 ^ k % 2 ≡ b / 2 ^ k % 2 = same_digit (a / 2 ^ k % 2) (b / 2 ^ k % 2) (omega arith) (omega arith) (e k l f) in
        rw (and_digit a mask k, and_digit b mask k, d)
    go k l false f =
        let m = eqb-false (mask / 2 ^ k % 2) 1 f in
        omega (arith, and_digit a mask k, and_digit b mask k)

    each : (k : ℕ) → k < 64 → bit_and a mask / 2 ^ k % 2 ≡ bit_and b mask / 2 ^ k % 2
    each k l = go k l (has_bit mask k) refl

pub both : (a b : Bool) → (a && b) ≡ true → (a ≡ true) × (b ≡ true)
both true b e = (refl, e)
both false b e = absurd (true≢false (sym e))

-- ---- the rule of an edition, by its parts

-- digit k of the lowest n bits
low_digit : (a n k : ℕ) → k < n → a % 2 ^ n / 2 ^ k % 2 ≡ a / 2 ^ k % 2
low_digit a n k h =
    let e : n ≡ n - k - 1 + 1 + k = omega arith in
    ap (λ (m : ℕ). a % 2 ^ m / 2 ^ k % 2) e ∙ ap (λ (m : ℕ). m % 2) (field a (n - k - 1 + 1) k) ∙ mod-mod-pow (a / 2 ^ k) (n - k - 1) 1

-- the lowest bits as a number, and bit by bit
low_bits : (n a b : ℕ) → a % 2 ^ n ≡ b % 2 ^ n → (k : ℕ) → k < n → has_bit a k ≡ has_bit b k
unfolding has_bit
low_bits n a b e k h = rw (← low_digit a n k h, e, low_digit b n k h)

low_only : (n a b : ℕ) → ((k : ℕ) → k < n → has_bit a k ≡ has_bit b k) → a % 2 ^ n ≡ b % 2 ^ n
unfolding has_bit
low_only n a b e =
    digits n (a % 2 ^ n) (b % 2 ^ n) (mod-lt a (pow_pos n)) (mod-lt b (pow_pos n))
    (λ k h. low_digit a n k h ∙ same_digit (a / 2 ^ k % 2) (b / 2 ^ k % 2) (omega arith) (omega arith) (e k h) ∙ sym (low_digit b n k h))

pub rule_first : (s : Client) (c : ClientRecord) → rule_of 1 s c ≡ names_agree s c
unfolding rule_of
rule_first s c = refl

-- "the lowest 21 bits of the client's NAME, its identity number", as a number
abbrev pub SameIdentity : Client → ClientRecord → Type 0
SameIdentity s c = s.name % 2 ^ 21 ≡ c.name % 2 ^ 21

module _ (edition : ℕ) (s : Client) (c : ClientRecord) where
  pub rule_parts : rule_of edition s c ≡ true → (names_agree s c ≡ true) × (edition ≡ 2 → SameIdentity s c)
  unfolding rule_of
  rule_parts e =
      let p = both (not (eqb edition 2) || identities_agree s c) _ e in
      (p.1, λ z. sym (and_mask s.name 21) ∙ eqb-true _ _ (rw (eq-eqb edition 2 z) at p.0) ∙ and_mask c.name 21)

  pub rule_whole : names_agree s c ≡ true → (edition ≡ 2 → SameIdentity s c) → rule_of edition s c ≡ true
  unfolding rule_of
  rule_whole n i = go (eqb edition 2) refl
    where
      go : (b : Bool) → eqb edition 2 ≡ b → ((not b || identities_agree s c) && names_agree s c) ≡ true
      go true e = rw (eq-eqb _ _ (and_mask s.name 21 ∙ i (eqb-true edition 2 e) ∙ sym (and_mask c.name 21))) n
      go false e = n

  -- what an edition takes the first takes
  pub rule_takes : rule_of edition s c ≡ true → rule_of 1 s c ≡ true
  rule_takes e = rule_first s c ∙ (rule_parts e).0

-- ---- NAMEs

module _ (s : Client) (c : ClientRecord) where
  pub is_own : both_own s c ≡ true → BothOwn s c
  is_own e = let p = both (eqb c.master c.name) _ e in (eqb-true _ _ p.0, eqb-true _ _ p.1)

  own_is : BothOwn s c → both_own s c ≡ true
  own_is o = rw (eq-eqb _ _ o.0, eq-eqb _ _ o.1)

module _ (edition : ℕ) (s : Client) (c : ClientRecord) where
  abbrev mask : ℕ
  mask = s.profile.mask

  abbrev own : Bool
  own = both_own s c

  names : rule_of edition s c ≡ true → SameNames edition s c
  names e =
      let r = rule_parts edition s c e in
      let p = both (agree_under mask s.name c.name) _ r.0 in
      record {
        bits = bits mask s.name c.name p.0;
        masked = λ o. bits mask s.profile.master c.master (sym (pick_true own _ _ (own_is s c o)) ∙ p.1);
        otherwise = λ h. eqb-true _ _ (sym (pick_false own _ _ (not_own own refl h)) ∙ p.1);
        identity = λ z. low_bits 21 s.name c.name (r.1 z);
      }
    where
      not_own : (b : Bool) → own ≡ b → (BothOwn s c → ⊥) → own ≡ false
      not_own true e h = absurd (h (is_own s c e))
      not_own false e h = e

  names_only : mask < 2 ^ 64 → SameNames edition s c → rule_of edition s c ≡ true
  names_only h n =
      rule_whole edition s c (rw (bits_only mask s.name c.name h n.bits) (go own refl)) (λ z. low_only 21 s.name c.name (n.identity z))
    where
      go : (b : Bool) → own ≡ b → masters_agree own mask s.profile.master c.master ≡ true
      go true e = pick_true own _ _ e ∙ bits_only mask s.profile.master c.master h (n.masked (is_own s c e))
      go false e = pick_false own _ _ e ∙ eq-eqb _ _ (n.otherwise (λ o. true≢false (sym (own_is s c o) ∙ e)))

-- ---- labels

pub same : (a b : List ℕ) → same_bytes a b ≡ true → a ≡ b
same a b e = (bytes_eq-Decides a b).0 e

labels : (a b : Label) → same_label a b ≡ true → (a.length ≡ b.length) × (a.bytes ≡ b.bytes)
unfolding same_label
labels a b e =
    let p = both (eqb a.length b.length) (same_bytes a.bytes b.bytes) e in
    (eqb-true _ _ p.0, same a.bytes b.bytes p.1)

labels_only : (a b : Label) → a.length ≡ b.length → a.bytes ≡ b.bytes → same_label a b ≡ true
unfolding same_label
labels_only a b e f = rw (eq-eqb a.length b.length e, (bytes_eq-Decides a.bytes b.bytes).1 f)

pub agrees : Agrees
agrees = record { names = names; names_only = names_only; labels = labels; labels_only = labels_only }
