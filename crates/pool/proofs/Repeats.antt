-- The first key that stood before: how the search goes on from key k, and the bits that hold the keys seen.
use Prim.Native.Nat.{ℕ, suc, ◌+◌, ◌/◌, ◌%◌, ◌≤◌, ◌<◌}
use native.Mathlib.Numerals.{add-one}
use native.Mathlib.Omega.{arith}
use mathlib.Core.Path.{◌≡◌, refl, sym, ap, ◌∙◌}
use mathlib.Core.List.{List, [], ◌∷◌, ◌++◌}
use mathlib.Core.Bool.{Bool, true, false, not, ◌||◌, true≢false}
use lib.Dec.{eqb, ltb}
use lib.ListN.{length, get_or, take, drop, set, drop_of_length-le, get_or-replicate, replicate}
use lib.Seq.{drop-cons, take-suc, get_or-set_same, get_or-set_other}
use borrow.Author.Tests.{eq-eqb, ne_eqb, le-ltb, lt-ltb, eqb-true, eqb-false, ltb-false}
use Rattle.octets.specs.Pick.{pick}
use Rattle.octets.specs.Bits.{has_bit, with_bit, bits_of}
use Rattle.octets.proofs.BitLaws.{has_with, has_none}
use Rattle.pool.specs.Verdicts.{verdict, fine}
use Rattle.pool.specs.StageTwo.{is_in, first_repeat, repeat_fault}
use Rattle.pool.specs.Search.Seen.{Holds}

-- ---- from key k on

module _ (l : List ℕ) (k : ℕ) where
  pub repeat_end : length l ≤ k → first_repeat (take k l) (drop k l) ≡ 0
  unfolding first_repeat
  repeat_end h = ap (first_repeat (take k l)) (drop_of_length-le l h)

  pub repeat_here : k < length l → is_in (get_or l k 0) (take k l) ≡ true → first_repeat (take k l) (drop k l) ≡ 0
  unfolding first_repeat pick
  repeat_here h e = rw (drop-cons l k 0, e)

  pub repeat_next : k < length l → is_in (get_or l k 0) (take k l) ≡ false → first_repeat (take k l) (drop k l) ≡ suc (first_repeat (take (k + 1) l) (drop (k + 1) l))
  unfolding first_repeat pick
  repeat_next h e = rw (add-one, drop-cons l k 0, e, take-suc l k 0)

module _ (code : ℕ) (names keys : List ℕ) (k : ℕ) (e : k ≡ first_repeat [] keys) where
  pub repeat_fault_lem : k < length keys → repeat_fault code names keys ≡ verdict code (get_or names k 0)
  unfolding repeat_fault pick
  repeat_fault_lem h = rw (← e, lt-ltb k (length keys) h)

  pub repeat_fine : length keys ≤ k → repeat_fault code names keys ≡ fine
  unfolding repeat_fault pick
  repeat_fine h = rw (← e, le-ltb k (length keys) h)

-- ---- the keys seen, a bit for each

pub seen_none : Holds (replicate 1024 0) []
unfolding is_in
seen_none n h = rw (get_or-replicate {A = ℕ} 1024 (n / 64) 0 0 (omega arith)) (has_none (n % 64))

or_assoc : (a b c : Bool) → (a || (b || c)) ≡ ((a || b) || c)
or_assoc true b c = refl
or_assoc false b c = refl

or_false : (a : Bool) → (a || false) ≡ a
or_false true = refl
or_false false = refl

pub or_true : (a : Bool) → (a || true) ≡ true
or_true true = refl
or_true false = refl

or_comm : (a b : Bool) → (a || b) ≡ (b || a)
or_comm true b = sym (or_true b)
or_comm false b = sym (or_false b)

in_snoc : (x y : ℕ) (l : List ℕ) → is_in x (l ++ y ∷ []) ≡ (is_in x l || eqb y x)
unfolding is_in
in_snoc x y [] = or_false (eqb y x)
in_snoc x y (z ∷ l) = rw (in_snoc x y l) (or_assoc (eqb z x) (is_in x l) (eqb y x))

-- what is told of a key: whether it is new
pub stood : (b new : Bool) → new ≡ not b → new ≡ false → b ≡ true
stood true new e f = refl
stood false new e f = absurd (true≢false (sym e ∙ f))

pub fresh : (b new : Bool) → new ≡ not b → new ≡ true → b ≡ false
fresh true new e f = absurd (true≢false (sym f ∙ e))
fresh false new e f = refl

-- one key more
abbrev pub marked : List ℕ → ℕ → List ℕ
marked bits key = set bits (key / 64) (with_bit (get_or bits (key / 64) 0) (key % 64))

module _ (bits l : List ℕ) (key : ℕ) (wide : length bits ≡ 1024) (small : key < 65536) (seen : Holds bits l) where
  module _ (n : ℕ) (h : n < 65536) where
    with_same : n / 64 ≡ key / 64 → has_bit (get_or (marked bits key) (n / 64) 0) (n % 64) ≡ (eqb (key % 64) (n % 64) || is_in n l)
    with_same e =
        let w : ℕ = get_or bits (key / 64) 0 in
        let i : key / 64 < length bits = omega arith in
        rw (e, get_or-set_same bits (key / 64) (with_bit w (key % 64)) 0 i, has_with w (key % 64) (n % 64), ← seen n h, e)

    same_word : (b : Bool) → eqb key n ≡ b → n / 64 ≡ key / 64 → eqb (key % 64) (n % 64) ≡ b
    same_word true e w = eq-eqb (key % 64) (n % 64) (ap (λ (x : ℕ). x % 64) (eqb-true key n e))
    same_word false e w = ne_eqb (key % 64) (n % 64) (λ m. eqb-false key n e (omega arith))

    in_word : n / 64 ≡ key / 64 → has_bit (get_or (marked bits key) (n / 64) 0) (n % 64) ≡ is_in n (l ++ key ∷ [])
    in_word w = with_same w ∙ rw (same_word (eqb key n) refl w, in_snoc n key l) (or_comm (eqb key n) (is_in n l))

    in_other : (n / 64 ≡ key / 64 → ⊥) → has_bit (get_or (marked bits key) (n / 64) 0) (n % 64) ≡ is_in n (l ++ key ∷ [])
    in_other d =
        let e : eqb key n ≡ false = ne_eqb key n (λ m. d (ap (λ (x : ℕ). x / 64) (sym m))) in
        rw (get_or-set_other bits (key / 64) (n / 64) (with_bit (get_or bits (key / 64) 0) (key % 64)) 0 d, seen n h, in_snoc n key l, e) (sym (or_false (is_in n l)))

  pub seen_more : Holds (marked bits key) (l ++ key ∷ [])
  seen_more n h = go (eqb (n / 64) (key / 64)) refl
    where
      go : (b : Bool) → eqb (n / 64) (key / 64) ≡ b → has_bit (get_or (marked bits key) (n / 64) 0) (n % 64) ≡ is_in n (l ++ key ∷ [])
      go true e = in_word n h (eqb-true (n / 64) (key / 64) e)
      go false e = in_other n h (eqb-false (n / 64) (key / 64) e)

-- ---- the keys below 64, as a set

-- it has such a key exactly where the list has it
pub has_bits : (keys : List ℕ) (t : ℕ) → t < 64 → has_bit (bits_of keys) t ≡ is_in t keys
unfolding bits_of is_in pick
has_bits [] t h = has_none t
has_bits (k ∷ keys) t h = go (ltb k 64) refl (has_bits keys t h)
  where
    go : (b : Bool) → ltb k 64 ≡ b → has_bit (bits_of keys) t ≡ is_in t keys → has_bit (pick b (with_bit (bits_of keys) k) (bits_of keys)) t ≡ (eqb k t || is_in t keys)
    go true e later = has_with (bits_of keys) k t ∙ rw later
    go false e later =
        let l : 64 ≤ k = ltb-false k 64 e in
        let d : eqb k t ≡ false = ne_eqb k t (λ m. omega arith) in
        rw d later

-- ---- keys of which no two are alike: none stands among those after it

abbrev pub Unlike : List ℕ → Type 0
Unlike [] = Unit
Unlike (k ∷ keys) = (is_in k keys ≡ false) × Unlike keys

module _ (k : ℕ) (keys : List ℕ) (new : is_in k keys ≡ false) where
  other_key : (x : ℕ) → is_in x keys ≡ true → eqb k x ≡ false
  other_key x e = ne_eqb k x (λ m. true≢false (sym e ∙ ap (λ (y : ℕ). is_in y keys) (sym m) ∙ new))

-- nor among those seen before
never : (seen keys : List ℕ) → Unlike keys → ((x : ℕ) → is_in x keys ≡ true → is_in x seen ≡ false) → first_repeat seen keys ≡ length keys
unfolding first_repeat is_in pick
never seen [] u new = refl
never seen (k ∷ keys) u new =
    let here : is_in k seen ≡ false = new k (rw (eq-eqb k k refl)) in
    let later : first_repeat (seen ++ k ∷ []) keys ≡ length keys =
    never (seen ++ k ∷ []) keys u.1 (λ x e. in_snoc x k seen ∙ rw (new x (rw e (or_true (eqb k x))), other_key k keys u.0 x e)) in
    rw here (ap suc later)

pub unlike_fine : (code : ℕ) (names keys : List ℕ) → Unlike keys → repeat_fault code names keys ≡ fine
unfolding is_in
unlike_fine code names keys u =
    let e : first_repeat [] keys ≡ length keys = never [] keys u (λ x e. refl) in
    repeat_fine code names keys (first_repeat [] keys) refl (omega (arith, e))
