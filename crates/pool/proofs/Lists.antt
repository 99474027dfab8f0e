-- Lists that are read off a pool and gathered in an array, and the first of a list at which a test holds.
use Prim.Native.Nat.{ℕ, zero, suc, ◌+◌, ◌-◌, ◌*◌, ◌≤◌, ◌<◌}
use native.Mathlib.Numerals.{add-one}
use native.Mathlib.Omega.{arith}
use mathlib.Core.Path.{◌≡◌, refl, sym, ap, ◌∙◌}
use mathlib.Core.List.{List, [], ◌∷◌, map}
use mathlib.Core.Bool.{Bool, true, false, true≢false}
use Rattle.std.specs.Prelude.{Option, Some, None, IfSome, unwrap_or}
use Rattle.std.specs.Option.{is_some}
use lib.ListN.{length, get_or, take, drop, set, replicate, length-map, drop_of_length-le}
use lib.Seq.{drop-cons, drop-drop, drop-set-lt, take-suc, take-suc-set, take_all}
use Rattle.octets.specs.Pick.{pick}
use Rattle.octets.specs.Octets.{number_at}
use Rattle.octets.proofs.Laws.{number_one}
use Rattle.pool.specs.Fields.{numbers_at}
use Rattle.pool.specs.StageTwo.{find}

-- ---- numbers one after the other

module _ (w : ℕ) (s : List ℕ) where
  pub length_numbers : (i n : ℕ) → length (numbers_at w s i n) ≡ n
  unfolding numbers_at
  length_numbers i zero = refl
  length_numbers i (suc n) = ap suc (length_numbers (i + w) n)

  pub number_in : (i n k : ℕ) → k < n → get_or (numbers_at w s i n) k 0 ≡ number_at w s (i + w * k)
  unfolding numbers_at
  number_in i zero k h = omega arith
  number_in i (suc n) zero h = ap (number_at w s) (omega arith)
  number_in i (suc n) (suc k) h = number_in (i + w) n k (omega arith) ∙ ap (number_at w s) (omega arith)

-- a byte, as a number of one byte
pub byte_in : (s : List ℕ) (i k : ℕ) → get_or s (i + k) 0 ≡ number_at 1 s (i + 1 * k)
byte_in s i k =
    let e : i + 1 * k ≡ i + k = omega arith in
    sym (number_one s (i + k)) ∙ ap (number_at 1 s) (sym e)

-- ---- gathered: the first k elements are there, and the next is stored

module _ (f : ℕ → ℕ) (l : List ℕ) where
  pub get_d_map : (k : ℕ) → k < length l → get_or (map f l) k 0 ≡ f (get_or l k 0)
  get_d_map k h = go l k h
    where
      go : (xs : List ℕ) (j : ℕ) → j < length xs → get_or (map f xs) j 0 ≡ f (get_or xs j 0)
      go [] j h = omega arith
      go (x ∷ xs) zero h = refl
      go (x ∷ xs) (suc j) h = go xs j (omega arith)

  pub gather : (out : List ℕ) (k v : ℕ) → k < length out → k < length l → take k out ≡ take k (map f l) → v ≡ f (get_or l k 0) → take (k + 1) (set out k v) ≡ take (k + 1) (map f l)
  gather out k v ho hl e ev =
      let h : k < length (map f l) = rw (length-map l f) hl in
      rw (add-one, take-suc-set out k v, take-suc (map f l) k 0, e, get_d_map k hl, ev)

  -- and all of them
  pub gathered : (out : List ℕ) (k n : ℕ) → k ≤ n → n ≤ k → length l ≡ n → take k out ≡ take k (map f l) → take n out ≡ map f l
  gathered out k n hk hn el e =
      let same : n ≡ k = omega arith in
      let whole : length (map f l) ≤ k = rw (length-map l f) (omega arith) in
      rw (same) (e ∙ take_all k (map f l) whole)

-- the cells after the one stored are 0
pub blank_after : (out : List ℕ) (k v m : ℕ) → k < m → drop k out ≡ replicate (m - k) 0 → drop (k + 1) (set out k v) ≡ replicate (m - (k + 1)) 0
blank_after out k v m h e =
    let more : m - k ≡ suc (m - (k + 1)) = omega arith in
    drop-set-lt (k + 1) out k v (omega arith) ∙ sym (drop-drop 1 k out) ∙ rw (e, more)

-- ---- the first element at which f holds, from element k on

module _ (f : ℕ → Bool) (l : List ℕ) (d k : ℕ) where
  pub find_end : length l ≤ k → find f (drop k l) d ≡ d
  unfolding find
  find_end h = ap (λ (ps : List ℕ). find f ps d) (drop_of_length-le l h)

  pub find_here : k < length l → f (get_or l k 0) ≡ true → find f (drop k l) d ≡ get_or l k 0
  unfolding find pick
  find_here h e = rw (drop-cons l k 0, e)

  pub find_next : k < length l → f (get_or l k 0) ≡ false → find f (drop k l) d ≡ find f (drop (k + 1) l) d
  unfolding find pick
  find_next h e = rw (add-one, drop-cons l k 0, e)

-- ---- whether an object is there

pub nowhere : (o : Option ℕ) (d : ℕ) → is_some o ≡ false → unwrap_or o d ≡ d
nowhere None d e = refl
nowhere (Some p) d e = absurd (true≢false e)

pub somewhere : (o : Option ℕ) (d : ℕ) → is_some o ≡ true → IfSome o (λ p. p + 8 ≤ d) → unwrap_or o d < d
somewhere None d e h = absurd (true≢false (sym e))
somewhere (Some p) d e h = omega arith
