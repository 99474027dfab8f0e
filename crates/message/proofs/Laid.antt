-- The bytes of a message, laid from slices: the first ones, and the label or the pool after them.
use mathlib.Core.Path.{◌≡◌, refl, sym, ap, ◌∙◌}
use mathlib.Core.Bool.{Bool, true, false}
use mathlib.Core.List.{List, [], ◌∷◌, ◌++◌}
use Prim.Native.Nat.{ℕ, suc, ◌+◌, ◌-◌, ◌≤◌, ◌<◌, min}
use native.Mathlib.Nat.{add-zero, zero-add}
use native.Mathlib.Numerals.{add-one}
use native.Mathlib.Omega.{arith}
use lib.Dec.{ltb, eqb}
use lib.ListN.{length, get_or, take, drop, set, replicate, length-take, take-append-drop}
use lib.Seq.{sets, drop-drop, drop_at, get_or-take, take-append-add}
use Rattle.std.proofs.lemmas.List.{drop-replicate, take-replicate}
use borrow.Author.Tests.{lt-ltb, le-ltb, eqb-true}
use Rattle.octets.specs.Pick.{pick}
use Rattle.octets.specs.Label.{row_of}
use Rattle.octets.specs.declared.label.Label.{Label}
use Rattle.octets.proofs.Cells.{length_cells, next_in}
use Rattle.message.specs.Fields.{padded}
use Rattle.message.specs.Messages.{octet_of}
use Rattle.message.specs.declared.forms.Form.{Form}

-- ---- cells

-- what a list has belongs into the cells from place i on
abbrev Belongs : (ℕ → ℕ) → ℕ → List ℕ → Type 0
Belongs f i vs = (k : ℕ) → k < length vs → get_or vs k 0 ≡ f (i + k)

-- the next cells are filled from a list that has what belongs there
fill : (s : List ℕ) (f : ℕ → ℕ) (i : ℕ) (vs : List ℕ) → i + length vs ≤ length s → Belongs f i vs → sets (row_of i f ++ drop i s) i vs ≡ row_of (i + length vs) f ++ drop (i + length vs) s
fill s f i [] h e = rw (add-zero i)
fill s f i (v ∷ vs) h e =
    let here : v ≡ f i = e 0 (omega arith) ∙ ap f (add-zero i) in
    let later : Belongs f (i + 1) vs = λ k l. let m : i + suc k ≡ i + 1 + k = omega arith in e (suc k) (omega arith) ∙ ap f m in
    let end : i + 1 + length vs ≡ i + suc (length vs) = omega arith in
    ap (λ (x : ℕ). sets (set (row_of i f ++ drop i s) i x) (suc i) vs) here
    ∙ ap (λ (l : List ℕ). sets l (suc i) vs) (next_in s f i (omega arith))
    ∙ ap (λ (j : ℕ). sets (row_of (i + 1) f ++ drop (i + 1) s) j vs) (sym (add-one i))
    ∙ fill s f (i + 1) vs (omega arith) later
    ∙ ap (λ (j : ℕ). row_of j f ++ drop j s) end

pub filled : (s : List ℕ) (f : ℕ → ℕ) (i : ℕ) (vs : List ℕ) → i + length vs ≤ length s → take i s ≡ row_of i f → Belongs f i vs → sets s i vs ≡ row_of (i + length vs) f ++ drop (i + length vs) s
filled s f i vs h start e =
    ap (λ (l : List ℕ). sets l i vs) (sym (take-append-drop i s) ∙ ap (λ (l : List ℕ). l ++ drop i s) start) ∙ fill s f i vs h e

-- what stands past the cells stays
pub past_cells : (s : List ℕ) (f : ℕ → ℕ) (m n : ℕ) → m ≤ n → drop n (row_of m f ++ drop m s) ≡ drop n s
past_cells s f m n h =
    let t : List ℕ = row_of m f ++ drop m s in
    let e : m + (n - m) ≡ n = omega arith in
    ap (λ (j : ℕ). drop j t) (sym e)
    ∙ sym (drop-drop (n - m) m t)
    ∙ ap (drop (n - m)) (drop_at (row_of m f) (drop m s) m (length_cells m f))
    ∙ drop-drop (n - m) m s
    ∙ ap (λ (j : ℕ). drop j s) e

-- a place among the first n
among : (n : ℕ) (s : List ℕ) (k : ℕ) → k < length (take n s) → (k < n) × (k < length s) × (get_or (take n s) k 0 ≡ get_or s k 0)
among n s k h = let e = length-take n s in (omega arith, omega arith, get_or-take n s k 0 (omega arith))

-- no more than n are taken
pub short : (n : ℕ) (s vs : List ℕ) → vs ≡ take n s → length vs ≤ n
short n s vs is = omega (arith, length-take n s, ap length is)

-- ---- what is copied are the bytes that the definition puts there

module _ (f : Form) (l : Label) (pool : List ℕ) where
  pub first_belongs : (n : ℕ) (vs : List ℕ) → vs ≡ take (min f.first n) f.bytes → Belongs (octet_of f l pool) 0 vs
  unfolding pick octet_of
  first_belongs n vs is k h =
      let o = among (min f.first n) f.bytes k (rw is at h) in
      ap (λ (s : List ℕ). get_or s k 0) is ∙ o.2 ∙ rw (zero-add k, lt-ltb k f.first (omega arith))

  -- the first bytes are laid
  module _ (out first : List ℕ) (is : first ≡ take (min f.first f.length) f.bytes) where
    pub first_fits : length first ≤ f.length
    first_fits =
        let h = short (min f.first f.length) f.bytes first is in
        omega arith

    pub first_laid : (out' : List ℕ) → f.length ≤ length out → out' ≡ sets out 0 first → out' ≡ row_of (length first) (octet_of f l pool) ++ drop (length first) out
    first_laid out' room e =
        let h = first_fits in
        e ∙ filled out (octet_of f l pool) 0 first (omega arith) refl (first_belongs f.length first is) ∙ rw (zero-add (length first))

  abbrev body : List ℕ
  body = pick (eqb f.label 0) (take f.pool pool) (take f.label l.bytes)

  -- what `body_at` gives
  abbrev pub body_at : ℕ → List ℕ
  body_at i = pick (eqb i f.first) body []

  after_first : Belongs (octet_of f l pool) f.first body
  unfolding pick octet_of
  after_first k = go (eqb f.label 0) refl
    where
      later : ltb (f.first + k) f.first ≡ false
      later = le-ltb (f.first + k) f.first (omega arith)

      place : f.first + k - f.first ≡ k
      place = omega arith

      go :
          (b : Bool) →
          eqb f.label 0 ≡ b →
          k < length (pick b (take f.pool pool) (take f.label l.bytes)) →
          get_or (pick b (take f.pool pool) (take f.label l.bytes)) k 0 ≡ octet_of f l pool (f.first + k)
      go true e h =
          let m = among f.pool pool k h in
          let none : ltb k f.label ≡ false = le-ltb k f.label (omega (arith, eqb-true f.label 0 e)) in
          m.2 ∙ rw (later, place, none, lt-ltb k f.pool m.0)
      go false e h =
          let m = among f.label l.bytes k h in
          m.2 ∙ rw (later, place, lt-ltb k f.label m.0)

  pub body_belongs : (n i : ℕ) (vs : List ℕ) → vs ≡ take n (body_at i) → Belongs (octet_of f l pool) i vs
  unfolding pick
  body_belongs n i vs = go (eqb i f.first) refl
    where
      go : (b : Bool) → eqb i f.first ≡ b → vs ≡ take n (pick b body []) → Belongs (octet_of f l pool) i vs
      go true e is k h =
          let m = among n body k (rw is at h) in
          ap (λ (s : List ℕ). get_or s k 0) is ∙ m.2 ∙ after_first k m.1 ∙ rw (eqb-true i f.first e)
      go false e is k h = let m = among n [] k (rw is at h) in omega arith

-- ---- reserved bytes

-- reserved bytes, the first ones overwritten
pub padding : (n : ℕ) (s : List ℕ) → length s ≤ n → s ++ drop (length s) (replicate n 0xFF) ≡ padded n s
padding n s h =
    let e : n ≡ length s + (n - length s) = omega arith in
    let left : n - length s ≤ n = omega arith in
    drop_left ∙ sym (ap (λ (m : ℕ). take m (s ++ replicate n 0xFF)) e ∙ take-append-add s (replicate n 0xFF) (n - length s) ∙ ap (λ (l : List ℕ). s ++ l) (take-replicate (n - length s) n 0xFF left))
  where
    drop_left : s ++ drop (length s) (replicate n 0xFF) ≡ s ++ replicate (n - length s) 0xFF
    drop_left = ap (λ (l : List ℕ). s ++ l) (drop-replicate {X = ℕ} (length s) n 0xFF)
