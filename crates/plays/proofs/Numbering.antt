-- The numbers of those sent cells of which a test holds, and their frames one after the other.
use mathlib.Core.Path.{◌≡◌, refl, sym, ap, ◌∙◌, subst}
use mathlib.Core.Bool.{Bool, true, false, cond}
use mathlib.Core.Logic.{inl, inr}
use mathlib.Core.List.{List, [], ◌∷◌, ◌++◌, flat_map, append_assoc}
use Prim.Native.Nat.{ℕ, zero, suc, ◌+◌, ◌-◌, ◌*◌, ◌≤◌, ◌<◌}
use native.Mathlib.Omega.{arith}
use lib.ListN.{length, get_or, take, replicate}
use lib.Seq.{take_at, drop-append-add}
use Rattle.arrays.specs.Arrays.{pad_to}
use Rattle.arrays.specs.Every.{Every, EveryTwo}
use Rattle.arrays.proofs.Every.{every_weaken}
use Rattle.arrays.proofs.Fill.{pad_none}
use Rattle.sequence.specs.Sequence.{blank_step}
use Rattle.sequence.specs.declared.Step.{Step}
use Rattle.playback.specs.declared.Sent.{Sent}
use Rattle.playback.specs.State.{blank_sent}
use Rattle.playback.specs.Frames.{frame_of, framed, frame_count}
use Rattle.plays.specs.Frames.{Member, frame_at}

-- their numbers, counted from k on
abbrev pub numbers_from : (Sent → Bool) → ℕ → List Sent → List ℕ
numbers_from test k [] = []
numbers_from test k (c ∷ cs) = cond (test c) (k ∷ numbers_from test (suc k) cs) (numbers_from test (suc k) cs)

-- a cell of which it holds
pub record Numbered (test : Sent → Bool) (k : ℕ) (cs : List Sent) (i : ℕ) : Type 0 where
  pub cell : ℕ
  pub is : i ≡ k + cell
  pub within : cell < length cs
  pub holds : test (get_or cs cell blank_sent) ≡ true

module _ (test : Sent → Bool) where
  pub how_many : (k : ℕ) (cs : List Sent) → length (numbers_from test k cs) ≡ frame_count test cs
  how_many k [] = refl
  how_many k (c ∷ cs) = go (test c) (how_many (suc k) cs)
    where
      go : (b : Bool) → length (numbers_from test (suc k) cs) ≡ frame_count test cs
          → length (cond b (k ∷ numbers_from test (suc k) cs) (numbers_from test (suc k) cs)) ≡ cond b (suc (frame_count test cs)) (frame_count test cs)
      go true e = ap suc e
      go false e = e

  -- ---- in order

  from_on : (k : ℕ) (cs : List Sent) → Every (λ j. k ≤ j) (numbers_from test k cs)
  from_on k [] = tt
  from_on k (c ∷ cs) = go (test c) (every_weaken (λ j h. later j h) (numbers_from test (suc k) cs) (from_on (suc k) cs))
    where
      later : (j : ℕ) → suc k ≤ j → k ≤ j
      later j h = omega arith

      go : (b : Bool) → Every (λ j. k ≤ j) (numbers_from test (suc k) cs) → Every (λ j. k ≤ j) (cond b (k ∷ numbers_from test (suc k) cs) (numbers_from test (suc k) cs))
      go true h = (omega arith, h)
      go false h = h

  pub ascends : (k : ℕ) (cs : List Sent) → EveryTwo (λ i j. i < j) (numbers_from test k cs)
  ascends k [] = tt
  ascends k (c ∷ cs) = go (test c) (ascends (suc k) cs)
    where
      go : (b : Bool) → EveryTwo (λ i j. i < j) (numbers_from test (suc k) cs)
          → EveryTwo (λ i j. i < j) (cond b (k ∷ numbers_from test (suc k) cs) (numbers_from test (suc k) cs))
      go true h = (from_on (suc k) cs, h)
      go false h = h

  -- ---- exactly those of which it holds

  numbered_later : (k : ℕ) (c : Sent) (cs : List Sent) (i : ℕ) → Numbered test (suc k) cs i → Numbered test k (c ∷ cs) i
  numbered_later k c cs i w = record { cell = suc w.cell; is = omega (arith, w.is); within = omega (arith, w.within); holds = w.holds }

  pub member_numbered : (k : ℕ) (cs : List Sent) (i : ℕ) → Member i (numbers_from test k cs) → Numbered test k cs i
  member_numbered k [] i h = absurd h
  member_numbered k (c ∷ cs) i h = go (test c) refl h (λ x. numbered_later k c cs i (member_numbered (suc k) cs i x))
    where
      go : (b : Bool) → test c ≡ b → Member i (cond b (k ∷ numbers_from test (suc k) cs) (numbers_from test (suc k) cs))
          → (Member i (numbers_from test (suc k) cs) → Numbered test k (c ∷ cs) i) → Numbered test k (c ∷ cs) i
      go true e (inl q) r = record { cell = 0; is = omega (arith, q); within = omega arith; holds = e }
      go true e (inr x) r = r x
      go false e x r = r x

  pub numbered_member : (k : ℕ) (cs : List Sent) (j : ℕ) → j < length cs → test (get_or cs j blank_sent) ≡ true → Member (k + j) (numbers_from test k cs)
  numbered_member k [] j h e = absurd (omega arith)
  numbered_member k (c ∷ cs) zero h e = let q : k + 0 ≡ k = omega arith in rw e (inl q)
  numbered_member k (c ∷ cs) (suc j) h e =
      let q : suc k + j ≡ k + suc j = omega arith in
      subst (λ (x : ℕ). Member x (numbers_from test k (c ∷ cs))) q (go (test c) (numbered_member (suc k) cs j (omega arith) e))
    where
      go : (b : Bool) → Member (suc k + j) (numbers_from test (suc k) cs) → Member (suc k + j) (cond b (k ∷ numbers_from test (suc k) cs) (numbers_from test (suc k) cs))
      go true x = inr x
      go false x = x

  -- the last of them
  pub last_number : (k : ℕ) (cs : List Sent) (i : ℕ) → i < length cs → test (get_or cs i blank_sent) ≡ true
      → numbers_from test k (take (suc i) cs) ≡ numbers_from test k (take i cs) ++ (k + i) ∷ []
  last_number k [] i h e = absurd (omega arith)
  last_number k (c ∷ cs) zero h e = let q : k ≡ k + 0 = omega arith in rw e (ap (λ (x : ℕ). x ∷ []) q)
  last_number k (c ∷ cs) (suc i) h e =
      let q : suc k + i ≡ k + suc i = omega arith in
      go (test c) (last_number (suc k) cs i (omega arith) e ∙ ap (λ (x : ℕ). numbers_from test (suc k) (take i cs) ++ x ∷ []) q)
    where
      go : (b : Bool) → numbers_from test (suc k) (take (suc i) cs) ≡ numbers_from test (suc k) (take i cs) ++ (k + suc i) ∷ []
          → cond b (k ∷ numbers_from test (suc k) (take (suc i) cs)) (numbers_from test (suc k) (take (suc i) cs))
          ≡ cond b (k ∷ numbers_from test (suc k) (take i cs)) (numbers_from test (suc k) (take i cs)) ++ (k + suc i) ∷ []
      go true x = ap (λ (l : List ℕ). k ∷ l) x
      go false x = x

  -- ---- their frames

  pub frames_are : (f : ℕ → List ℕ) (k : ℕ) (cs : List Sent) (ss : List Step) → length cs ≤ length ss
      → ((j : ℕ) → j < length cs → frame_of (get_or ss j blank_step) (get_or cs j blank_sent).tan ≡ f (k + j)) → framed test cs ss ≡ flat_map f (numbers_from test k cs)
  unfolding flat_map
  frames_are f k [] ss h e = refl
  frames_are f k (c ∷ cs) [] h e = absurd (omega arith)
  frames_are f k (c ∷ cs) (s ∷ ss) h e =
      let z : k + 0 ≡ k = omega arith in
      go (test c) (e 0 (omega arith) ∙ ap f z)
      (frames_are f (suc k) cs ss (omega arith) (λ j l. let q : k + suc j ≡ suc k + j = omega arith in e (suc j) (omega arith) ∙ ap f q))
    where
      go : (b : Bool) → frame_of s c.tan ≡ f k → framed test cs ss ≡ flat_map f (numbers_from test (suc k) cs)
          → cond b (frame_of s c.tan ++ framed test cs ss) (framed test cs ss) ≡ flat_map f (cond b (k ∷ numbers_from test (suc k) cs) (numbers_from test (suc k) cs))
      go true x y = ap (λ (l : List ℕ). l ++ framed test cs ss) x ∙ ap (λ (l : List ℕ). f k ++ l) y
      go false x y = y

pub pad_is : (n : ℕ) (l : List ℕ) → length l ≤ n → pad_to 0 n l ≡ l ++ replicate (n - length l) 0
pad_is n [] h = let q : n ≡ n - 0 = omega arith in sym (pad_none 0 n) ∙ ap (λ (k : ℕ). replicate k 0) q
pad_is zero (x ∷ l) h = absurd (omega arith)
pad_is (suc n) (x ∷ l) h =
    let q : n - length l ≡ suc n - suc (length l) = omega arith in
    ap (λ (r : List ℕ). x ∷ r) (pad_is n l (omega arith) ∙ ap (λ (k : ℕ). l ++ replicate k 0) q)

-- frame k of commands of nine bytes, one after the other
pub frame_of_lem : (f : ℕ → List ℕ) → ((i : ℕ) → length (f i) ≡ 9) → (l rest : List ℕ) (k : ℕ) → k < length l → frame_at k (flat_map f l ++ rest) ≡ f (get_or l k 0)
unfolding flat_map
frame_of_lem f n [] rest k h = absurd (omega arith)
frame_of_lem f n (i ∷ l) rest zero h = rw append_assoc (take_at (f i) (flat_map f l ++ rest) 9 (n i))
frame_of_lem f n (i ∷ l) rest (suc k) h =
    let q : suc k * 9 ≡ length (f i) + k * 9 = omega (arith, n i) in
    rw (append_assoc (f i) (flat_map f l) rest, q, drop-append-add (f i) (flat_map f l ++ rest) (k * 9)) (frame_of_lem f n l rest k (omega arith))

-- ---- members, and their places

pub member_at : (l : List ℕ) (i : ℕ) → Member i l → (k : ℕ) × ((k < length l) × (get_or l k 0 ≡ i))
member_at [] i h = absurd h
member_at (j ∷ l) i (inl e) = (0, (omega arith, sym e))
member_at (j ∷ l) i (inr h) = let r = member_at l i h in (suc r.0, (omega (arith, r.1.0), r.1.1))

pub at_member : (l : List ℕ) (k : ℕ) → k < length l → Member (get_or l k 0) l
at_member [] k h = absurd (omega arith)
at_member (j ∷ l) zero h = inl refl
at_member (j ∷ l) (suc k) h = inr (at_member l k (omega arith))
