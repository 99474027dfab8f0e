-- How the first fault goes on: of two verdicts or answers, along the pool's objects, and along a list from a place in it.
use Prim.Native.Nat.{ℕ, zero, suc, ◌+◌, ◌≤◌, ◌<◌}
use native.Mathlib.Numerals.{add-one}
use native.Mathlib.Omega.{arith}
use mathlib.Core.Path.{◌≡◌, refl, sym, ap, ◌∙◌}
use mathlib.Core.List.{List, [], ◌∷◌}
use mathlib.Core.Bool.{Bool, true, false, true≢false}
use lib.Dec.{eqb}
use lib.ListN.{length, get_or, take, drop, drop_of_length-le}
use lib.Seq.{drop-cons}
use borrow.Author.Tests.{eq-eqb, ne_eqb}
use Rattle.octets.specs.Pick.{pick}
use Rattle.std.specs.Prelude.{Result, Ok, Err}
use Rattle.std.specs.Result.{is_ok, result_and}
use Rattle.pool.specs.declared.Verdict.{Verdict}
use Rattle.pool.specs.declared.verdicts.Code.{Code}
use Rattle.pool.specs.declared.verdicts.Code.TheVariants.{UnknownType, NoBase, NoFunction, NoState, NumberTwice, FunctionTwice, StateTwice, VersionLength, VersionBytes, ConfigurationLength, WrongVersion, Other}
use Rattle.pool.specs.declared.verdicts.Fault.{Fault}
use Rattle.pool.specs.Faults.{code_number, answer_code, fault_verdict, said}
use Rattle.std.specs.List.{list_all}
use Rattle.pool.specs.Verdicts.{verdict, fine, fault, first, first_of, first_fault}
use Rattle.pool.specs.StageTwo.{character_right, character_fault}
use Rattle.pool.specs.Fields.{size_at, places_from}
use Rattle.pool.proofs.Walk.{places_end, places_next}

module _ (v later : Verdict) where
  pub first_fault_lem : (v.code ≡ 0 → ⊥) → first v later ≡ v
  unfolding first pick
  first_fault_lem n = rw (ne_eqb v.code 0 n)

  pub first_fine : v.code ≡ 0 → first v later ≡ later
  unfolding first pick
  first_fine e = rw (eq-eqb v.code 0 e)

-- a fault has a code above 0
pub code_not_zero : (c : Code) → code_number c ≡ 0 → ⊥
code_not_zero UnknownType e = omega arith
code_not_zero NoBase e = omega arith
code_not_zero NoFunction e = omega arith
code_not_zero NoState e = omega arith
code_not_zero NumberTwice e = omega arith
code_not_zero FunctionTwice e = omega arith
code_not_zero StateTwice e = omega arith
code_not_zero VersionLength e = omega arith
code_not_zero VersionBytes e = omega arith
code_not_zero ConfigurationLength e = omega arith
code_not_zero WrongVersion e = omega arith
code_not_zero Other e = omega arith

-- it has no fault where its code is 00
pub is_right : {T : Type 0} (answer : Result T Code) → is_ok answer ≡ eqb (answer_code answer) 0x00
is_right (Ok x) = refl
is_right (Err c) = sym (ne_eqb (code_number c) 0x00 (code_not_zero c))

pub fault_stays : (f : Fault) (later : Verdict) → first (fault_verdict f) later ≡ fault_verdict f
fault_stays f later = first_fault_lem (fault_verdict f) later (code_not_zero f.code)

pub fine_passes : (later : Verdict) → first fine later ≡ later
fine_passes later = first_fine fine later refl

-- a fault that an answer has is the first of the rules from here on; one that it has not, among the later ones
pub stop : (f : Fault) (here later : Verdict) → fault_verdict f ≡ here → fault_verdict f ≡ first here later
stop f here later e = sym (fault_stays f later) ∙ ap (λ (v : Verdict). first v later) e

pub pass : (here later v : Verdict) → fine ≡ here → v ≡ later → v ≡ first here later
pass here later v e l = l ∙ sym (fine_passes later) ∙ ap (λ (w : Verdict). first w later) e

-- the same at a rule that is a test
pub stop_at : (f : Fault) (found : Bool) (later : Verdict) → found ≡ true → fault_verdict f ≡ first (fault found (code_number f.code) f.object) later
unfolding pick
stop_at f true later e = sym (fault_stays f later)
stop_at f false later e = absurd (true≢false (sym e))

pub pass_by : (found : Bool) (code object : ℕ) (later v : Verdict) → found ≡ false → v ≡ later → v ≡ first (fault found code object) later
unfolding pick
pass_by true code object later v e l = absurd (true≢false e)
pass_by false code object later v e l = l ∙ sym (fine_passes later)

-- of two answers the first fault
pub said_and : {T U : Type 0} (a : Result T Fault) (b : Result U Fault) → said (result_and a b) ≡ first (said a) (said b)
said_and (Ok x) b = sym (fine_passes (said b))
said_and (Err f) b = sym (fault_stays f (said b))

-- where three verdicts follow one another, two of them may be taken first
pub first_both : (a b c : Verdict) → first (first a b) c ≡ first a (first b c)
unfolding first pick
first_both a b c = go (eqb a.code 0) refl
  where
    go : (t : Bool) → eqb a.code 0 ≡ t → first (pick t b a) c ≡ pick t (first b c) a
    go true e = refl
    go false e = rw e

-- no fault is found after the last verdict
pub first_last : (vs : List Verdict) → first (first_of vs) fine ≡ first_of vs
unfolding first_of first pick
first_last [] = refl
first_last (v ∷ vs) = first_both v (first_of vs) fine ∙ ap (first v) (first_last vs)

-- the first k verdicts, and then the others
pub first_split : (k : ℕ) (vs : List Verdict) → first_of vs ≡ first (first_of (take k vs)) (first_of (drop k vs))
unfolding first_of first pick
first_split zero vs = refl
first_split (suc k) [] = refl
first_split (suc k) (v ∷ vs) = ap (first v) (first_split k vs) ∙ sym (first_both v (first_of (take k vs)) (first_of (drop k vs)))

-- along the objects from a place of the pool
module _ (f : ℕ → Verdict) (s : List ℕ) (at : ℕ) where
  pub walk_end : length s ≤ at → first_fault f (places_from s at) ≡ fine
  unfolding first_of
  walk_end h = ap (first_fault f) (places_end s at h)

  pub walk_here : at < length s → ((f at).code ≡ 0 → ⊥) → first_fault f (places_from s at) ≡ f at
  unfolding first_of
  walk_here h n = ap (first_fault f) (places_next s at h) ∙ first_fault_lem (f at) _ n

  pub walk_next : at < length s → (f at).code ≡ 0 → first_fault f (places_from s at) ≡ first_fault f (places_from s (at + size_at s at))
  unfolding first_of
  walk_next h e = ap (first_fault f) (places_next s at h) ∙ first_fine (f at) _ e

-- along a list from its element k
module _ (f : ℕ → Verdict) (l : List ℕ) (k : ℕ) where
  pub fault_from : k < length l → first_fault f (drop k l) ≡ first (f (get_or l k 0)) (first_fault f (drop (k + 1) l))
  unfolding first_of
  fault_from h = rw (add-one, drop-cons l k 0)

  pub fault_end : length l ≤ k → first_fault f (drop k l) ≡ fine
  unfolding first_of
  fault_end h = ap (first_fault f) (drop_of_length-le l h)

  pub fault_here : (v : Verdict) → k < length l → f (get_or l k 0) ≡ v → (v.code ≡ 0 → ⊥) → first_fault f (drop k l) ≡ v
  fault_here v h e n = fault_from h ∙ rw e (first_fault_lem v _ n)

  pub fault_next : (v : Verdict) → k < length l → f (get_or l k 0) ≡ v → v.code ≡ 0 → first_fault f (drop k l) ≡ first_fault f (drop (k + 1) l)
  fault_next v h e z = fault_from h ∙ rw e (first_fine v _ z)

-- a byte that is not right is the fault of a label
pub characters : (bytes : List ℕ) → first_fault (character_fault 0x0A) bytes ≡ pick (list_all character_right bytes) fine (verdict 0x0A 0x0000)
unfolding first_of first pick
characters [] = refl
characters (c ∷ bytes) = go (character_right c) refl (characters bytes)
  where
    go : (b : Bool) → character_right c ≡ b → first_fault (character_fault 0x0A) bytes ≡ pick (list_all character_right bytes) fine (verdict 0x0A 0x0000) → first_fault (character_fault 0x0A) (c ∷ bytes) ≡ pick (list_all character_right (c ∷ bytes)) fine (verdict 0x0A 0x0000)
    go true e later = rw e later
    go false e later = rw e
