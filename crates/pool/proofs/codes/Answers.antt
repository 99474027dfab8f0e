-- `pool::codes` meets its contract: each rule gives its code or 00, the first fault is that of a rule, and the examples are computed.
use Prim.Native.Nat.{ℕ}
use mathlib.Core.Path.{◌≡◌, refl, sym, subst}
use mathlib.Core.List.{List, [], ◌∷◌, map}
use mathlib.Core.Bool.{Bool, true, false, true≢false, ◌||◌}
use mathlib.Core.Logic.{inl, inr}
use lib.Dec.{eqb}
use borrow.Author.Tests.{eq-eqb, eqb-true}
use Rattle.octets.specs.Pick.{pick}
use Rattle.octets.specs.Octets.{number_at}
use Rattle.octets.specs.Label.{label_at}
use Rattle.octets.proofs.All.{All, none, ◌also◌}
use Rattle.octets.proofs.Tests.{pick_both}
use Rattle.pool.specs.declared.Verdict.{Verdict}
use Rattle.pool.specs.Verdicts.{fault, first, first_of, first_fault}
use Rattle.pool.specs.Fields.{base_type, function_type, state_type, head_at, fixed_of, rest_at, places_f, places_from, version_label, numbers_at, functions_of}
use Rattle.pool.specs.StageOne.{Fault, code_of, faults_at, name_at, fault_at, stage_one}
use Rattle.pool.specs.StageTwo.{find, is_object, object_of, id_of, states_listed, is_in, first_repeat, label_bytes, character_fault, repeat_fault, absent_fault, ids_fault, states_absent, states_alike, rules_of, stage_two}
use Rattle.pool.specs.Pool.{verdict_of}
use Rattle.pool.specs.Codes.{given, OneOf}
use Rattle.pool.proofs.Repeats.{or_true}
use Rattle.pool.proofs.codes.Goals as goal

-- ---- codes
one : (c : ℕ) (l : List ℕ) → is_in c l ≡ true → OneOf c l
unfolding is_in
one c [] e = absurd (true≢false (sym e))
one c (x ∷ l) e = go (eqb x c) refl (one c l) e
  where
    go : (b : Bool) → eqb x c ≡ b → (is_in c l ≡ true → OneOf c l) → (b || is_in c l) ≡ true → OneOf c (x ∷ l)
    go true is later e = inl (sym (eqb-true x c is))
    go false is later e = inr (later e)

is_in_lem : (c : ℕ) (l : List ℕ) → OneOf c l → is_in c l ≡ true
unfolding is_in
is_in_lem c [] g = absurd g
is_in_lem c (x ∷ l) (inl e) = rw (eq-eqb x c (sym e))
is_in_lem c (x ∷ l) (inr g) = rw (is_in_lem c l g) (or_true (eqb x c))

abbrev Known : ℕ → Type 0
Known c = OneOf c given

-- ---- stage one: each fault with its code, and 00 where there is none
code_known : (fs : List Fault) → All (λ (f : Fault). Known f.1) fs → Known (code_of fs)
unfolding code_of
code_known [] none = inl refl
code_known (f ∷ fs) (g also gs) = pick_both Known f.0 g (code_known fs gs)

faults_known : (s : List ℕ) (at : ℕ) → All (λ (f : Fault). Known f.1) (faults_at s at)
unfolding faults_at is_in
faults_known s at =
    one 0xFF given refl
    also one 0x01 given refl
    also one 0xFF given refl
    also one 0x09 given refl
    also one 0x0B given refl
    also one 0xFF given refl
    also one 0xFF given refl
    also none

-- ---- the first fault of several
abbrev Good : Verdict → Type 0
Good v = Known v.code

fault_good : (found : Bool) (code object : ℕ) → Known code → Good (fault found code object)
fault_good found code object g = pick_both Good found g (inl refl)

first_good : (v w : Verdict) → Good v → Good w → Good (first v w)
unfolding first
first_good v w p q = pick_both Good (eqb v.code 0) q p

all_good : (vs : List Verdict) → All Good vs → Good (first_of vs)
unfolding first_of
all_good [] none = inl refl
all_good (v ∷ vs) (g also gs) = first_good v (first_of vs) g (all_good vs gs)

along_good : (f : ℕ → Verdict) (l : List ℕ) → ((n : ℕ) → Good (f n)) → Good (first_fault f l)
along_good f l g = all_good (map f l) (each l)
  where
    each : (l : List ℕ) → All Good (map f l)
    each [] = none
    each (n ∷ l) = g n also each l

repeat_good : (code : ℕ) (names keys : List ℕ) → Known code → Good (repeat_fault code names keys)
unfolding repeat_fault
repeat_good code names keys g = fault_good _ code _ g

-- ---- stage two: each rule with its code
rules_good : (s ps : List ℕ) (b : ℕ) → All Good (rules_of s ps b)
unfolding rules_of is_in absent_fault ids_fault states_absent states_alike
rules_good s ps b =
    let listed : List ℕ = functions_of s b in
    fault_good _ 0x02 0 (one 0x02 given refl)
    also repeat_good 0x05 _ _ (one 0x05 given refl)
    also fault_good _ 0x0C 0 (one 0x0C given refl)
    also along_good (character_fault 0x0A) (label_bytes (version_label s b)) (λ c. fault_good _ 0x0A 0 (one 0x0A given refl))
    also along_good (absent_fault s ps 0x03 function_type) listed (λ n. fault_good _ 0x03 n (one 0x03 given refl))
    also repeat_good 0x06 _ _ (one 0x06 given refl)
    also along_good (states_absent s ps 0x04) listed (λ n. along_good (absent_fault s ps 0x04 state_type) (states_listed s ps n) (λ m. fault_good _ 0x04 m (one 0x04 given refl)))
    also along_good (states_alike s ps 0x07) listed (λ n. repeat_good 0x07 _ _ (one 0x07 given refl))
    also none

known : (s : List ℕ) → Good (verdict_of s)
unfolding verdict_of stage_one stage_two is_in
known s =
    let ps : List ℕ = places_from s 0 in
    pick_both Good _ (one 0xFF given refl)
    (first_good (stage_one s) (stage_two s)
    (along_good (fault_at s) ps (λ at. code_known (faults_at s at) (faults_known s at)))
    (all_good (rules_of s ps (object_of s ps base_type 0)) (rules_good s ps (object_of s ps base_type 0))))

never_08 : (s : List ℕ) → (verdict_of s).code ≡ 0x08 → ⊥
unfolding is_in
never_08 s e = true≢false (sym (is_in_lem 0x08 given (subst Known e (known s))))

-- ---- the examples
pub returns : goal.returns
unfolding number_at pick label_at first first_of head_at fixed_of rest_at places_f places_from numbers_at code_of faults_at name_at stage_one find is_object object_of id_of is_in first_repeat repeat_fault absent_fault ids_fault states_absent states_alike rules_of stage_two verdict_of
returns c = record { known = known; never_08 = never_08; each = refl; objects = refl; order = refl }
