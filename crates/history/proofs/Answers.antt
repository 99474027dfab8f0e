-- The answer to an E.4, and whether a step is open, are what the log says.
use Prim.Native.Nat.{ℕ, ◌≤◌, ◌<◌}
use mathlib.Core.Path.{◌≡◌, refl, sym, ap, subst, ◌∙◌}
use mathlib.Core.Bool.{Bool, true, false, not, ◌||◌}
use mathlib.Core.List.{List, [], ◌∷◌, map}
use native.Mathlib.Omega.{arith}
use lib.Dec.{eqb}
use lib.ListN.{length, get_or, drop, length-map}
use borrow.Author.Tests.{eqb-true, eqb-false}
use Rattle.octets.specs.Pick.{pick}
use Rattle.message.specs.Fields.{status_number}
use Rattle.message.specs.declared.Execution.{Execution}
use Rattle.message.specs.declared.Status.{Status}
use Rattle.message.specs.declared.Status.TheVariants.{AtOnce, Started, Done, Failed}
use Rattle.arrays.specs.Arrays.{some}
use Rattle.arrays.specs.Every.{Every}
use Rattle.arrays.proofs.Every.{every_at, those_none}
use Rattle.client.specs.declared.Client.{Client}
use Rattle.recording.specs.State.{blank_taken}
use Rattle.recording.specs.Indication.{is_open, has_open, held_of, step_at, is_step_of, takes, again_error, heard_again, error_by, first_error, heard_of}
use Rattle.recording.specs.Promises.{Sound, start_of}
use Rattle.recording.specs.declared.Taken.{Taken}
use Rattle.recording.specs.declared.Recording.{Recording}
use Rattle.recording.specs.Indication.{Heard}
use Rattle.recording.proofs.Cases.{held_count, held_at, by_cases}
use Rattle.events.proofs.Choices.{either, is_true}
use Rattle.history.specs.Steps.{Entry, is_finish, is_failure, FirstOf, Standing, was_one_shot, still_open, was_done, was_failed, stands_as, is_open_by, is_open_in, beginnings, is_any_open}
use Rattle.history.specs.Answers.{answer_by, answer_again, answer_to, error_from}
use Rattle.history.proofs.Beginnings.{start_in, First, none_some}
use Rattle.history.proofs.Held.{Held, found_first, same_step}
use Rattle.history.proofs.Told.{Told}
use Rattle.history.proofs.Kept.{is_its}

-- ---- how a step stands

-- the status that is held, and what the log says
data Stands : ℕ → Standing → Type 0 where
  at_once : Stands 0 was_one_shot
  still_open_lem : Stands 1 still_open
  was_done_lem : Stands 2 was_done
  was_failed_lem : Stands 3 was_failed

first_some : (p : Entry → Bool) (log : List Entry) (x : Entry) → FirstOf p log x → some p log ≡ true
first_some p log x f = is_true (some p log) (λ n. let z = ap length (sym f.1 ∙ those_none p log n) in omega arith)

module _ (log : List Entry) (t : Taken) (h : Held log t) where
  abbrev b : Entry
  b = h.began

  started_by : (t.status ≡ 0 → ⊥) → eqb (status_number b.message.status) 0 ≡ false
  started_by n = ap (λ (s : Status). eqb (status_number s) 0) (h.started n)

  stands_once : t.status ≡ 0 → stands_as log b ≡ was_one_shot
  unfolding pick
  stands_once z = rw (ap (λ (s : Status). eqb (status_number s) 0) (h.one_shot_lem z).0)

  stands_open : t.status ≡ 1 → stands_as log b ≡ still_open
  unfolding pick
  stands_open z =
      rw (
        started_by (λ y. omega arith),
        none_some (is_finish b) log (h.unfinished (λ y. omega arith)),
        none_some (is_failure b) log (h.unfailed (λ y. omega arith)),
      )

  stands_done : t.status ≡ 2 → stands_as log b ≡ was_done
  unfolding pick
  stands_done z = let d = h.is_done z in rw (started_by (λ y. omega arith), first_some (is_finish b) log d.0 d.1)

  stands_failed : t.status ≡ 3 → stands_as log b ≡ was_failed
  unfolding pick
  stands_failed z =
      rw (started_by (λ y. omega arith), none_some (is_finish b) log (h.unfinished (λ y. omega arith)), h.is_failed z)

  of : (k : ℕ) (z : Standing) → t.status ≡ k → stands_as log b ≡ z → Stands k z → Stands t.status (stands_as log b)
  of k z p q d = subst (λ (n : ℕ). Stands n (stands_as log b)) (sym p) (subst (Stands k) (sym q) d)

  stands : Stands t.status (stands_as log b)
  stands =
      either (eqb t.status 0) (λ q. let z = eqb-true _ 0 q in of 0 was_one_shot z (stands_once z) at_once)
      (λ n. either (eqb t.status 1) (λ q. let z = eqb-true _ 1 q in of 1 still_open z (stands_open z) still_open_lem)
      (λ m. either (eqb t.status 2) (λ q. let z = eqb-true _ 2 q in of 2 was_done z (stands_done z) was_done_lem)
      (λ l.
      let a = eqb-false t.status 0 n in
      let c = eqb-false t.status 1 m in
      let d = eqb-false t.status 2 l in
      let w = h.few in
      let z : t.status ≡ 3 = last t.status a c d w in
      of 3 was_failed z (stands_failed z) was_failed_lem)))
    where
      last : (k : ℕ) → (k ≡ 0 → ⊥) → (k ≡ 1 → ⊥) → (k ≡ 2 → ⊥) → k ≤ 3 → k ≡ 3
      last k a c d w = omega (arith, a, c, d, w)

-- ---- found

table : (k : ℕ) (z : Standing) → Stands k z → (s : Status) (same : Bool)
    → pick (not same) 3 (pick (not (takes k (status_number s))) 3 (pick (eqb (status_number s) 3) 255 0)) ≡ pick same (answer_by z s) 3
unfolding pick
table k z d s false = refl
table k z at_once AtOnce true = refl
table k z at_once Started true = refl
table k z at_once Done true = refl
table k z at_once Failed true = refl
table k z still_open_lem AtOnce true = refl
table k z still_open_lem Started true = refl
table k z still_open_lem Done true = refl
table k z still_open_lem Failed true = refl
table k z was_done_lem AtOnce true = refl
table k z was_done_lem Started true = refl
table k z was_done_lem Done true = refl
table k z was_done_lem Failed true = refl
table k z was_failed_lem AtOnce true = refl
table k z was_failed_lem Started true = refl
table k z was_failed_lem Done true = refl
table k z was_failed_lem Failed true = refl

again_is : (log : List Entry) (t : Taken) (h : Held log t) (e : Execution) → again_error t e ≡ answer_again log h.began e
unfolding again_error
again_is log t h e = rw (same_step log t h e) (table t.status (stands_as log h.began) (stands log t h) e.status _)

-- ---- the answer

module _ (log : List Entry) (r : Recording) (slot : ℕ) (client : Client) (complete : Bool) (e : Execution) (s : Sound r) (h : Told r log) where
  abbrev answer : ℕ
  answer = error_from log client.profile complete slot e

  found_is : (i : ℕ) → i < r.count → is_step_of slot e.tan (step_at r i) ≡ true → (heard_again r i e).error ≡ answer
  unfolding heard_again
  found_is i k q =
      let c = held_count r s in
      let t : Held log (step_at r i) = subst (Held log) (held_at r s i k) (every_at (Held log) (held_of r) i blank_taken (omega arith) h.steps) in
      let f = found_first log (step_at r i) t slot e.tan q in
      again_is log (step_at r i) t e ∙ ap (answer_to log client.profile complete e) (sym f.1)

  held_is : length (beginnings [] log) ≡ r.count
  held_is = sym (length-map (beginnings [] log) start_in) ∙ ap length (sym h.order) ∙ length-map (held_of r) start_of ∙ held_count r s

  first_is : some (is_step_of slot e.tan) (held_of r) ≡ false → first_error client.profile complete r.count e ≡ answer
  unfolding error_by first_error
  first_is n = rw (h.fresh slot e.tan n, held_is)

  pub error_is : (heard_of r slot client complete e).error ≡ answer
  error_is =
      by_cases r slot client complete e (λ (x : Heard). x.error ≡ answer) s (λ i k _ q. found_is i k q) (λ n _ _. first_is n)
      (λ n z. sym z ∙ first_is n)

-- ---- open

open_by : (k : ℕ) (z : Standing) → Stands k z → eqb k 1 ≡ is_open_by z
open_by k z at_once = refl
open_by k z still_open_lem = refl
open_by k z was_done_lem = refl
open_by k z was_failed_lem = refl

open_all :
    (log : List Entry) (ts : List Taken) (bs : List Entry) → Every (Held log) ts → Every (First log) bs → map start_of ts ≡ map start_in bs
    → some is_open ts ≡ some (is_open_in log) bs
open_all log [] [] h f e = refl
open_all log [] (b ∷ bs) h f e = let z = ap length e in absurd (omega arith)
open_all log (t ∷ ts) [] h f e = let z = ap length e in absurd (omega arith)
open_all log (t ∷ ts) (b ∷ bs) h f e =
    let its = is_its log t h.0 b f.0 (ap (λ (l : List Taken). get_or l 0 (start_of t)) e) in
    let one = open_by t.status (stands_as log h.0.began) (stands log t h.0) ∙ ap (is_open_in log) its in
    let others = open_all log ts bs h.1 f.1 (ap (drop 1) e) in
    ap (λ (x : Bool). x || some is_open ts) one ∙ ap (λ (x : Bool). is_open_in log b || x) others

pub open_is : (log : List Entry) (r : Recording) → Told r log → has_open r ≡ is_any_open log
unfolding has_open
open_is log r h = open_all log (held_of r) (beginnings [] log) h.steps h.firsts h.order
