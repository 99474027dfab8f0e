-- What an E.7 and an E.4 that are accepted say, byte by byte.
use Prim.Native.Nat.{ℕ, zero, suc, ◌/◌, ◌%◌, min}
use mathlib.Core.Path.{◌≡◌, refl, sym, ap, ◌∙◌}
use mathlib.Core.Bool.{true}
use mathlib.Core.Logic.{◌↔◌, ◌⊎◌, inl, inr}
use mathlib.Core.List.{List}
use native.Mathlib.Omega.{arith}
use borrow.Author.Tests.{ne_eqb, not-false}
use Rattle.octets.specs.Pick.{pick}
use Rattle.message.specs.Fields.{status_number, status_from}
use Rattle.message.specs.Layout.{as_execution, as_reply}
use Rattle.message.specs.declared.Status.{Status}
use Rattle.message.specs.declared.Status.TheVariants as status
use Rattle.message.specs.declared.Status.TheVariants.{AtOnce, Done, Failed}
use Rattle.message.specs.declared.Execution.{Execution}
use Rattle.message.specs.declared.Reply.{Reply}
use Rattle.flat.specs.Flat.{execution_step, reply_step, execution_from, reply_from}
use Rattle.master.specs.Messages.{is_indication, is_answer, execution_in, reply_in}
use Rattle.master.specs.declared.Master.{Master}
use Rattle.master.specs.Playback.{answer_call}
use Rattle.events.specs.Events.{answer, apply}
use Rattle.seen.specs.Words.{nth}
use Rattle.seen.proofs.Reading.{answer_is, indication_is}
use Rattle.seen.proofs.Tests.{passed_by}
use Rattle.plays.specs.Plays.{Finishing, Failing}

-- ---- the numbers of a status

again : (t : Status) → status_number (status_from (status_number t)) ≡ status_number t
unfolding status_from pick
again AtOnce = refl
again status.Started = refl
again Done = refl
again Failed = refl

first_three : (n : ℕ) → status_number (status_from n) ≡ min n 3
unfolding status_from pick
first_three zero = refl
first_three (suc zero) = refl
first_three (suc (suc zero)) = refl
first_three (suc (suc (suc n))) =
    let z : 3 ≡ min (suc (suc (suc n))) 3 = omega arith in
    rw (
      ne_eqb (suc (suc (suc n))) 0 (λ e. omega (arith, e)),
      ne_eqb (suc (suc (suc n))) 1 (λ e. omega (arith, e)),
      ne_eqb (suc (suc (suc n))) 2 (λ e. omega (arith, e)),
    ) z

-- ---- E.7

-- one that is accepted is one
pub is_answer_lem : (m : Master) (slot : ℕ) (msg out : List ℕ) → (apply m (answer slot msg out)).number ≡ 0 → is_answer msg ≡ true
unfolding answer_call
is_answer_lem m slot msg out z = not-false _ (passed_by m (answer slot msg out) z).right

module _ (s : List ℕ) (h : is_answer s ≡ true) where
  reply_is : reply_in s ≡ reply_from (reply_step (as_reply s))
  reply_is = answer_is s h

  pub reply_function_is : (reply_in s).function ≡ nth 2 s
  reply_function_is = ap (λ (r : Reply). r.function) reply_is

  pub reply_state_is : (reply_in s).state ≡ nth 3 s % 64
  reply_state_is = ap (λ (r : Reply). r.state) reply_is

  pub reply_error_is : (reply_in s).error ≡ nth 4 s
  reply_error_is = ap (λ (r : Reply). r.error) reply_is

  pub reply_tan_is : (reply_in s).tan ≡ nth 5 s
  reply_tan_is = ap (λ (r : Reply). r.tan) reply_is

  pub reply_status_is : status_number (reply_in s).status ≡ min (nth 3 s / 64) 3
  reply_status_is = ap (λ (r : Reply). status_number r.status) reply_is ∙ again (status_from (nth 3 s / 64)) ∙ first_three (nth 3 s / 64)

  -- it says done; it says failed
  pub finishing_is : Finishing s ↔ (((status_number (reply_in s).status ≡ 0) ⊎ (status_number (reply_in s).status ≡ 2)) × ((reply_in s).error ≡ 0))
  finishing_is = (λ f. (to f.0, reply_error_is ∙ f.1), λ f. (from f.0, sym reply_error_is ∙ f.1))
    where
      to : (nth 3 s / 64 ≡ 0) ⊎ (nth 3 s / 64 ≡ 2) → (status_number (reply_in s).status ≡ 0) ⊎ (status_number (reply_in s).status ≡ 2)
      to (inl e) = inl (omega (arith, e, reply_status_is))
      to (inr e) = inr (omega (arith, e, reply_status_is))

      from : (status_number (reply_in s).status ≡ 0) ⊎ (status_number (reply_in s).status ≡ 2) → (nth 3 s / 64 ≡ 0) ⊎ (nth 3 s / 64 ≡ 2)
      from (inl e) = inl (omega (arith, e, reply_status_is))
      from (inr e) = inr (omega (arith, e, reply_status_is))

  pub failing_is : Failing s ↔ ((status_number (reply_in s).status ≡ 3) ⊎ ((reply_in s).error ≡ 0 → ⊥))
  failing_is = (to, from)
    where
      to : Failing s → (status_number (reply_in s).status ≡ 3) ⊎ ((reply_in s).error ≡ 0 → ⊥)
      to (inl e) = inl (omega (arith, e, reply_status_is))
      to (inr n) = inr (λ z. n (sym reply_error_is ∙ z))

      from : (status_number (reply_in s).status ≡ 3) ⊎ ((reply_in s).error ≡ 0 → ⊥) → Failing s
      from (inl e) = inl (omega (arith, e, reply_status_is))
      from (inr n) = inr (λ z. n (reply_error_is ∙ z))

-- ---- E.4

module _ (s : List ℕ) (h : is_indication s ≡ true) where
  execution_is : execution_in s ≡ execution_from (execution_step (as_execution s))
  execution_is = indication_is s h

  pub its_function_is : (execution_in s).function ≡ nth 2 s
  its_function_is = ap (λ (r : Execution). r.function) execution_is

  pub its_status_is : status_number (execution_in s).status ≡ min (nth 3 s / 64) 3
  its_status_is = ap (λ (r : Execution). status_number r.status) execution_is ∙ again (status_from (nth 3 s / 64)) ∙ first_three (nth 3 s / 64)
