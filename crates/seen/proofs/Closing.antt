-- When an E.4 leaves no step open, in record complete: when it ends every step that is.
use Prim.Native.Nat.{ℕ, ◌≤◌, ◌<◌}
use mathlib.Core.Path.{◌≡◌, refl, sym, ap, subst, ◌∙◌}
use mathlib.Core.Bool.{true, false, ◌&&◌, true≢false, and-false}
use native.Mathlib.Omega.{arith}
use lib.Dec.{eqb, ltb}
use lib.ListN.{length, length-set}
use lib.Seq.{get_or-set_same, get_or-set_other}
use borrow.Author.Tests.{eqb-true, eqb-false, ltb-true, ltb-false}
use Rattle.octets.specs.Pick.{pick}
use Rattle.arrays.specs.Arrays.{some}
use Rattle.arrays.proofs.Every.{pairs_at}
use Rattle.message.specs.Fields.{status_number}
use Rattle.message.specs.declared.Execution.{Execution}
use Rattle.message.specs.declared.Status.{Status}
use Rattle.message.specs.declared.Status.TheVariants.{AtOnce, Started, Done, Failed}
use Rattle.client.specs.declared.Client.{Client}
use Rattle.recording.specs.State.{blank_taken}
use Rattle.recording.specs.Indication.{status, is_open, has_open, held_of, step_at, is_step_of, is_same, step_after, with_step, heard_again, heard_of}
use Rattle.recording.specs.Promises.{Sound}
use Rattle.recording.specs.declared.Taken.{Taken}
use Rattle.recording.specs.declared.Recording.{Recording}
use Rattle.recording.specs.Indication.{Heard}
use Rattle.recording.proofs.Cases.{full, held_count, held_at, error, by_cases}
use Rattle.recording.proofs.Errors.{early}
use Rattle.recording.proofs.Steps.{both, unchanged, idle_at_once, idle_started}
use Rattle.events.proofs.Choices.{either, is_false}
use Rattle.seen.proofs.Tests.{some_at, none_at}

-- ---- a step

module _ (t : Taken) (e : Execution) where
  -- the message ends it
  abbrev pub Ends : Type 0
  Ends = (is_same t e ≡ true) × (2 ≤ status e)

  ended_step : is_open t ≡ true → Ends → is_open (step_after t e) ≡ false
  unfolding pick step_after
  ended_step o (s, l) = go e.status refl
    where
      is : (is_same t e && is_open t) ≡ true
      is = rw (s, o)

      go : (x : Status) → e.status ≡ x → is_open (step_after t e) ≡ false
      go AtOnce z = absurd (omega (arith, l, ap status_number z))
      go Started z = absurd (omega (arith, l, ap status_number z))
      go Done z = rw (is, z)
      go Failed z = rw (is, z)

  ends_step : is_open t ≡ true → is_open (step_after t e) ≡ false → Ends
  ends_step o f = go e.status refl
    where
      -- a step that stays as it is stays open
      never : {X : Type 0} → step_after t e ≡ t → X
      never same = absurd (true≢false (sym o ∙ ap is_open (sym same) ∙ f))

      alike : is_same t e ≡ true
      alike = either (is_same t e) (λ s. s) (λ s. never (unchanged t e (rw s)))

      go : (x : Status) → e.status ≡ x → Ends
      go AtOnce z = never (idle_at_once t e z)
      go Started z = never (idle_started t e z)
      go Done z = (alike, omega (arith, ap status_number z))
      go Failed z = (alike, omega (arith, ap status_number z))

-- ---- a recording

module _ (r : Recording) (s : Sound r) where
  few : r.count ≤ length r.steps
  few = omega (arith, full r s, s.few)

  pub open_at : has_open r ≡ true → (i : ℕ) × (i < r.count) × (is_open (step_at r i) ≡ true)
  unfolding has_open
  open_at h = some_at is_open r.steps r.count blank_taken h

  pub none_open : has_open r ≡ false → (i : ℕ) → i < r.count → is_open (step_at r i) ≡ false
  unfolding has_open
  none_open h = none_at is_open r.steps r.count blank_taken few h

module _ (r : Recording) (s : Sound r) (slot : ℕ) (client : Client) (e : Execution) where
  -- every open step is one that the message ends
  abbrev pub EndsAll : Type 0
  EndsAll = (i : ℕ) → i < r.count → is_open (step_at r i) ≡ true → (is_step_of slot e.tan (step_at r i) ≡ true) × Ends (step_at r i) e

  -- a client's TAN names one step
  one : (i j : ℕ) → i < r.count → j < r.count → is_step_of slot e.tan (step_at r i) ≡ true → is_step_of slot e.tan (step_at r j) ≡ true → i < j → ⊥
  one i j a b p q l =
      let g : (eqb (step_at r j).step.slot slot ≡ true) × (eqb (step_at r j).tan e.tan ≡ true) = both _ _ q in
      let apart = pairs_at (λ (x y : Taken). is_step_of y.step.slot y.tan x ≡ false) (held_of r) i j blank_taken l (omega (arith, b, held_count r s)) s.single in
      let single : is_step_of (step_at r j).step.slot (step_at r j).tan (step_at r i) ≡ false = rw (held_at r s i a, held_at r s j b) at apart in
      let step : Taken = step_at r i in
      true≢false
      (sym p
      ∙ (ap (λ (n : ℕ). is_step_of n e.tan step) (sym (eqb-true _ _ g.0))
      ∙ (ap (λ (n : ℕ). is_step_of (step_at r j).step.slot n step) (sym (eqb-true _ _ g.1))
      ∙ single)))

  same_place : (i j : ℕ) → i < r.count → j < r.count → is_step_of slot e.tan (step_at r i) ≡ true → is_step_of slot e.tan (step_at r j) ≡ true → i ≡ j
  same_place i j a b p q =
      either (ltb i j) (λ t. absurd (one i j a b p q (ltb-true i j t)))
      (λ t. either (ltb j i) (λ u. absurd (one j i b a q p (ltb-true j i u))) (λ u. omega (arith, ltb-false i j t, ltb-false j i u)))

  -- what the message makes of the step that it finds, and of the others
  module _ (k : ℕ) (a : k < r.count) where
    abbrev n : Recording
    n = with_step r k (step_after (step_at r k) e)

    at_place : step_at n k ≡ step_after (step_at r k) e
    at_place = get_or-set_same r.steps k _ blank_taken (omega (arith, a, few r s))

    elsewhere : (i : ℕ) → (i ≡ k → ⊥) → step_at n i ≡ step_at r i
    elsewhere i h = get_or-set_other r.steps k i _ blank_taken h

    again_ends : is_step_of slot e.tan (step_at r k) ≡ true → has_open n ≡ false → EndsAll
    unfolding has_open
    again_ends p h i b o =
        let closed : is_open (step_at n i) ≡ false =
        none_at is_open n.steps r.count blank_taken (omega (arith, few r s, length-set r.steps k (step_after (step_at r k) e))) h i b in
        either (eqb i k)
        (λ t.
        let q : i ≡ k = eqb-true i k t in
        let o' : is_open (step_at r k) ≡ true = subst (λ (j : ℕ). is_open (step_at r j) ≡ true) q o in
        let c' : is_open (step_at n k) ≡ false = subst (λ (j : ℕ). is_open (step_at n j) ≡ false) q closed in
        subst (λ (j : ℕ). (is_step_of slot e.tan (step_at r j) ≡ true) × Ends (step_at r j) e) (sym q) (p, ends_step (step_at r k) e o' (ap is_open (sym at_place) ∙ c')))
        (λ f. absurd (true≢false (sym o ∙ ap is_open (sym (elsewhere i (eqb-false i k f))) ∙ closed)))

    again_none : is_step_of slot e.tan (step_at r k) ≡ true → EndsAll → has_open n ≡ false
    unfolding has_open
    again_none p h = is_false (has_open n) (λ t. go (some_at is_open n.steps r.count blank_taken t))
      where
        go : (i : ℕ) × (i < r.count) × (is_open (step_at n i) ≡ true) → ⊥
        go (i, b, o) =
            either (eqb i k)
            (λ t.
            let o' : is_open (step_after (step_at r k) e) ≡ true = ap is_open (sym at_place) ∙ subst (λ (j : ℕ). is_open (step_at n j) ≡ true) (eqb-true i k t) o in
            either (is_open (step_at r k))
            (λ w. true≢false (sym o' ∙ ended_step (step_at r k) e w (h k a w).1))
            (λ w. true≢false (sym o' ∙ ap is_open (unchanged (step_at r k) e (rw (w, and-false))) ∙ w)))
            (λ f.
            let w : is_open (step_at r i) ≡ true = ap is_open (sym (elsewhere i (eqb-false i k f))) ∙ o in
            eqb-false i k f (same_place i k b a (h i b w).0 p))

  -- in record complete no step begins
  no_new : error r slot client true e ≡ 0 → ⊥
  unfolding pick
  no_new z = omega (arith, (early client.profile true r.count e z).1)

  pub all_ended : has_open (heard_of r slot client true e).recording ≡ false → EndsAll
  unfolding heard_again
  all_ended =
      by_cases r slot client true e (λ (x : Heard). has_open x.recording ≡ false → EndsAll) s
      (λ i a _ p h. again_ends i a p h)
      (λ _ _ _ h i b o. absurd (true≢false (sym o ∙ none_open r s h i b)))
      (λ _ z. absurd (no_new z))

  pub none_left : EndsAll → has_open (heard_of r slot client true e).recording ≡ false
  unfolding heard_again
  none_left h =
      by_cases r slot client true e (λ (x : Heard). has_open x.recording ≡ false) s
      (λ i a _ p. again_none i a p h)
      (λ f _ _. is_false (has_open r) (λ t. go f (open_at r s t)))
      (λ _ z. absurd (no_new z))
    where
      go : some (is_step_of slot e.tan) (held_of r) ≡ false → (i : ℕ) × (i < r.count) × (is_open (step_at r i) ≡ true) → ⊥
      go f (i, b, o) = true≢false (sym (h i b o).0 ∙ none_at (is_step_of slot e.tan) r.steps r.count blank_taken (few r s) f i b)
