-- The place that is named with a number, as it is looked for, and with the number that a start gives.
use Prim.Native.Nat.{ℕ, ◌≤◌, ◌<◌}
use mathlib.Core.Path.{◌≡◌, refl}
use mathlib.Core.Bool.{not}
use mathlib.Core.Logic.{◌⊎◌, inl, inr}
use mathlib.Core.List.{List}
use native.Mathlib.Omega.{arith}
use lib.ListN.{get_or}
use borrow.Author.Tests.{ne_eqb, le-leb, lt-leb}
use Rattle.std.specs.Prelude.{Option, position}
use Rattle.std.specs.Option.{unwrap_or}
use Rattle.octets.specs.Pick.{pick}
use Rattle.octets.specs.Refusals.{refusal_number}
use Rattle.octets.specs.declared.numbers.Refusal.{Refusal}
use Rattle.octets.specs.declared.numbers.Refusal.TheVariants.{TooShort, WrongState, WrongSlot, WrongValue, NotExpected, PoolRefused, NoStep, NotEnabled, NameDiffers, LabelDiffers, NotInPool, NotReady, NotDisabled, NoneEnabled, NoMatch, CheckWrong, NotStored}
use Rattle.client.specs.declared.Client.{Client}
use Rattle.client.specs.declared.ClientRecord.{ClientRecord}
use Rattle.sequence.specs.{Sequence.blank_step, Sequence.steps_of, declared.Step.Step, declared.Sequence.Sequence}
use Rattle.playback.specs.declared.named.Named.{Named}
use Rattle.playback.specs.Pairs.{pairs}
use Rattle.playback.specs.Verification.{Check, rule_of, is_in_pool, client_checks, ready_checks, checks_of, verify_by, verify_of}
use Rattle.playback.specs.Named.{fails, lowest_slot, first_missing, named_by, named_of}
use Rattle.playback.proofs.Failing.{within_first, checks_numbered}
use Rattle.playback.proofs.Positions.{unwrap_or-position}

-- a refusal of a start that is none of these has no place
without_place : (why : Refusal) → (why ≡ NotEnabled → ⊥) → (why ≡ NameDiffers → ⊥) → (why ≡ LabelDiffers → ⊥) → (why ≡ NotInPool → ⊥) → (why ≡ NotReady → ⊥)
    → refusal_number why ≤ 12 → refusal_number why < 8
without_place TooShort a b c d e h = omega arith
without_place WrongState a b c d e h = omega arith
without_place WrongSlot a b c d e h = omega arith
without_place WrongValue a b c d e h = omega arith
without_place NotExpected a b c d e h = omega arith
without_place PoolRefused a b c d e h = omega arith
without_place NoStep a b c d e h = omega arith
without_place NotEnabled a b c d e h = absurd (a refl)
without_place NameDiffers a b c d e h = absurd (b refl)
without_place LabelDiffers a b c d e h = absurd (c refl)
without_place NotInPool a b c d e h = absurd (d refl)
without_place NotReady a b c d e h = absurd (e refl)
without_place NotDisabled a b c d e h = absurd (omega (arith, h))
without_place NoneEnabled a b c d e h = absurd (omega (arith, h))
without_place NoMatch a b c d e h = absurd (omega (arith, h))
without_place CheckWrong a b c d e h = absurd (omega (arith, h))
without_place NotStored a b c d e h = absurd (omega (arith, h))

client_number : (why : Refusal) → (why ≡ NotEnabled) ⊎ ((why ≡ NameDiffers) ⊎ (why ≡ LabelDiffers)) → (8 ≤ refusal_number why) × (refusal_number why ≤ 10)
client_number why (inl e) = rw e (omega arith, omega arith)
client_number why (inr (inl e)) = rw e (omega arith, omega arith)
client_number why (inr (inr e)) = rw e (omega arith, omega arith)

module _ (slots : List Client) (q : Sequence) where
  -- the lowest slot, and the first step, by their places
  pub lowest_is : (checks : Client × ClientRecord → List Check) (found : Option ℕ) → found ≡ position (fails checks) (pairs slots q.records)
      → unwrap_or found 8 ≡ lowest_slot checks slots q.records
  unfolding lowest_slot
  lowest_is checks found e = rw e (unwrap_or-position (fails checks) 8 (pairs slots q.records))

  pub missing_is : (l : List Step) (found : Option ℕ) → l ≡ steps_of q → found ≡ position (λ s. not (is_in_pool slots s)) l
      → unwrap_or found 64 ≡ first_missing slots (steps_of q)
  unfolding first_missing
  missing_is l found e f = rw (f, e) (unwrap_or-position (λ s. not (is_in_pool slots s)) 64 (steps_of q))

  pub names_step : (step slot : ℕ) → 11 ≡ verify_of slots q → step ≡ first_missing slots (steps_of q) → slot ≡ (get_or q.steps step blank_step).slot
      → ◌≡◌ {A = Named} (record { number = 11; slot = slot; step = step }) (named_of slots q)
  unfolding pick named_of named_by
  names_step step slot e f g = rw (g, f, ← e)

  pub names_unready : (slot : ℕ) → 12 ≡ verify_of slots q → slot ≡ lowest_slot ready_checks slots q.records
      → ◌≡◌ {A = Named} (record { number = 12; slot = slot; step = 0 }) (named_of slots q)
  unfolding pick named_of named_by
  names_unready slot e g = rw (g, ← e)

  module _ (v : ℕ) (e : v ≡ verify_of slots q) where
    names_client : (slot : ℕ) → 8 ≤ v → v ≤ 10 → slot ≡ lowest_slot (client_checks (rule_of q.edition)) slots q.records
        → ◌≡◌ {A = Named} (record { number = v; slot = slot; step = 0 }) (named_of slots q)
    unfolding pick named_of named_by
    names_client slot h k g = rw (g, ← e, ne_eqb v 11 (λ z. omega arith), ne_eqb v 12 (λ z. omega arith), le-leb 8 v h)

    pub names_none : v < 8 → ◌≡◌ {A = Named} (record { number = v; slot = 0; step = 0 }) (named_of slots q)
    unfolding pick named_of named_by
    names_none h = rw (← e, ne_eqb v 11 (λ z. omega arith), ne_eqb v 12 (λ z. omega arith), lt-leb 8 v h)

  pub names_failing : (why : Refusal) (slot : ℕ) → refusal_number why ≡ verify_of slots q → (why ≡ NotEnabled) ⊎ ((why ≡ NameDiffers) ⊎ (why ≡ LabelDiffers))
      → slot ≡ lowest_slot (client_checks (rule_of q.edition)) slots q.records
      → ◌≡◌ {A = Named} (record { number = refusal_number why; slot = slot; step = 0 }) (named_of slots q)
  names_failing why slot e i g = let k = client_number why i in names_client (refusal_number why) e slot k.0 k.1 g

  pub names_other : (why : Refusal) → refusal_number why ≡ verify_of slots q
      → (why ≡ NotEnabled → ⊥) → (why ≡ NameDiffers → ⊥) → (why ≡ LabelDiffers → ⊥) → (why ≡ NotInPool → ⊥) → (why ≡ NotReady → ⊥)
      → ◌≡◌ {A = Named} (record { number = refusal_number why; slot = 0; step = 0 }) (named_of slots q)
  unfolding verify_by
  names_other why e a b c d f = names_none (refusal_number why) e (without_place why a b c d f (bounded (within_first 7 12 (checks_of q.edition slots q) (checks_numbered (rule_of q.edition) slots q))))
    where
      bounded : (verify_of slots q ≡ 0) ⊎ ((7 ≤ verify_of slots q) × (verify_of slots q ≤ 12)) → refusal_number why ≤ 12
      bounded (inl z) = omega arith
      bounded (inr z) = let k = z.1 in omega arith
