-- A start goes by the sequence's edition; edition 2 takes no client that edition 1 refuses, and refuses by 9 whoever has another identity number: by the
-- law of two rules, one of which takes what the other takes.
use Prim.Native.Nat.{ℕ, ◌<◌}
use mathlib.Core.Path.{◌≡◌, refl, sym, ◌∙◌}
use mathlib.Core.Bool.{true, true≢false}
use mathlib.Core.Logic.{inl, inr}
use native.Mathlib.Omega.{arith}
use borrow.Author.Tests.{eqb-true, not-false}
use Rattle.octets.specs.Numbers.{completed, name_differs}
use Rattle.client.specs.Records.{is_used}
use Rattle.sequence.specs.{Sequence.steps_of, Editions.with_edition}
use Rattle.playback.specs.Pairs.{pairs}
use Rattle.playback.specs.Verification.{rule_of, checks_by, verify_by}
use Rattle.playback.proofs.Agrees.{rule_parts, rule_whole, rule_takes}
use Rattle.playback.proofs.Verifies.{verifies}
use Rattle.master.specs.declared.Master.{Master}
use Rattle.master.specs.Call.{slot_at}
use Rattle.master.specs.States as state
use Rattle.master.specs.States.{with_sequence}
use Rattle.master.specs.Editions.{edition_call}
use Rattle.master.proofs.Calls.{passed}
use Rattle.events.specs.Events.{start, edition, apply, Given, record_at}
use Rattle.events.specs.Editions.{number_in, SameIdentity, Another, TwoRules}
use Rattle.events.proofs.Calls.{number_is, after_is}
use Rattle.events.proofs.Starts.{ready_number}
use Rattle.events.proofs.Playable.{client_holds, client_at_lem}
use Rattle.events.proofs.Rules.{Either, parting, either}

module _ (m : Master) where
  -- ---- an edition is set

  -- the checks of an edition are the same, whatever edition the sequence has
  same_checks : (n : ℕ) → verify_by n m.slots (with_edition m.sequence n) ≡ number_in n m
  unfolding verify_by checks_by steps_of
  same_checks n = refl

  set_in : (n : ℕ) → (apply m (edition n)).number ≡ completed → m.state ≡ state.ready
  unfolding edition_call
  set_in n e = eqb-true _ _ (not-false _ (passed _ _ _ _ _ (sym (number_is m (edition_call m n)) ∙ e)).allowed)

  set_to : (n : ℕ) → (apply m (edition n)).number ≡ completed → (apply m (edition n)).master ≡ with_sequence m (with_edition m.sequence n)
  unfolding edition_call
  set_to n e = after_is m (edition_call m n) e

  set : (n : ℕ) → (apply m (edition n)).number ≡ completed → (apply (apply m (edition n)).master start).number ≡ number_in n m
  set n e = rw (set_to n e) (ready_number (with_sequence m (with_edition m.sequence n)) (set_in n e) ∙ same_checks n)

  -- ---- the two rules

  abbrev Compared : Type 0
  Compared = Either (rule_of 2) (rule_of 1) (number_in 2 m) (number_in 1 m) (pairs m.slots m.sequence.records)

  compared : Compared
  unfolding verify_by
  compared = either (rule_of 2) (rule_of 1) (rule_takes 2) m.slots m.sequence

  passes : number_in 2 m ≡ completed → number_in 1 m ≡ completed
  passes h = go compared
    where
      go : Compared → number_in 1 m ≡ completed
      go (inl e) = sym e ∙ h
      go (inr (e, _)) = absurd (omega (arith, e, h))

  who_loses : Given m → (number_in 2 m ≡ number_in 1 m → ⊥) → (number_in 2 m ≡ name_differs) × Another m
  who_loses g h = go compared
    where
      go : Compared → (number_in 2 m ≡ name_differs) × Another m
      go (inl e) = absurd (h e)
      go (inr (e, p)) =
          let (slot, k, (u, n, w)) = parting (rule_of 2) (rule_of 1) m g p in
          let names = (rule_parts 1 (slot_at m slot) (record_at m slot) w).0 in (
            e,
            record {
              slot = slot;
              one_of_eight = k;
              of_sequence = u;
              differs = λ i. true≢false (sym (rule_whole 2 (slot_at m slot) (record_at m slot) names (λ _. i)) ∙ n);
            },
          )

  same_drill : Given m → number_in 2 m ≡ completed → (slot : ℕ) → slot < 8 → is_used (record_at m slot) ≡ true → SameIdentity m slot
  same_drill g h slot k u =
      let c = client_at_lem (rule_of 2) m g (verifies.only 2 m.slots m.sequence h) slot k in
      (rule_parts 2 (slot_at m slot) (record_at m slot) (client_holds (rule_of 2) (slot_at m slot) (record_at m slot) u c).1).1 refl

  other_drill : Given m → number_in 1 m ≡ completed → Another m → number_in 2 m ≡ name_differs
  other_drill g h a = go compared
    where
      go : Compared → number_in 2 m ≡ name_differs
      go (inl e) = absurd (a.differs (same_drill g (e ∙ h) a.slot a.one_of_eight a.of_sequence))
      go (inr (e, _)) = e

pub two_rules : TwoRules
two_rules = record { by_edition = ready_number; set = set; passes = passes; who_loses = who_loses; same_drill = same_drill; other_drill = other_drill }
