-- Nobody loses by edition 1's rule of 9, and who gains: by the law of two rules, one of which takes what the other takes.
use Prim.Native.Nat.{ℕ, ◌^◌, ◌<◌}
use mathlib.Core.Path.{◌≡◌, refl, sym, ap, ◌∙◌}
use mathlib.Core.Bool.{Bool, true, false, ◌&&◌, true≢false, and-false}
use mathlib.Core.Logic.{inl, inr}
use native.Mathlib.Omega.{arith}
use lib.Bits.{bit_and}
use lib.Dec.{eqb}
use borrow.Author.Tests.{eq-eqb, ne_eqb, eqb-true, eqb-false}
use Rattle.octets.specs.Pick.{pick}
use Rattle.octets.specs.Numbers.{completed, name_differs}
use Rattle.octets.proofs.Tests.{pick_false}
use Rattle.client.specs.Records.{is_used}
use Rattle.client.specs.declared.Client.{Client}
use Rattle.client.specs.declared.ClientRecord.{ClientRecord}
use Rattle.recording.proofs.Steps.{both}
use Rattle.playback.specs.Pairs.{pairs}
use Rattle.playback.specs.Verification.{agree_under, both_own, masters_agree, names_agree, rule_of, verify_by}
use Rattle.playback.proofs.Agrees.{agrees, bits, is_own, rule_first, rule_parts}
use Rattle.master.specs.declared.Master.{Master}
use Rattle.master.specs.Call.{slot_at}
use Rattle.master.specs.States as state
use Rattle.events.specs.Events.{start, apply, Given, record_at}
use Rattle.events.specs.Neighbour.{in_all_bits, number_before, Neighbour, Gains, Neighbours}
use Rattle.events.proofs.Starts.{ready_number, start_exactly}
use Rattle.events.proofs.Playable.{client_holds, client_at_lem}
use Rattle.events.proofs.Rules.{Either, parting, either}

-- ---- the two rules

module _ (s : Client) (c : ClientRecord) where
  abbrev mask : ℕ
  mask = s.profile.mask

  -- it takes what 01's took
  takes : in_all_bits s c ≡ true → names_agree s c ≡ true
  unfolding pick
  takes e = let p = both (agree_under mask s.name c.name) _ e in rw p.0 (go (both_own s c) p.1)
    where
      go : (own : Bool) → eqb s.profile.master c.master ≡ true → masters_agree own mask s.profile.master c.master ≡ true
      go true m = eq-eqb _ _ (ap (λ (n : ℕ). bit_and n mask) (eqb-true s.profile.master c.master m))
      go false m = m

  kind : in_all_bits s c ≡ false → names_agree s c ≡ true → Neighbour s c
  kind h e = go (both_own s c) refl
    where
      here : (agree_under mask s.name c.name ≡ true) × (masters_agree (both_own s c) mask s.profile.master c.master ≡ true)
      here = both _ _ e

      differ : eqb s.profile.master c.master ≡ false
      differ = sym (ap (λ (b : Bool). b && eqb s.profile.master c.master) here.0) ∙ h

      go : (own : Bool) → both_own s c ≡ own → Neighbour s c
      go true o =
          let b = is_own s c o in
          record {
            own = b;
            another = λ n. eqb-false _ _ differ (b.1 ∙ n ∙ sym b.0);
            alike = bits mask s.name c.name here.0;
          }
      go false o = absurd (true≢false (sym (sym (pick_false (both_own s c) _ _ o) ∙ here.1) ∙ differ))

  each : mask < 2 ^ 64 → Neighbour s c → (in_all_bits s c ≡ false) × (names_agree s c ≡ true)
  each l n =
      let o = n.own in (
        ap (λ (b : Bool). agree_under mask s.name c.name && b) (ne_eqb _ _ (λ e. n.another (sym o.1 ∙ e ∙ o.0))) ∙ and-false (agree_under mask s.name c.name),
        sym (rule_first s c)
            ∙ agrees.names_only 1 s c l
            (record { bits = n.alike; masked = λ o. rw (o.0, o.1) n.alike; otherwise = λ h. absurd (h o); identity = λ z. absurd (omega arith) }),
      )

-- ---- a start

module _ (m : Master) where
  abbrev Compared : Type 0
  Compared = Either in_all_bits (rule_of 1) (number_before m) (verify_by 1 m.slots m.sequence) (pairs m.slots m.sequence.records)

  compared : Compared
  unfolding verify_by
  compared = either in_all_bits (rule_of 1) (λ s c e. rule_first s c ∙ takes s c e) m.slots m.sequence

  first_number : m.state ≡ state.ready → m.sequence.edition ≡ 1 → (apply m start).number ≡ verify_by 1 m.slots m.sequence
  first_number s e = ready_number m s ∙ ap (λ (n : ℕ). verify_by n m.slots m.sequence) e

  nobody_loses : m.state ≡ state.ready → m.sequence.edition ≡ 1 → (number_before m ≡ name_differs → ⊥) → (apply m start).number ≡ number_before m
  nobody_loses s o h = go compared
    where
      go : Compared → (apply m start).number ≡ number_before m
      go (inl e) = first_number s o ∙ sym e
      go (inr (e, _)) = absurd (h e)

  who_gains : Given m → m.state ≡ state.ready → m.sequence.edition ≡ 1 → ((apply m start).number ≡ number_before m → ⊥) → (number_before m ≡ name_differs) × Gains m
  who_gains g s o h = go compared
    where
      go : Compared → (number_before m ≡ name_differs) × Gains m
      go (inl e) = absurd (h (first_number s o ∙ sym e))
      go (inr (e, p)) =
          let (slot, k, (u, n, w)) = parting in_all_bits (rule_of 1) m g p in
          (e, record { slot = slot; one_of_eight = k; of_sequence = u; neighbour = kind (slot_at m slot) (record_at m slot) n (rule_parts 1 (slot_at m slot) (record_at m slot) w).0 })

  no_other :
      Given m → (apply m start).number ≡ completed → (slot : ℕ) → slot < 8 → is_used (record_at m slot) ≡ true
      → in_all_bits (slot_at m slot) (record_at m slot) ≡ false → Neighbour (slot_at m slot) (record_at m slot)
  no_other g e slot k u h =
      let n : ℕ = m.sequence.edition in
      let c = client_holds (rule_of n) (slot_at m slot) (record_at m slot) u (client_at_lem (rule_of n) m g (start_exactly.only m e).1 slot k) in
      kind (slot_at m slot) (record_at m slot) h (rule_parts n (slot_at m slot) (record_at m slot) c.1).0

pub neighbours : Neighbours
neighbours = record { nobody_loses = nobody_loses; who_gains = who_gains; no_other = no_other; each = each }
