-- The words of the theorems, and the tests of the definitions that say the same.
use Prim.Native.Nat.{ℕ, zero, suc, ◌≤◌, ◌<◌}
use mathlib.Core.Path.{◌≡◌, refl, sym, ap, ◌∙◌}
use mathlib.Core.Bool.{Bool, true, false, true≢false}
use mathlib.Core.Logic.{◌⊎◌, inl, inr}
use mathlib.Core.List.{List, [], ◌∷◌}
use native.Mathlib.Omega.{arith}
use lib.Dec.{eqb, ltb}
use lib.ListN.{length, get_or, take, length-take}
use lib.Seq.{get_or-take}
use borrow.Author.Tests.{ne_eqb, eqb-true, eqb-false, not-true, not-false}
use Rattle.arrays.specs.Arrays.{some}
use Rattle.arrays.proofs.Every.{every_at, none_passes, neither, Found, first_is}
use Rattle.client.specs.Clients.{is_enabled, is_other, no_slot}
use Rattle.client.specs.declared.Client.{Client}
use Rattle.recording.proofs.Steps.{both}
use Rattle.master.specs.declared.Master.{Master}
use Rattle.master.specs.Call.{Call}
use Rattle.master.specs.States.{is_recording}
use Rattle.master.specs.Messages.{is_indication}
use Rattle.master.specs.Recording.{indication_call}
use Rattle.master.proofs.Calls.{Passed, passed}
use Rattle.events.specs.Events.{Event, indication, call_of}
use Rattle.events.proofs.Choices.{either, is_false}
use Rattle.events.proofs.Calls.{number_is}
use Rattle.events.proofs.Changes.{one_of}
use Rattle.seen.specs.Words.{Done, Enabled, InRecording}

-- a call that gives 0 passes its tests
pub passed_by : (m : Master) (e : Event) → Done m e →
    let c : Call = call_of m e in Passed (ltb (length c.lent) c.needs) c.wrong c.absent c.barred c.own
passed_by m e z = passed _ _ _ _ _ (sym (number_is m (call_of m e)) ∙ z)

pub is_indication_lem : (m : Master) (slot : ℕ) (msg out : List ℕ) → Done m (indication slot msg out) → is_indication msg ≡ true
unfolding indication_call
is_indication_lem m slot msg out z = not-false _ (passed_by m (indication slot msg out) z).right

-- ---- record and record complete

pub to_recording : (m : Master) → is_recording m ≡ true → InRecording m
to_recording m t = go (one_of _ _ t)
  where
    go : (eqb m.state 2 ≡ true) ⊎ (eqb m.state 3 ≡ true) → InRecording m
    go (inl e) = inl (eqb-true _ _ e)
    go (inr e) = inr (eqb-true _ _ e)

pub from_recording : (m : Master) → InRecording m → is_recording m ≡ true
from_recording m (inl e) = rw e
from_recording m (inr e) = rw e

-- ---- enabled clients

pub to_enabled : (s : Client) → is_enabled s ≡ true → Enabled s
to_enabled s t =
    let b = both _ _ t in
    let c = both _ _ b.0 in
    record { attached = eqb-false _ _ (not-true _ c.0); wanted = eqb-false _ _ (not-true _ c.1); awake = eqb-false _ _ (not-true _ b.1) }

pub from_enabled : (s : Client) → Enabled s → is_enabled s ≡ true
from_enabled s h = rw (ne_eqb _ _ h.attached, ne_eqb _ _ h.wanted, ne_eqb _ _ h.awake)

-- every enabled client's last report is this one
module _ (report : ℕ) where
  pub all_said : (l : List Client) → some (is_other report) l ≡ false → (i : ℕ) → Enabled (get_or l i no_slot) → (get_or l i no_slot).report ≡ report
  all_said [] h i n = absurd (n.attached refl)
  all_said (s ∷ l) h zero n =
      either (eqb s.report report) (λ t. eqb-true _ _ t)
      (λ f. absurd (true≢false (sym (rw (from_enabled s n, f)) ∙ (neither (is_other report s) _ h).0)))
  all_said (s ∷ l) h (suc i) n = all_said l (neither (is_other report s) _ h).1 i n

  pub none_other : (l : List Client) → ((i : ℕ) → Enabled (get_or l i no_slot) → (get_or l i no_slot).report ≡ report) → some (is_other report) l ≡ false
  none_other [] h = refl
  none_other (s ∷ l) h = rw (here, none_other l (λ i. h (suc i)))
    where
      here : is_other report s ≡ false
      here = is_false (is_other report s) (λ t.
          let b = both (is_enabled s) _ t in
          eqb-false _ _ (not-true _ b.1) (h zero (to_enabled s b.0)))

-- ---- one of the first n elements passes a test

module _ {X : Type 0} (p : X → Bool) (l : List X) (n : ℕ) (d : X) where
  pub some_at : some p (take n l) ≡ true → (i : ℕ) × (i < n) × (p (get_or l i d) ≡ true)
  some_at h = go (first_is p n 0 (take n l) d)
    where
      go : Found p n 0 (take n l) d → (i : ℕ) × (i < n) × (p (get_or l i d) ≡ true)
      go (inl (_, f)) = absurd (true≢false (sym h ∙ f))
      go (inr (k, _, l', t)) =
          let few : k < n = omega (arith, l', length-take n l) in
          (k, few, ap p (sym (get_or-take n l k d few)) ∙ t)

  pub none_at : n ≤ length l → some p (take n l) ≡ false → (i : ℕ) → i < n → p (get_or l i d) ≡ false
  none_at few h i k =
      ap p (sym (get_or-take n l i d k))
      ∙ every_at (λ (x : X). p x ≡ false) (take n l) i d (omega (arith, few, k, length-take n l)) (none_passes p (take n l) h)
