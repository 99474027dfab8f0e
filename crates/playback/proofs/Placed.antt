-- The slot and the step that are named are those of the check.
use Prim.Native.Nat.{ℕ, ◌≤◌, ◌<◌}
use mathlib.Core.Path.{◌≡◌, refl, sym, ap, ◌∙◌}
use mathlib.Core.Bool.{Bool, true, false, not}
use mathlib.Core.Logic.{◌⊎◌, inl, inr}
use mathlib.Core.List.{List, ◌++◌, flat_map}
use native.Mathlib.Omega.{arith}
use lib.Dec.{eqb}
use lib.ListN.{length, get_or, length-take}
use lib.Seq.{get_or-take}
use borrow.Author.Tests.{ne_eqb, le-leb, lt-leb}
use Rattle.octets.specs.Pick.{pick}
use Rattle.arrays.proofs.First.{first_same}
use Rattle.client.specs.{Clients.blank_slot, Records.blank_record, declared.Client.Client, declared.ClientRecord.ClientRecord}
use Rattle.sequence.specs.{Sequence.blank_step, Sequence.length_of, Sequence.steps_of, declared.Step.Step, declared.Sequence.Sequence}
use Rattle.playback.specs.Pairs.{pairs}
use Rattle.playback.specs.Verification.{Check, Rule, first_failing, rule_of, is_in_pool, client_checks, step_checks, ready_checks, checks_by, verify_by, verify_of}
use Rattle.playback.specs.Named.{lowest_slot, first_missing, named_by, named_of}
use Rattle.playback.specs.Places.{Cells, LowestFails, FirstMissing, Places}
use Rattle.playback.proofs.Pairs.{length_pairs, get_d_pairs}
use Rattle.playback.proofs.Each.{first_fails}
use Rattle.playback.proofs.Failing.{Within, Numbered, clients, steps, reports, found, passed, within_all, within_wider, within_first, client_within, step_within, ready_within, client_numbered, step_numbered, ready_numbered}

-- ---- the checks of a start: which list decides

-- of three lists, by the numbers of their checks
abbrev Decided : List Check → List Check → List Check → ℕ → Type 0
Decided a b c v = ((v ≡ first_failing a) × (8 ≤ v) × (v ≤ 10)) ⊎ ((v ≡ first_failing b) × (v ≡ 11)) ⊎ ((v ≡ first_failing c) × ((v ≡ 0) ⊎ (v ≡ 12)))

decided : (a b c : List Check) → Within 8 10 a → Within 11 11 b → Within 12 12 c → Decided a b c (first_failing (a ++ (b ++ c)))
decided a b c x y z = by_first (within_first 8 10 a x)
  where
    last : (v : ℕ) → v ≡ first_failing c → (first_failing c ≡ 0) ⊎ ((12 ≤ first_failing c) × (first_failing c ≤ 12)) → (v ≡ 0) ⊎ (v ≡ 12)
    last v e (inl r) = inl (e ∙ r)
    last v e (inr r) = let h = r.0 in let k = r.1 in inr (omega arith)

    by_second : (v : ℕ) → v ≡ first_failing (b ++ c) → (first_failing b ≡ 0) ⊎ ((11 ≤ first_failing b) × (first_failing b ≤ 11)) → Decided a b c v
    by_second v e (inl r) = let k = e ∙ passed b c (within_wider 11 11 (omega arith) (omega arith) b y) r in inr (inr (k, last v k (within_first 12 12 c z)))
    by_second v e (inr r) = let h = r.0 in let l = r.1 in let k = e ∙ found b c (λ n. omega arith) in inr (inl (k, omega arith))

    by_first : (first_failing a ≡ 0) ⊎ ((8 ≤ first_failing a) × (first_failing a ≤ 10)) → Decided a b c (first_failing (a ++ (b ++ c)))
    by_first (inl r) = by_second _ (passed a (b ++ c) (within_wider 8 10 (omega arith) (omega arith) a x) r) (within_first 11 11 b y)
    by_first (inr r) = let h = r.0 in let l = r.1 in let k = found a (b ++ c) (λ n. omega arith) in inl (k, omega arith, omega arith)

module _ (slots : List Client) (q : Sequence) where
  -- the rule of its edition
  abbrev rule : Rule
  rule = rule_of q.edition

  -- what is known of the number
  abbrev Which : ℕ → Type 0
  Which v = (v ≡ 7) ⊎ Decided (clients rule slots q) (steps rule slots q) (reports rule slots q) v

  which : Which (verify_of slots q)
  unfolding pick first_failing checks_by verify_by
  which = go (eqb q.count 0)
    where
      go : (b : Bool) → Which (pick (not b) (first_failing (clients rule slots q ++ (steps rule slots q ++ reports rule slots q))) 7)
      go true = inl refl
      go false =
          inr (decided (clients rule slots q) (steps rule slots q) (reports rule slots q) (within_all 8 10 (client_checks rule) (client_within rule) (pairs slots q.records))
          (within_all 11 11 (step_checks slots) (step_within slots) (steps_of q)) (within_all 12 12 ready_checks ready_within (pairs slots q.records)))

  -- the slot that is named with 8, 9 and 10
  named_client : (v : ℕ) → 8 ≤ v → v ≤ 10 → (named_by v slots q).slot ≡ lowest_slot (client_checks rule) slots q.records
  unfolding pick named_by
  named_client v h k = rw (ne_eqb v 11 (λ e. omega arith), ne_eqb v 12 (λ e. omega arith), le-leb 8 v h)

  module _ (c : Cells slots q) where
    -- of checks by slot
    lowest_fails : (checks : Client × ClientRecord → List Check) → ((x : Client × ClientRecord) → Numbered (checks x)) → (v : ℕ)
        → v ≡ first_failing (flat_map checks (pairs slots q.records)) → (v ≡ 0 → ⊥) → LowestFails checks slots q.records (lowest_slot checks slots q.records) v
    unfolding lowest_slot
    lowest_fails checks numbered v e z =
        let f = first_fails checks numbered 8 (pairs slots q.records) (blank_slot, blank_record) (λ k. z (e ∙ k)) in
        let n = length_pairs slots q.records 8 c.in_slots c.in_records in
        record {
          one = omega (arith, f.0);
          gives = ap (λ (x : Client × ClientRecord). first_failing (checks x)) (sym (at _ (omega (arith, f.0)))) ∙ f.1 ∙ sym e;
          lower = λ i h. ap (λ (x : Client × ClientRecord). first_failing (checks x)) (sym (at i (omega (arith, f.0)))) ∙ f.2 i h;
        }
      where
        at : (i : ℕ) → i < 8 → get_or (pairs slots q.records) i (blank_slot, blank_record) ≡ (get_or slots i blank_slot, get_or q.records i blank_record)
        at i h = get_d_pairs slots q.records i blank_slot blank_record (omega (arith, c.in_slots)) (omega (arith, c.in_records))

    client : 8 ≤ verify_of slots q → verify_of slots q ≤ 10
        → LowestFails (client_checks rule) slots q.records (named_of slots q).slot (verify_of slots q)
    unfolding named_of
    client h k = rw (named_client (verify_of slots q) h k) (go which)
      where
        go : Which (verify_of slots q)
            → LowestFails (client_checks rule) slots q.records (lowest_slot (client_checks rule) slots q.records) (verify_of slots q)
        go (inl e) = absurd (omega arith)
        go (inr (inl (e, f, k))) = lowest_fails (client_checks rule) (client_numbered rule) (verify_of slots q) e (λ z. omega arith)
        go (inr (inr (inl (e, f)))) = absurd (omega arith)
        go (inr (inr (inr (e, inl f)))) = absurd (omega arith)
        go (inr (inr (inr (e, inr f)))) = absurd (omega arith)

    report : verify_of slots q ≡ 12 → LowestFails ready_checks slots q.records (named_of slots q).slot 12
    unfolding pick named_of named_by
    report v = rw v (go which)
      where
        go : Which (verify_of slots q) → LowestFails ready_checks slots q.records (lowest_slot ready_checks slots q.records) 12
        go (inl e) = absurd (omega arith)
        go (inr (inl (e, f, k))) = absurd (omega arith)
        go (inr (inr (inl (e, f)))) = absurd (omega arith)
        go (inr (inr (inr (e, _)))) = lowest_fails ready_checks ready_numbered 12 (sym v ∙ e) (λ z. omega arith)

    how_many : length (steps_of q) ≡ length_of q
    unfolding steps_of
    how_many = let n = c.in_steps in simp length-take (omega arith)

    at_step : (i : ℕ) → i < length_of q → get_or (steps_of q) i blank_step ≡ get_or q.steps i blank_step
    unfolding steps_of
    at_step i h = get_or-take q.count q.steps i blank_step (omega arith)

    asked : (s : Step) → not (is_in_pool slots s) ≡ not (eqb (first_failing (step_checks slots s)) 0)
    unfolding pick first_failing step_checks
    asked s = go (is_in_pool slots s)
      where
        go : (b : Bool) → not b ≡ not (eqb (pick b 0 11) 0)
        go true = refl
        go false = refl

    -- what the check of a step gives says whether the step is in the pool
    in_pool : (s : Step) → first_failing (step_checks slots s) ≡ 0 → is_in_pool slots s ≡ true
    unfolding pick first_failing step_checks
    in_pool s e = go (is_in_pool slots s) e
      where
        go : (b : Bool) → ◌≡◌ {A = ℕ} (pick b 0 11) 0 → b ≡ true
        go true e = refl
        go false e = absurd (omega arith)

    not_in_pool : (s : Step) → first_failing (step_checks slots s) ≡ 11 → is_in_pool slots s ≡ false
    unfolding pick first_failing step_checks
    not_in_pool s e = go (is_in_pool slots s) e
      where
        go : (b : Bool) → ◌≡◌ {A = ℕ} (pick b 0 11) 11 → b ≡ false
        go true e = absurd (omega arith)
        go false e = refl

    missing : first_failing (steps rule slots q) ≡ 11
        → FirstMissing slots q (get_or q.steps (first_missing slots (steps_of q)) blank_step).slot (first_missing slots (steps_of q))
    unfolding first_missing
    missing e =
        rw (first_same 64 (λ s. not (is_in_pool slots s)) (λ s. not (eqb (first_failing (step_checks slots s)) 0)) asked 0 (steps_of q))
        (let f = first_fails (step_checks slots) (step_numbered slots) 64 (steps_of q) blank_step (λ z. omega arith) in
        let n = how_many in
        record {
          one = omega (arith, f.0);
          missing = ap (is_in_pool slots) (sym (at_step _ (omega (arith, f.0)))) ∙ not_in_pool _ (f.1 ∙ e);
          earlier = λ i h. ap (is_in_pool slots) (sym (at_step i (omega (arith, f.0)))) ∙ in_pool _ (f.2 i h);
          its_slot = refl;
        })

    step : verify_of slots q ≡ 11 → FirstMissing slots q (named_of slots q).slot (named_of slots q).step
    unfolding pick named_of named_by
    step v = rw v (go which)
      where
        go : Which (verify_of slots q)
            → FirstMissing slots q (get_or q.steps (first_missing slots (steps_of q)) blank_step).slot (first_missing slots (steps_of q))
        go (inl e) = absurd (omega arith)
        go (inr (inl (e, f, k))) = absurd (omega arith)
        go (inr (inr (inl (e, f)))) = missing (sym e ∙ v)
        go (inr (inr (inr (e, inl f)))) = absurd (omega arith)
        go (inr (inr (inr (e, inr f)))) = absurd (omega arith)

  number : (named_of slots q).number ≡ verify_of slots q
  unfolding named_of named_by
  number = refl

  without_step : (verify_of slots q ≡ 11 → ⊥) → (named_of slots q).step ≡ 0
  unfolding pick named_of named_by
  without_step h = rw (ne_eqb (verify_of slots q) 11 h)

  no_slot : verify_of slots q < 8 → (named_of slots q).slot ≡ 0
  unfolding pick named_of named_by
  no_slot h = rw (ne_eqb (verify_of slots q) 11 (λ e. omega arith), ne_eqb (verify_of slots q) 12 (λ e. omega arith), lt-leb 8 (verify_of slots q) h)

pub places : Places
unfolding named_of named_by
places = record { number = number; client = client; step = step; report = report; without_step = without_step; no_slot = no_slot }
