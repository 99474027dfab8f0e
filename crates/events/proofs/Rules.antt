-- Two rules of 9, the second of which takes whatever the first takes: a start gets the same number by both, or it gets 9 by the first, and at a client of the
-- sequence the two part.
use Prim.Native.Nat.{ℕ, suc, ◌<◌}
use mathlib.Core.Path.{◌≡◌, refl, sym, ap, subst, ◌∙◌}
use mathlib.Core.Bool.{Bool, true, false, not, true≢false}
use mathlib.Core.Logic.{◌⊎◌, inl, inr}
use mathlib.Core.List.{List, [], ◌∷◌, ◌++◌, flat_map, append_assoc}
use native.Mathlib.Omega.{arith}
use lib.Dec.{eqb}
use lib.ListN.{length, get_or}
use Rattle.octets.specs.Pick.{pick}
use Rattle.octets.specs.Numbers.{no_step, not_enabled, name_differs, label_differs}
use Rattle.client.specs.Clients.{is_enabled, no_slot}
use Rattle.client.specs.Records.{is_used, blank_record}
use Rattle.client.specs.declared.Client.{Client}
use Rattle.client.specs.declared.ClientRecord.{ClientRecord}
use Rattle.sequence.specs.declared.Sequence.{Sequence}
use Rattle.playback.specs.Pairs.{pairs}
use Rattle.playback.specs.Verification.{Check, Rule, first_failing, labels_agree, of_sequence, client_checks, checks_by}
use Rattle.master.specs.{declared.Master.Master, Call.slot_at}
use Rattle.events.specs.Events.{Given, record_at}
use Rattle.events.proofs.Playable.{eight_pairs, pair_at}

-- ---- "8, 9 and 10" of a slot, if it is one of the sequence, by two rules, and the checks that follow

abbrev three : Bool → Bool → Bool → Bool → List Check
three u a b c = pick u ((a, not_enabled) ∷ (b, name_differs) ∷ (c, label_differs) ∷ []) []

-- one does not hold by both; or all hold by both; or they part at 9
abbrev Meets : (u a b b' c : Bool) → List Check → List Check → Type 0
Meets u a b b' c r r' =
    (first_failing (three u a b c ++ r) ≡ first_failing (three u a b' c ++ r'))
    ⊎ (((first_failing (three u a b c ++ r) ≡ first_failing r) × (first_failing (three u a b' c ++ r') ≡ first_failing r'))
    ⊎ ((first_failing (three u a b c ++ r) ≡ name_differs) × ((u ≡ true) × (b ≡ false) × (b' ≡ true))))

meets : (u a b b' c : Bool) (r r' : List Check) → (b ≡ true → b' ≡ true) → Meets u a b b' c r r'
unfolding pick first_failing
meets false a b b' c r r' h = inr (inl (refl, refl))
meets true false b b' c r r' h = inl refl
meets true true false false c r r' h = inl refl
meets true true false true c r r' h = inr (inr (refl, (refl, refl, refl)))
meets true true true false c r r' h = absurd (true≢false (sym (h refl)))
meets true true true true false r r' h = inl refl
meets true true true true true r r' h = inr (inl (refl, refl))

module _ (narrow wide : Rule) where
  -- a client of the sequence that the wide rule takes, and the narrow one does not
  abbrev pub Parts : Client × ClientRecord → Type 0
  Parts x = (is_used x.1 ≡ true) × (narrow x.0 x.1 ≡ false) × (wide x.0 x.1 ≡ true)

  abbrev PartsIn : List (Client × ClientRecord) → Type 0
  PartsIn l = (k : ℕ) × (k < length l) × Parts (get_or l k (no_slot, blank_record))

  -- two numbers, by the narrow rule and by the wide one: the same, or 9 by the narrow one, and a client at which the two part
  abbrev pub Either : ℕ → ℕ → List (Client × ClientRecord) → Type 0
  Either n w l = (n ≡ w) ⊎ ((n ≡ name_differs) × PartsIn l)

  abbrev MeetsAt : Client × ClientRecord → List Check → List Check → Type 0
  MeetsAt x r r' = Meets (is_used x.1) (is_enabled x.0) (narrow x.0 x.1) (wide x.0 x.1) (labels_agree x.0 x.1) r r'

  -- on a master that calls give the client is that of one of the eight slots
  pub parting :
      (m : Master) → Given m → PartsIn (pairs m.slots m.sequence.records)
      → (slot : ℕ) × (slot < 8) × Parts (slot_at m slot, record_at m slot)
  parting m g (slot, l, p) =
      let k : slot < 8 = omega (arith, l, eight_pairs m g) in
      (slot, k, subst Parts (pair_at m g slot k) p)

module _ (narrow wide : Rule) (takes : (s : Client) (c : ClientRecord) → narrow s c ≡ true → wide s c ≡ true) where
  here : (x : Client × ClientRecord) (r r' : List Check) → MeetsAt narrow wide x r r'
  here x r r' = meets _ _ _ _ _ r r' (takes x.0 x.1)

  by : Rule → List (Client × ClientRecord) → List Check → ℕ
  by agree l rest = first_failing (flat_map (client_checks agree) l ++ rest)

  clients : (l : List (Client × ClientRecord)) (rest : List Check) → Either narrow wide (by narrow l rest) (by wide l rest) l
  unfolding flat_map by of_sequence client_checks
  clients [] rest = inl refl
  clients (x ∷ l) rest = go (here x (flat_map (client_checks narrow) l ++ rest) (flat_map (client_checks wide) l ++ rest)) (clients l rest)
    where
      after : (agree : Rule) → by agree (x ∷ l) rest ≡ first_failing (client_checks agree x ++ (flat_map (client_checks agree) l ++ rest))
      after agree = ap first_failing (append_assoc (client_checks agree x) (flat_map (client_checks agree) l) rest)

      go : MeetsAt narrow wide x (flat_map (client_checks narrow) l ++ rest) (flat_map (client_checks wide) l ++ rest)
          → Either narrow wide (by narrow l rest) (by wide l rest) l → Either narrow wide (by narrow (x ∷ l) rest) (by wide (x ∷ l) rest) (x ∷ l)
      go (inl e) later = inl (after narrow ∙ e ∙ sym (after wide))
      go (inr (inl (n, w))) (inl e) = inl (after narrow ∙ n ∙ e ∙ sym (after wide ∙ w))
      go (inr (inl (n, w))) (inr (e, (k, l, p))) = inr (after narrow ∙ n ∙ e, (suc k, omega arith, p))
      go (inr (inr (n, p))) later = inr (after narrow ∙ n, (0, omega arith, p))

  pub either : (slots : List Client) (q : Sequence)
      → Either narrow wide (first_failing (checks_by narrow slots q)) (first_failing (checks_by wide slots q)) (pairs slots q.records)
  unfolding pick first_failing by checks_by
  either slots q = go (not (eqb q.count 0)) (clients (pairs slots q.records) _)
    where
      go : (b : Bool) {n w : ℕ} → Either narrow wide n w (pairs slots q.records) → Either narrow wide (pick b n no_step) (pick b w no_step) (pairs slots q.records)
      go true e = e
      go false e = inl refl
