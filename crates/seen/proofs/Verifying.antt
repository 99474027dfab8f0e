-- The number of a start's verification, check by check.
use Prim.Native.Nat.{ℕ, zero, suc, ◌+◌, ◌≤◌, ◌<◌}
use mathlib.Core.Path.{◌≡◌, refl, sym, ap, subst, ◌∙◌}
use mathlib.Core.Bool.{Bool, true, false, not, ◌&&◌, ◌||◌, true≢false}
use mathlib.Core.List.{List, [], ◌∷◌, ◌++◌, flat_map}
use native.Mathlib.Omega.{arith}
use lib.Dec.{eqb}
use lib.ListN.{length, get_or, take, drop, length-take, drop_of_length-le}
use lib.Seq.{take-length, drop-cons, get_or-take}
use Rattle.octets.specs.Pick.{pick}
use Rattle.octets.specs.declared.label.Label.{Label}
use Rattle.arrays.specs.Arrays.{some}
use Rattle.arrays.proofs.Every.{every_at}
use Rattle.arrays.proofs.Pad.{any_default}
use Rattle.profile.specs.Profile.{trigger}
use Rattle.client.specs.Clients.{no_slot, blank_slot}
use Rattle.client.specs.Records.{is_used, blank_record}
use Rattle.client.specs.declared.Client.{Client}
use Rattle.client.specs.declared.ClientRecord.{ClientRecord}
use Rattle.sequence.specs.Sequence.{blank_step, steps_of}
use Rattle.sequence.specs.declared.Step.{Step}
use Rattle.sequence.specs.declared.Sequence.{Sequence}
use Rattle.sequence.specs.Sound.{is_of, SoundSequence}
use Rattle.playback.specs.Pairs.{pairs}
use Rattle.playback.specs.Verification.{Check, Rule, first_failing, rule_of, same_label, labels_agree, is_listed, is_in_pool, of_sequence, client_checks, step_checks, ready_checks, checks_by, checks_of, verify_by, verify_of}
use Rattle.playback.proofs.Agrees.{rule_parts, rule_whole, agrees}
use Rattle.playback.proofs.Verifies.{verifies}
use Rattle.master.specs.declared.Master.{Master}
use Rattle.master.specs.Call.{slot_at}
use Rattle.events.specs.Events.{Given, record_at}
use Rattle.events.proofs.Choices.{is_true}
use Rattle.events.proofs.Regular.{length_steps, given_regular}
use Rattle.events.proofs.Playable.{given_eight, eight_pairs, pair_at}
use Rattle.seen.specs.Numbers.{Not, step_of, Uses, SameName, SameLabels, slot_checks, slots_from, Listed, SomeUnlisted, SomeIdle, verification}
use Rattle.seen.proofs.Tests.{some_at, none_at}
use Rattle.seen.proofs.Says.{Says, equal, below, negated, both_say, where_says, same_words, three_say, Tells, done, first, enabled}

-- ---- checks, and a number for where all hold

abbrev fails : List Check → ℕ → ℕ
fails [] c = c
fails (x ∷ l) c = pick x.0 (fails l c) x.1

failing_is : (l : List Check) → first_failing l ≡ fails l 0
unfolding first_failing
failing_is [] = refl
failing_is (x ∷ l) = ap (λ (n : ℕ). pick x.0 n x.1) (failing_is l)

fails_append : (a b : List Check) (c : ℕ) → fails (a ++ b) c ≡ fails a (fails b c)
fails_append [] b c = refl
fails_append (x ∷ a) b c = ap (λ (n : ℕ). pick x.0 n x.1) (fails_append a b c)

-- "8, 9 and 10" of a slot, if it is one of the sequence
three_fail :
    (u a b c : Bool) (d : ℕ)
    → pick (u && not a) 8 (pick (u && not b) 9 (pick (u && not c) 10 d)) ≡ fails (pick u ((a, 8) ∷ (b, 9) ∷ (c, 10) ∷ []) []) d
unfolding pick
three_fail false a b c d = refl
three_fail true false b c d = refl
three_fail true true false c d = refl
three_fail true true true false d = refl
three_fail true true true true d = refl

-- checks of one number, for each element of a list
same_fail :
    {X : Type 0} (f : X → List Check) (p : X → Bool) (k : ℕ) → ((x : X) (d : ℕ) → fails (f x) d ≡ pick (p x) k d)
    → (l : List X) (d : ℕ) → fails (flat_map f l) d ≡ pick (some p l) k d
unfolding pick flat_map
same_fail f p k h [] d = refl
same_fail f p k h (x ∷ l) d = fails_append (f x) (flat_map f l) d ∙ h x _ ∙ ap (pick (p x) k) (same_fail f p k h l d) ∙ go (p x)
  where
    go : (b : Bool) → pick b k (pick (some p l) k d) ≡ pick (b || some p l) k d
    go true = refl
    go false = refl

-- ---- one of a list passes a test

among :
    {X : Type 0} (p : X → Bool) (W : ℕ → Type 0) (l : List X) (n : ℕ) (d : X) → n ≤ length l → ((i : ℕ) → i < n → Says (p (get_or l i d)) (W i))
    → Says (some p (take n l)) ((i : ℕ) × ((i < n) × W i))
among p W l n d few says = (
  λ e. let (i, b, t) = some_at p l n d e in (i, (b, (says i b).0 t)),
  λ (i, (b, w)). is_true _ (λ f. true≢false (sym ((says i b).1 w) ∙ none_at p l n d few f i b)),
)

module _ (m : Master) (g : Given m) where
  abbrev q : Sequence
  q = m.sequence

  sound : SoundSequence q
  sound = (given_regular m g).sequence

  few : q.count ≤ length q.steps
  few = omega (arith, length_steps q sound, sound.few)

  within : (i : ℕ) → i < q.count → (step_of m i).slot < 8
  unfolding steps_of
  within i l =
      subst (λ (s : Step). s.slot < 8) (get_or-take q.count q.steps i blank_step l)
      (every_at (λ (s : Step). s.slot < 8) (take q.count q.steps) i blank_step (omega (arith, l, few, length-take q.count q.steps)) sound.within)

  used : (slot : ℕ) → slot < 8 → Says (is_used (record_at m slot)) (Uses m slot)
  unfolding steps_of
  used slot l =
      subst (λ (b : Bool). Says b (Uses m slot)) (sym (sound.recorded slot l))
      (among (is_of slot) (λ i. (step_of m i).slot ≡ slot) q.steps q.count blank_step few (λ i _. equal (step_of m i).slot slot))

  -- ---- 8, 9 and 10

  labels : (a b : Label) → Says (same_label a b) (a ≡ b)
  labels a b = (
    λ e.
        let s = agrees.labels a b e in
        ap (λ (n : ℕ). record { length = n; bytes = a.bytes }) s.0 ∙ ap (λ (x : List ℕ). record { length = b.length; bytes = x }) s.1,
    λ e. agrees.labels_only a b (ap (λ (x : Label). x.length) e) (ap (λ (x : Label). x.bytes) e),
  )

  -- by the sequence's edition
  abbrev rule : Rule
  rule = rule_of q.edition

  names_say : (slot : ℕ) → Says (rule (slot_at m slot) (record_at m slot)) (SameName m slot)
  names_say slot =
      let s : Client = slot_at m slot in
      let c : ClientRecord = record_at m slot in
      let masks = both_say _ _ _ _ (equal _ _) (where_says _ _ _ _ _ _ (both_say _ _ _ _ (equal _ _) (equal _ _)) (equal _ _) (equal _ _)) in (
        λ e. let (names, identity) = rule_parts q.edition s c e in let (client, master) = masks.0 names in (client, master, identity),
        λ (client, master, identity). rule_whole q.edition s c (masks.1 (client, master)) identity,
      )

  labels_say : (slot : ℕ) → Says (labels_agree (slot_at m slot) (record_at m slot)) (SameLabels m slot)
  unfolding labels_agree
  labels_say slot = both_say _ _ _ _ (labels _ _) (labels _ _)

  slot_tells :
      (slot : ℕ) → slot < 8 → (d : ℕ) (rest : ℕ → Type 0) → Tells d rest
      → Tells (fails (client_checks rule (slot_at m slot, record_at m slot)) d) (slot_checks m slot rest)
  unfolding client_checks of_sequence
  slot_tells slot l d rest t =
      let u = used slot l in
      subst (λ (c : ℕ). Tells c (slot_checks m slot rest)) (three_fail _ _ _ _ d)
      (first _ _ 8 _ _ (both_say _ _ _ _ u (negated _ _ (enabled (slot_at m slot))))
      (λ _. first _ _ 9 _ _ (both_say _ _ _ _ u (negated _ _ (names_say slot)))
      (λ _. first _ _ 10 _ _ (both_say _ _ _ _ u (negated _ _ (labels_say slot))) (λ _. t))))

  abbrev clients : List (Client × ClientRecord)
  clients = pairs m.slots q.records

  slots_tell :
      (n slot : ℕ) → slot + n ≡ 8 → (d : ℕ) (rest : ℕ → Type 0) → Tells d rest
      → Tells (fails (flat_map (client_checks rule) (drop slot clients)) d) (slots_from m slot n rest)
  unfolding flat_map
  slots_tell zero slot e d rest t = rw (drop_of_length-le clients {i = slot} (omega (arith, e, eight_pairs m g))) t
  slots_tell (suc n) slot e d rest t =
      let l : slot < 8 = omega arith in
      let later = slots_tell n (suc slot) (omega arith) d rest t in
      rw (drop-cons clients slot (no_slot, blank_record) (omega (arith, l, eight_pairs m g)), pair_at m g slot l, fails_append (client_checks rule (slot_at m slot, record_at m slot)) (flat_map (client_checks rule) (drop (suc slot) clients)) d)
      (slot_tells slot l _ _ later)

  -- ---- 11

  listed : (i : ℕ) → i < q.count → Says (is_in_pool m.slots (step_of m i)) (Listed m (step_of m i))
  unfolding is_listed
  listed i l =
      let s : Step = step_of m i in
      let k = within i l in
      let here : get_or m.slots s.slot blank_slot ≡ slot_at m s.slot = any_default m.slots s.slot blank_slot no_slot (omega (arith, k, given_eight m g)) in
      let e = verifies.bound m.slots s k ∙ ap (λ (c : Client). is_listed c.profile s.function s.state) here in
      subst (λ (b : Bool). Says b (Listed m s)) (sym e)
      (three_say _ _ _ _ _ _ (below s.state 64) (negated _ _ (equal (trigger (slot_at m s.slot).profile s.function) 0)) (λ t. t, λ t. t))

  step_fail : (s : Step) (d : ℕ) → fails (step_checks m.slots s) d ≡ pick (not (is_in_pool m.slots s)) 11 d
  unfolding pick step_checks
  step_fail s d = go (is_in_pool m.slots s)
    where
      go : (b : Bool) → pick b d 11 ≡ pick (not b) 11 d
      go true = refl
      go false = refl

  unlisted : Says (some (λ (s : Step). not (is_in_pool m.slots s)) (steps_of q)) (SomeUnlisted m)
  unfolding steps_of
  unlisted =
      among (λ (s : Step). not (is_in_pool m.slots s)) (λ i. Not (Listed m (step_of m i))) q.steps q.count blank_step few (λ i l. negated _ _ (listed i l))

  -- ---- 12

  is_idle : Client × ClientRecord → Bool
  is_idle x = is_used x.1 && not (eqb x.0.report 1)

  ready_fail : (x : Client × ClientRecord) (d : ℕ) → fails (ready_checks x) d ≡ pick (is_idle x) 12 d
  unfolding pick ready_checks of_sequence is_idle
  ready_fail x d = go (is_used x.1) (eqb x.0.report 1)
    where
      go : (u b : Bool) → fails (pick u ((b, 12) ∷ []) []) d ≡ pick (u && not b) 12 d
      go true true = refl
      go true false = refl
      go false b = refl

  idle_at : (slot : ℕ) → slot < 8 → Says (is_idle (get_or clients slot (no_slot, blank_record))) (Uses m slot × Not ((slot_at m slot).report ≡ 1))
  unfolding is_idle
  idle_at slot l = rw (pair_at m g slot l) (both_say _ _ _ _ (used slot l) (negated _ _ (equal (slot_at m slot).report 1)))

  idle : Says (some is_idle clients) (SomeIdle m)
  idle =
      subst (λ (l : List (Client × ClientRecord)). Says (some is_idle l) (SomeIdle m)) (take-length clients)
      (same_words
      (among is_idle (λ slot. Uses m slot × Not ((slot_at m slot).report ≡ 1)) clients (length clients) (no_slot, blank_record) (omega arith)
      (λ slot l. idle_at slot (omega (arith, l, eight_pairs m g))))
      (λ (slot, (l, w)). (slot, w), λ (slot, w). (slot, (in_pairs slot w.0, w))))
    where
      in_pairs : (slot : ℕ) → Uses m slot → slot < length clients
      in_pairs slot (i, (l, e)) = omega (arith, within i l, e, eight_pairs m g)

  -- ---- all of them

  pub verified : Tells (verify_of m.slots q) (verification m)
  unfolding pick checks_by verify_by
  verified =
      subst (λ (c : ℕ). Tells c (verification m)) (sym is)
      (first _ _ 7 _ _ (equal q.count 0)
      (λ _. slots_tell 8 0 refl _ _ (first _ _ 11 _ _ unlisted (λ _. first _ _ 12 _ _ idle (λ _. done)))))
    where
      turned : (b : Bool) (c : ℕ) → pick (not b) c 7 ≡ pick b 7 c
      turned true c = refl
      turned false c = refl

      is : first_failing (checks_of q.edition m.slots q)
          ≡ pick (eqb q.count 0) 7
          (fails (flat_map (client_checks rule) clients) (pick (some (λ (s : Step). not (is_in_pool m.slots s)) (steps_of q)) 11 (pick (some is_idle clients) 12 0)))
      is =
          failing_is (checks_of q.edition m.slots q)
          ∙ turned (eqb q.count 0) _
          ∙ ap (pick (eqb q.count 0) 7)
          (fails_append (flat_map (client_checks rule) clients) _ 0
          ∙ ap (fails (flat_map (client_checks rule) clients))
          (fails_append (flat_map (step_checks m.slots) (steps_of q)) _ 0
          ∙ same_fail (step_checks m.slots) (λ (s : Step). not (is_in_pool m.slots s)) 11 step_fail (steps_of q) _
          ∙ ap (pick (some (λ (s : Step). not (is_in_pool m.slots s)) (steps_of q)) 11) (same_fail ready_checks is_idle 12 ready_fail clients 0)))
