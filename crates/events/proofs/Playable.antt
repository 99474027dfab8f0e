-- In playback each step of the sequence is one of an enabled client: the checks of the start say so, and what ends that ends the playback.
use Prim.Native.Nat.{ℕ, ◌<◌}
use mathlib.Core.Path.{◌≡◌, refl, sym, ap, subst, ◌∙◌}
use mathlib.Core.Bool.{true, false, not, ◌&&◌, true≢false, and-false}
use mathlib.Core.List.{List}
use native.Mathlib.Omega.{arith}
use lib.Dec.{eqb}
use lib.ListN.{length, get_or, take, length-set, length-take}
use lib.Seq.{get_or-take, get_or-set_same, get_or-set_other}
use borrow.Author.Tests.{eq-eqb, ne_eqb, eqb-true, eqb-false, not-false}
use Rattle.octets.specs.Pick.{pick}
use Rattle.octets.proofs.Tests.{pick_true, pick_false}
use Rattle.arrays.specs.Arrays.{some}
use Rattle.arrays.proofs.Every.{every_at, none_passes}
use Rattle.client.specs.Clients.{is_taken, is_wanted, is_enabled, no_slot, blank_slot, with_report}
use Rattle.client.specs.Records.{is_used, blank_record}
use Rattle.client.specs.declared.Client.{Client}
use Rattle.client.specs.declared.ClientRecord.{ClientRecord}
use Rattle.sequence.specs.Sequence.{blank_step, steps_of}
use Rattle.sequence.specs.declared.Step.{Step}
use Rattle.sequence.specs.declared.Sequence.{Sequence}
use Rattle.sequence.specs.Sound.{is_of, SoundSequence}
use Rattle.recording.proofs.Steps.{both}
use Rattle.playback.specs.Pairs.{pairs}
use Rattle.playback.specs.Verification.{Rule, rule_of, labels_agree, of_sequence, client_checks, step_checks, checks_by}
use Rattle.playback.specs.Promises.{EveryHolds}
use Rattle.playback.proofs.Pairs.{length_pairs, get_d_pairs}
use Rattle.playback.proofs.Holding.{clients_hold, steps_hold, step_listed}
use Rattle.master.specs.declared.Master.{Master}
use Rattle.master.specs.Call.{number_of, slot_at}
use Rattle.master.specs.States.{is_ready, is_playing, new_master, with_slot, ended, settled}
use Rattle.master.specs.Clients as clients
use Rattle.master.specs.Clients.{is_over, end_of, followed, report_from, reported_slot, reported, on_call, off_call, attach_call, want_call, report_call, lost_call}
use Rattle.master.specs.Recording.{Hearing, recording_ended, record_call, stop_call, cancel_call, interrupted, heard, indication_call}
use Rattle.master.specs.Playback.{start_call, abort_call, client_abort_call, answered, replied, answer_call}
use Rattle.master.specs.Tick.{playback_ticked, ticked, tick_call}
use Rattle.master.specs.{Storing.store_call, Storing.load_call, Editions.edition_call}
use Rattle.master.specs.Messages.{execution_in}
use Rattle.master.proofs.Calls.{passed, below}
use Rattle.events.specs.Events.{Event, on, off, «record», stop, cancel, start, abort, attach, enable, disable, report, lost, indication, client_abort, tick, answer, store, load, edition, call_of, Given, record_at}
use Rattle.events.proofs.Choices.{chosen, chosen_by, either}
use Rattle.events.proofs.Changes.{Near, itself, slotted, Change, rested, moved, dropped, broken, record_starts, record_waits, record_ends, record_hears, record_hears_last, record_ticks, play_starts, play_ticks, play_ticks_last, play_hears, play_hears_last, replaced, not_recording}
use Rattle.events.proofs.Invariant.{done_change, given_by, Invariant, always}
use Rattle.events.proofs.Calls.{number_is}
use Rattle.events.proofs.Starts.{start_exactly}
use Rattle.events.proofs.Regular.{length_steps, given_regular}

-- ---- what the checks of a client of the sequence say

-- "8 a client of the sequence is not enabled", "9 a NAME differs", "10 a label differs"
pub client_holds :
    (agree : Rule) (s : Client) (c : ClientRecord) → is_used c ≡ true → EveryHolds (client_checks agree (s, c))
    → (is_enabled s ≡ true) × (agree s c ≡ true) × (labels_agree s c ≡ true)
unfolding pick of_sequence client_checks
client_holds agree s c u h = let (e, (n, (l, _))) = subst EveryHolds (pick_true (is_used c) _ _ u) h in (e, n, l)

-- ---- eight slots

eight : Invariant (λ m. length m.slots ≡ 8)
unfolding ended recording_ended
eight = record {
  state = λ m s l h. h;
  slot = λ m i s h. length-set m.slots i s ∙ h;
  over = λ m s l h. h;
  stays = λ m h. h;
  begins = λ m h. h;
  hears = λ m i msg l h. h;
  counts = λ m mm l t h. h;
  starts = λ m h. h;
  ticks = λ m mm l e h. h;
  answers = λ m i msg h. h;
  replaces = λ m e q g r x h. h;
}

new_eight : length new_master.slots ≡ 8
unfolding new_master
new_eight = refl

pub given_eight : (m : Master) → Given m → length m.slots ≡ 8
given_eight = always (λ m. length m.slots ≡ 8) eight new_eight

-- the clients, loaded and stored
module _ (m : Master) (g : Given m) where
  records : length m.sequence.records ≡ 8
  records = (given_regular m g).sequence.slots

  pub eight_pairs : length (pairs m.slots m.sequence.records) ≡ 8
  eight_pairs = length_pairs m.slots m.sequence.records 8 (given_eight m g) records

  pub pair_at : (slot : ℕ) → slot < 8 → get_or (pairs m.slots m.sequence.records) slot (no_slot, blank_record) ≡ (slot_at m slot, record_at m slot)
  pair_at slot l =
      get_d_pairs m.slots m.sequence.records slot no_slot blank_record (omega (arith, l, given_eight m g)) (omega (arith, l, records))

-- ---- a step that can be played

-- the client of this slot is enabled
abbrev pub Enabled : Master → ℕ → Type 0
Enabled m slot = (slot < 8) × (is_enabled (slot_at m slot) ≡ true)

pub record Playable (m : Master) (s : Step) : Type 0 where
  pub client : Enabled m s.slot
  pub state : s.state < 64

-- in playback every step is so
abbrev pub AllPlayable : Master → Type 0
AllPlayable m = m.state ≡ 4 → (i : ℕ) → i < m.sequence.count → Playable m (get_or m.sequence.steps i blank_step)

-- ---- at the start

module _ (agree : Rule) (m : Master) (g : Given m) (c : EveryHolds (checks_by agree m.slots m.sequence)) where
  abbrev q : Sequence
  q = m.sequence

  sound : SoundSequence q
  sound = (given_regular m g).sequence

  -- a slot of which there is a step has a record
  used : (i : ℕ) → i < q.count → (get_or q.steps i blank_step).slot < 8 → is_used (record_at m (get_or q.steps i blank_step).slot) ≡ true
  unfolding steps_of
  used i l k =
      let s : Step = get_or q.steps i blank_step in
      let in_steps : i < length (take q.count q.steps) =
      omega (arith, l, length-take q.count q.steps, length_steps q sound, sound.few) in
      sound.recorded s.slot k
      ∙ either (some (is_of s.slot) (steps_of q)) (λ t. t)
      (λ f.
      let n = every_at (λ (x : Step). is_of s.slot x ≡ false) (steps_of q) i blank_step in_steps (none_passes (is_of s.slot) (steps_of q) f) in
      absurd (true≢false (sym (eq-eqb s.slot s.slot refl) ∙ ap (is_of s.slot) (sym (get_or-take q.count q.steps i blank_step l)) ∙ n)))

  pub client_at_lem : (slot : ℕ) → slot < 8 → EveryHolds (client_checks agree (slot_at m slot, record_at m slot))
  client_at_lem slot k =
      subst (λ (x : Client × ClientRecord). EveryHolds (client_checks agree x)) (pair_at m g slot k)
      (every_at (λ (x : Client × ClientRecord). EveryHolds (client_checks agree x)) (pairs m.slots q.records) slot (no_slot, blank_record)
      (omega (arith, k, eight_pairs m g)) (clients_hold agree m.slots q c))

  at_start : (i : ℕ) → i < q.count → Playable m (get_or q.steps i blank_step)
  unfolding steps_of
  at_start i l =
      let s : Step = get_or q.steps i blank_step in
      let in_steps : i < length (take q.count q.steps) =
      omega (arith, l, length-take q.count q.steps, length_steps q sound, sound.few) in
      let here = step_listed m.slots s
      (subst (λ (x : Step). EveryHolds (step_checks m.slots x)) (get_or-take q.count q.steps i blank_step l)
      (every_at (λ (x : Step). EveryHolds (step_checks m.slots x)) (steps_of q) i blank_step in_steps (steps_hold agree m.slots q c))) in
      let k : s.slot < 8 = here.0 in
      record {
        client = (k, (client_holds agree (slot_at m s.slot) _ (used i l k) (client_at_lem s.slot k)).0);
        state = here.1;
      }

-- ---- while the playback goes on

-- an enabled client that reports anything but disabled stays enabled
reported_stays : (s : Client) (said : ℕ) → is_enabled s ≡ true → (said ≡ 0 → ⊥) → is_enabled (reported_slot s said) ≡ true
unfolding reported_slot
reported_stays s said e h =
    let b = both (is_taken s && is_wanted s) (not (eqb s.report 0)) e in
    let f = ne_eqb said 0 h in
    ap is_enabled (pick_false (is_enabled s && eqb said 0) blank_slot (with_report s said) (rw (f, and-false))) ∙ rw (b.0, f)

module _ (m : Master) (g : Given m) (p : m.state ≡ 4) where
  plays : is_playing m ≡ true
  plays = eq-eqb _ _ p

  -- the sequence is the same, and who is enabled stays so
  Stays : Master → Type 0
  Stays n = (n.sequence ≡ m.sequence) × ((i : ℕ) → i < 8 → is_enabled (slot_at m i) ≡ true → is_enabled (slot_at n i) ≡ true)

  same : (n : Master) → n.sequence ≡ m.sequence → n.slots ≡ m.slots → Stays n
  unfolding Stays
  same n s l = (s, λ i _ e. ap (λ (k : List Client). is_enabled (get_or k i no_slot)) l ∙ e)

  -- a client that is lost or disabled while enabled ends it
  module _ (slot : ℕ) (c : Client) (said : ℕ) (k : slot < 8) (kept : is_enabled (slot_at m slot) ≡ true → (said ≡ 0 → ⊥) → is_enabled c ≡ true) where
    abbrev n : Master
    n = with_slot m slot c

    slot_stays : is_over m.state (slot_at m slot) said ≡ false → Stays n
    unfolding Stays
    slot_stays f = (
      refl,
      λ i l e.
          either (eqb i slot)
          (λ t.
          let w : i ≡ slot = eqb-true i slot t in
          let e' : is_enabled (slot_at m slot) ≡ true = subst (λ (j : ℕ). is_enabled (slot_at m j) ≡ true) w e in
          let s = kept e' (λ z. true≢false (sym (rw (e', p, z)) ∙ f)) in
          subst (λ (j : ℕ). is_enabled (slot_at n j) ≡ true) (sym w) (ap is_enabled (get_or-set_same m.slots slot c no_slot (omega (arith, k, given_eight m g))) ∙ s))
          (λ t. ap is_enabled (get_or-set_other m.slots slot i c no_slot (eqb-false i slot t)) ∙ e),
    )

    follow_stays : (followed (is_over m.state (slot_at m slot) said) n).state ≡ 4 → Stays (followed (is_over m.state (slot_at m slot) said) n)
    unfolding followed end_of ended settled
    follow_stays =
        chosen_by (λ (x : Master). x.state ≡ 4 → Stays x) _ _ _ (λ _ w. absurd (omega (arith, sym (pick_true (is_playing m) 5 1 plays) ∙ w)))
        (λ f. chosen (λ (x : Master). x.state ≡ 4 → Stays x) _ _ _ (λ w. absurd (omega arith)) (λ _. slot_stays f))

  -- E.4, a tick and an answer touch no slot and no sequence
  heard_same : (slot : ℕ) (msg : List ℕ) → Stays (heard m slot (slot_at m slot) (execution_in msg)).master
  unfolding heard interrupted ended
  heard_same slot msg =
      let H : Hearing → Type 0 = λ x. Stays x.master in
      subst H (sym (pick_true (is_playing m) _ _ plays)) (chosen H _ _ _ (same _ refl refl) (same _ refl refl))

  ticked_same : (mm : ℕ) → Stays (ticked m mm)
  unfolding ticked playback_ticked ended
  ticked_same mm =
      chosen_by Stays _ _ _ (λ i. absurd (true≢false (sym i ∙ not_recording m plays)))
      (λ _. chosen_by Stays _ _ _ (λ _. chosen Stays _ _ _ (same _ refl refl) (same _ refl refl)) (λ f. absurd (true≢false (sym plays ∙ f))))

  replied_same : (slot : ℕ) (msg : List ℕ) → Stays (replied m (answered m slot msg))
  unfolding replied ended
  replied_same slot msg = chosen Stays _ _ _ (same _ refl refl) (chosen Stays _ _ _ (same _ refl refl) (same _ refl refl))

  -- no call but these touches a slot in playback
  barred : {X : Type 0} → not (is_ready m) ≡ false → X
  barred h = absurd (omega (arith, p, eqb-true m.state 1 (not-false _ h)))

  stays : (e : Event) → number_of (call_of m e) ≡ 0 → (call_of m e).after.state ≡ 4 → Stays (call_of m e).after
  unfolding on_call off_call attach_call want_call report_call lost_call record_call stop_call cancel_call indication_call start_call abort_call client_abort_call answer_call tick_call store_call load_call edition_call reported clients.lost ended
  stays on z w = absurd (omega arith)
  stays off z w = absurd (omega arith)
  stays «record» z w = absurd (omega arith)
  stays stop z w = absurd (omega (arith, p, eqb-true m.state 2 (not-false _ (passed _ _ _ _ _ z).allowed)))
  stays cancel z w = absurd (omega arith)
  stays start z w = same _ refl refl
  stays abort z w = absurd (omega arith)
  stays (attach slot name pool) z w = barred (passed _ _ _ _ _ z).allowed
  stays (enable slot out) z w = barred (passed _ _ _ _ _ z).allowed
  stays (disable slot out) z w = barred (passed _ _ _ _ _ z).allowed
  stays (report slot number) z w =
      follow_stays slot _ (report_from number) (below slot _ (passed _ _ _ _ _ z).here) (reported_stays (slot_at m slot) (report_from number)) w
  stays (lost slot) z w = follow_stays slot blank_slot 0 (below slot _ (passed _ _ _ _ _ z).here) (λ _ h. absurd (h refl)) w
  stays (indication slot msg out) z w = heard_same slot msg
  stays (client_abort slot msg) z w = absurd (omega arith)
  stays (tick mm out) z w = ticked_same mm
  stays (answer slot msg out) z w = replied_same slot msg
  stays (store out) z w = same _ refl refl
  stays (load blocks) z w = barred (passed _ _ _ _ _ z).allowed
  stays (edition n) z w = barred (passed _ _ _ _ _ z).allowed

-- ---- every call

near : (m n : Master) → Near m n → (m.state ≡ 4 → ⊥) → n.state ≡ 4 → ⊥
near m n itself h w = h w
near m n (slotted i s) h w = h w

-- a playback comes only by a start
begins : (m : Master) (e : Event) (n : Master) → Change m e n → Given m → number_of (call_of m e) ≡ 0 → (m.state ≡ 4 → ⊥) → AllPlayable n
unfolding ended recording_ended
begins m e n (rested x y) g z h w = absurd (near m n x h w)
begins m e n (moved x s a b) g z h w = absurd (omega arith)
begins m e n (dropped x i y) g z h w = absurd (omega arith)
begins m e n (broken x p c) g z h w = absurd (omega arith)
begins m e n (record_starts r) g z h w = absurd (omega arith)
begins m e n (record_waits i) g z h w = absurd (omega arith)
begins m e n (record_ends i) g z h w = absurd (omega arith)
begins m e n (record_hears slot msg out i l) g z h w = absurd (h w)
begins m e n (record_hears_last slot msg out i l) g z h w = absurd (omega arith)
begins m e n (record_ticks mm out i l t) g z h w = absurd (h w)
begins m e n (play_starts r) g z h w =
    λ i l. let k = at_start (rule_of m.sequence.edition) m g (start_exactly.only m (number_is m (call_of m start) ∙ z)).1 i l in record { client = k.client; state = k.state }
begins m e n (play_ticks mm out p l t) g z h w = absurd (h w)
begins m e n (play_ticks_last mm out p) g z h w = absurd (omega arith)
begins m e n (play_hears slot msg out p) g z h w = absurd (h w)
begins m e n (play_hears_last slot msg out s p r l) g z h w = absurd (r.2 w)
begins m e n (replaced r x) g z h w = absurd (h w)

keeps : (m : Master) (e : Event) → Given m → number_of (call_of m e) ≡ 0 → AllPlayable m → AllPlayable (call_of m e).after
unfolding Stays
keeps m e g z h =
    either (is_playing m)
    (λ t w i l.
    let p : m.state ≡ 4 = eqb-true _ _ t in
    let s = stays m g p e z w in
    subst (λ (q : Sequence). i < q.count → Playable (call_of m e).after (get_or q.steps i blank_step)) (sym s.0)
    (λ b. let k = h p i b in record { client = (k.client.0, s.1 _ k.client.0 k.client.1); state = k.state }) l)
    (λ f. begins m e _ (done_change m e z) g z (eqb-false _ _ f))

none_playing : AllPlayable new_master
unfolding new_master
none_playing w = absurd (omega arith)

pub playable : (m : Master) → Given m → AllPlayable m
playable = given_by AllPlayable keeps none_playing
