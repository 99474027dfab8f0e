-- Every way out of a state but playback: what each call that is done makes of the state.
use Prim.Native.Nat.{ℕ, ◌+◌, ◌≤◌}
use mathlib.Core.Path.{◌≡◌, refl, sym, ap, subst, ◌∙◌}
use mathlib.Core.Bool.{Bool, true, false, not, ◌&&◌, true≢false, and-false}
use mathlib.Core.Logic.{◌⊎◌, inl, inr, ◌↔◌}
use mathlib.Core.List.{List}
use native.Mathlib.Omega.{arith}
use lib.Dec.{eqb, leb}
use lib.ListN.{get_or}
use borrow.Author.Tests.{eq-eqb, ne_eqb, eqb-true, eqb-false, leb-true, le-leb, not-true, not-false}
use Rattle.octets.specs.Pick.{pick}
use Rattle.octets.proofs.Tests.{pick_true, pick_false}
use Rattle.arrays.specs.Arrays.{some, more}
use Rattle.message.specs.declared.Execution.{Execution}
use Rattle.client.specs.Clients.{is_enabled, is_other, no_slot, blank_slot}
use Rattle.client.specs.declared.Client.{Client}
use Rattle.sequence.specs.Editions.{with_edition}
use Rattle.recording.specs.Indication.{has_open, is_step_of, counted_recording, heard_of}
use Rattle.recording.specs.declared.Taken.{Taken}
use Rattle.recording.proofs.Steps.{both}
use Rattle.master.specs.declared.Master.{Master}
use Rattle.master.specs.Call.{slot_at}
use Rattle.master.specs.States.{is_recording, is_playing, is_aborting, with_state, with_slot, with_sequence, ended, settled}
use Rattle.master.specs.Clients as clients
use Rattle.master.specs.Clients.{is_over, end_of, followed, report_from, reported_slot, reported, on_call, off_call, attach_call, want_call, report_call, lost_call}
use Rattle.master.specs.Recording.{Hearing, record_call, recording_ended, stopped, stop_call, cancel_call, recorded, heard, indication_call}
use Rattle.master.specs.Playback.{start_call, abort_call, unheeded, client_abort_call, unmatched, answer_call}
use Rattle.master.specs.Tick.{recording_ticked, playback_ticked, ticked, tick_call}
use Rattle.master.specs.{Storing.store_call, Storing.load_call, Editions.edition_call}
use Rattle.master.specs.Messages.{execution_in}
use Rattle.events.specs.Events.{Event, on, off, «record», stop, cancel, start, abort, attach, enable, disable, report, lost, indication, client_abort, tick, answer, store, load, edition, call_of, apply}
use Rattle.events.proofs.Choices.{chosen, chosen_by, either, is_false, is_true}
use Rattle.events.proofs.Calls.{after_is, same_master, either_way}
use Rattle.events.proofs.Changes.{Near, itself, slotted, loaded, in_edition, Change, rested, moved, dropped, broken, record_starts, record_waits, record_ends, record_hears, record_hears_last, record_ticks, play_starts, play_ticks, play_ticks_last, play_hears, play_hears_last, replaced, one_of, passes, reported_number, heard_in}
use Rattle.events.proofs.Invariant.{done_change}
use Rattle.events.proofs.Regular.{Regular, given_regular}
use Rattle.events.proofs.Rows.{plays}
use Rattle.seen.specs.Words.{Done, nth, Enabled, InRecording}
use Rattle.seen.proofs.Tests.{is_indication_lem, passed_by, to_recording, from_recording, to_enabled, from_enabled, all_said, none_other}
use Rattle.seen.proofs.Reading.{indication_is, ends_again}
use Rattle.seen.proofs.Closing.{Ends, open_at, none_open, all_ended, none_left}
use Rattle.seen.specs.Ways.{held, Open, Closes, AllAbort, Way, switches_on, switches_off, records, starts, waits, stops, completes, cancels, loses, disables, too_long, settles_report, settles_loss, settles_tick, SameRest, Ways}

-- a report of 0 is one of disabled
disabled_from : {n : ℕ} → n ≡ 0 → report_from n ≡ 0
unfolding report_from pick
disabled_from e = rw e

-- ---- an abort is left

settles : (k : Master) → k.state ≤ 5 → ((settled k).state ≡ k.state → ⊥) → ((settled k).state ≡ 1) × (k.state ≡ 5) × AllAbort (settled k)
unfolding settled
settles k few =
    chosen_by (λ (x : Master). (x.state ≡ k.state → ⊥) → (x.state ≡ 1) × (k.state ≡ 5) × AllAbort x) _ _ _
    (λ t _.
    let b = both (is_aborting k) _ t in
    (refl, omega (arith, leb-true 5 k.state b.0, few), all_said 5 k.slots (not-true _ b.1)))
    (λ _ h. absurd (h refl))

settled_slots : (k : Master) → (settled k).slots ≡ k.slots
unfolding settled
settled_slots k = chosen (λ (x : Master). x.slots ≡ k.slots) _ _ _ refl refl

does_settle : (k : Master) → k.state ≡ 5 → AllAbort (settled k) → (settled k).state ≡ 1
unfolding settled
does_settle k s h =
    let none = none_other 5 k.slots (subst (λ (l : List Client). (i : ℕ) → Enabled (get_or l i no_slot) → (get_or l i no_slot).report ≡ 5) (settled_slots k) h) in
    ap (λ (x : Master). x.state) (pick_true (is_aborting k && not (some (is_other 5) k.slots)) (with_state k 1) k (rw (s, none)))

-- ---- the sequence is changed by nothing but a stop, an E.4, a load and the setting of an edition

near : (m n : Master) → Near m n → n.sequence ≡ m.sequence
near m n itself = refl
near m n (slotted i s) = refl

changed :
    (m : Master) (e : Event) (n : Master) → Change m e n → (e ≡ stop → ⊥) → ((slot : ℕ) (msg out : List ℕ) → e ≡ indication slot msg out → ⊥)
    → ((blocks : List ℕ) → e ≡ load blocks → ⊥) → ((k : ℕ) → e ≡ edition k → ⊥) → n.sequence ≡ m.sequence
unfolding ended
changed m e n (rested x y) h k j w = near m n x
changed m e n (moved x s a b) h k j w = near m _ x
changed m e n (dropped x i y) h k j w = near m _ x
changed m e n (broken x p c) h k j w = near m _ x
changed m e n (record_starts r) h k j w = refl
changed m e n (record_waits i) h k j w = refl
changed m e n (record_ends i) h k j w = absurd (h refl)
changed m e n (record_hears slot msg out i l) h k j w = refl
changed m e n (record_hears_last slot msg out i l) h k j w = absurd (k slot msg out refl)
changed m e n (record_ticks mm out i l t) h k j w = refl
changed m e n (play_starts r) h k j w = refl
changed m e n (play_ticks mm out p l t) h k j w = refl
changed m e n (play_ticks_last mm out p) h k j w = refl
changed m e n (play_hears slot msg out p) h k j w = refl
changed m e n (play_hears_last slot msg out s p r l) h k j w = refl
changed m e n (replaced r (loaded blocks z)) h k j w = absurd (j blocks refl)
changed m e n (replaced r (in_edition b z t)) h k j w = absurd (w b refl)

module _ (m : Master) (r : Regular m) (other : m.state ≡ 4 → ⊥) where
  still : is_playing m ≡ false
  still = ne_eqb _ _ other

  -- ---- a report, a loss

  module _ (slot : ℕ) (c : Client) (said : ℕ) where
    abbrev over : Bool
    over = is_over m.state (slot_at m slot) said

    abbrev FollowsBy : Master → Type 0
    FollowsBy x = (x.state ≡ 1) × ((InRecording m × Enabled (slot_at m slot) × (said ≡ 0)) ⊎ ((m.state ≡ 5) × AllAbort x))

    Followed : Master → Type 0
    Followed x = (x.state ≡ m.state → ⊥) → FollowsBy x

    follows : Followed (followed over (with_slot m slot c))
    unfolding Followed followed end_of ended
    follows =
        chosen_by Followed over _ _
        (λ t _.
        let b = both (is_enabled (slot_at m slot)) _ t in
        (pick_false (is_playing m) 5 1 still, inl (go _ (to_enabled _ b.0) (one_of _ _ b.1))))
        (λ _ h. let s = settles (with_slot m slot c) r.state h in (s.0, inr (s.1, s.2)))
      where
        go : (rest : Bool) → Enabled (slot_at m slot) → ((is_recording m && eqb said 0) ≡ true) ⊎ ((is_playing m && rest) ≡ true)
            → InRecording m × Enabled (slot_at m slot) × (said ≡ 0)
        go rest n (inl x) = let d = both (is_recording m) _ x in (to_recording m d.0, n, eqb-true _ _ d.1)
        go rest n (inr x) = absurd (true≢false (sym (both (is_playing m) _ x).0 ∙ still))

    over_recording : InRecording m → Enabled (slot_at m slot) → said ≡ 0 → (followed over (with_slot m slot c)).state ≡ 1
    unfolding followed end_of ended
    over_recording i n z =
        let t : over ≡ true = rw (from_enabled _ n, from_recording m i, z) in
        ap (λ (x : Master). x.state) (pick_true over (ended (with_slot m slot c) (end_of m.state)) _ t) ∙ pick_false (is_playing m) 5 1 still

    over_abort : m.state ≡ 5 → AllAbort (followed over (with_slot m slot c)) → (followed over (with_slot m slot c)).state ≡ 1
    unfolding followed
    over_abort s h =
        let f : over ≡ false = rw (s, and-false) in
        let e = pick_false over (ended (with_slot m slot c) (end_of m.state)) (settled (with_slot m slot c)) f in
        ap (λ (x : Master). x.state) e ∙ does_settle (with_slot m slot c) s (subst AllAbort e h)

  -- ---- a tick

  module _ (mm : ℕ) where
    -- no count of a master that calls give is cut short
    next_tick : (counted_recording m.recording mm).ticks ≡ m.recording.ticks + 1
    unfolding counted_recording more
    next_tick = omega (arith, r.recording.counted.0)

    abbrev TicksBy : Master → Type 0
    TicksBy x = (x.state ≡ 1) × ((InRecording m × (36000 ≤ m.recording.ticks + 1)) ⊎ ((m.state ≡ 5) × AllAbort x))

    Ticked : Master → Type 0
    Ticked x = (x.state ≡ m.state → ⊥) → TicksBy x

    ticks : Ticked (ticked m mm)
    unfolding Ticked ticked recording_ticked ended
    ticks =
        chosen_by Ticked _ _ _
        (λ i. chosen_by Ticked _ _ _ (λ t _. (refl, inl (to_recording m i, omega (arith, next_tick, leb-true 36000 (counted_recording m.recording mm).ticks t)))) (λ _ h. absurd (h refl)))
        (λ _. chosen_by Ticked _ _ _ (λ p. absurd (true≢false (sym p ∙ still))) (λ _ h. let s = settles m r.state h in (s.0, inr (s.1, s.2))))

    last_tick : InRecording m → 36000 ≤ m.recording.ticks + 1 → (ticked m mm).state ≡ 1
    unfolding ticked recording_ticked ended
    last_tick i l =
        ap (λ (x : Master). x.state)
        (pick_true (is_recording m) _ _ (from_recording m i) ∙ pick_true (leb 36000 (counted_recording m.recording mm).ticks) _ _ (rw next_tick (le-leb _ _ l)))

    abort_tick : m.state ≡ 5 → AllAbort (ticked m mm) → (ticked m mm).state ≡ 1
    unfolding ticked
    abort_tick s h =
        let e = pick_false (is_recording m) (recording_ticked m mm) _ (rw s) ∙ pick_false (is_playing m) (playback_ticked m mm) (settled m) still in
        ap (λ (x : Master). x.state) e ∙ does_settle m s (subst AllAbort e h)

  -- ---- E.4

  module _ (slot : ℕ) (msg out : List ℕ) (z : Done m (indication slot msg out)) where
    -- what is read is what the bytes say
    module _ (t : Taken) where
      abbrev Ended : Execution → Type 0
      Ended x = (is_step_of slot x.tan t ≡ true) × Ends t x

      ends_it : Ended (execution_in msg) → Closes slot msg t
      ends_it h =
          let (p, e) = subst Ended (indication_is msg (is_indication_lem m slot msg out z)) h in
          let a = both (eqb t.step.slot slot) _ p in
          let b = both (eqb t.step.function (nth 2 msg)) _ e.0 in
          record {
            of_client = eqb-true _ _ a.0;
            of_tan = eqb-true _ _ a.1;
            of_function = eqb-true _ _ b.0;
            of_state = eqb-true _ _ b.1;
            ends = (ends_again (nth 3 msg)).0 e.1;
          }

      ended_by : Closes slot msg t → Ended (execution_in msg)
      ended_by c =
          subst Ended (sym (indication_is msg (is_indication_lem m slot msg out z)))
          (rw (eq-eqb _ _ c.of_client, eq-eqb _ _ c.of_tan), (rw (eq-eqb _ _ c.of_function, eq-eqb _ _ c.of_state), (ends_again (nth 3 msg)).1 c.ends))

    -- whether a step is open after it
    OpenAfter : Bool → Bool → Type 0
    OpenAfter complete b = has_open (heard_of m.recording slot (slot_at m slot) complete (execution_in msg)).recording ≡ b

    recorded_is : (heard m slot (slot_at m slot) (execution_in msg)).master ≡ recorded m (heard_in m slot msg).recording
    unfolding heard
    recorded_is = ap (λ (h : Hearing). h.master) (pick_false (is_playing m) _ _ still)

    Recorded : Master → Type 0
    Recorded x = (x.state ≡ m.state → ⊥) → (x.state ≡ 1) × (m.state ≡ 3) × ((i : ℕ) → Open m i → Closes slot msg (held m i))

    hears : Recorded (heard m slot (slot_at m slot) (execution_in msg)).master
    unfolding OpenAfter Recorded recorded recording_ended ended
    hears =
        subst Recorded (sym recorded_is)
        (chosen_by Recorded _ _ _
        (λ t _.
        let b = both (eqb m.state 3) _ t in
        let none : OpenAfter true false = subst (λ (c : Bool). OpenAfter c false) b.0 (not-true _ b.1) in (
          refl,
          eqb-true _ _ b.0,
          λ i o. ends_it (held m i) (all_ended m.recording r.recording.sound slot (slot_at m slot) (execution_in msg) none i o.counted (eq-eqb _ _ o.started)),
        ))
        (λ _ h. absurd (h refl)))

    hears_last : m.state ≡ 3 → ((i : ℕ) → Open m i → Closes slot msg (held m i)) → (heard m slot (slot_at m slot) (execution_in msg)).master.state ≡ 1
    unfolding OpenAfter recorded recording_ended ended
    hears_last s h =
        let t : eqb m.state 3 ≡ true = eq-eqb _ _ s in
        let none : OpenAfter true false =
        none_left m.recording r.recording.sound slot (slot_at m slot) (execution_in msg)
        (λ i l o. ended_by (held m i) (h i (record { counted = l; started = eqb-true _ _ o }))) in
        ap (λ (k : Master). k.state)
        (recorded_is ∙ pick_true (eqb m.state 3 && not (has_open (heard_in m slot msg).recording)) _ _ (rw (t, none)))

  -- ---- stop

  stops_so : m.state ≡ 2 → Way m stop (stopped m).state
  unfolding stopped recording_ended ended
  stops_so s =
      chosen_by (λ (k : Master). Way m stop k.state) _ _ _
      (λ t. let (i, l, o) = open_at m.recording r.recording.sound t in waits i s (record { counted = l; started = eqb-true _ _ o }))
      (λ f. stops s (λ i o. true≢false (sym (eq-eqb _ _ o.started) ∙ none_open m.recording r.recording.sound f i o.counted)))

  stop_waits : (i : ℕ) → Open m i → (stopped m).state ≡ 3
  unfolding stopped
  stop_waits i o =
      ap (λ (k : Master). k.state)
      (pick_true (has_open m.recording) _ _
      (is_true _ (λ f. true≢false (sym (eq-eqb _ _ o.started) ∙ none_open m.recording r.recording.sound f i o.counted))))

  stop_ends : ((i : ℕ) → Open m i → ⊥) → (stopped m).state ≡ 1
  unfolding stopped recording_ended ended
  stop_ends h =
      ap (λ (k : Master). k.state)
      (pick_false (has_open m.recording) _ _
      (is_false _ (λ t. let (i, l, o) = open_at m.recording r.recording.sound t in h i (record { counted = l; started = eqb-true _ _ o }))))

  -- ---- the table

  module _ (e : Event) (z : Done m e) where
    after : (apply m e).master ≡ (call_of m e).after
    after = after_is m (call_of m e) z

    all_after : AllAbort (call_of m e).after → AllAbort (apply m e).master
    all_after h = subst AllAbort (sym after) h

    all_before : AllAbort (apply m e).master → AllAbort (call_of m e).after
    all_before h = subst AllAbort after h

  Leaves : Event → Type 0
  Leaves e = ((call_of m e).after.state ≡ m.state → ⊥) → Way m e (call_of m e).after.state

  in_playback : {X : Type 0} → is_playing m ≡ true → X
  in_playback p = absurd (true≢false (sym p ∙ still))

  leaves : (e : Event) → Done m e → Leaves e
  unfolding Leaves on_call off_call attach_call want_call report_call lost_call record_call stop_call cancel_call indication_call start_call abort_call client_abort_call answer_call tick_call store_call load_call edition_call unheeded unmatched reported clients.lost Followed Ticked Recorded ended
  leaves on z h = switches_on (eqb-true _ _ (not-false _ (passed_by m on z).allowed))
  leaves off z h = switches_off (eqb-true _ _ (not-false _ (passed_by m off z).allowed))
  leaves «record» z h = records (eqb-true _ _ (not-false _ (passed_by m «record» z).allowed))
  leaves stop z h = stops_so (eqb-true _ _ (not-false _ (passed_by m stop z).allowed))
  leaves cancel z h = cancels (to_recording m (not-false _ (passed_by m cancel z).allowed))
  leaves start z h = starts (eqb-true _ _ (not-false _ (passed_by m start z).allowed))
  leaves abort z h = in_playback (not-false _ (passed_by m abort z).allowed)
  leaves (attach slot name pool) z h = absurd (h refl)
  leaves (enable slot out) z h = absurd (h refl)
  leaves (disable slot out) z h = absurd (h refl)
  leaves (report slot number) z h = go (follows slot _ (report_from number) h)
    where
      go : FollowsBy slot (reported_slot (slot_at m slot) (report_from number)) (report_from number) (reported m slot (report_from number)) → Way m (report slot number) (reported m slot (report_from number)).state
      go (s, inl (i, c, q)) =
          subst (Way m (report slot number)) (sym s)
          (subst (λ (k : ℕ). Way m (report slot k) 1) (sym (reported_number m number 0 (eq-eqb _ _ q) (omega arith))) (disables slot i c))
      go (s, inr (a, all)) = subst (Way m (report slot number)) (sym s) (settles_report slot number a (all_after (report slot number) z all))
  leaves (lost slot) z h = go (follows slot blank_slot 0 h)
    where
      go : FollowsBy slot blank_slot 0 (clients.lost m slot) → Way m (lost slot) (clients.lost m slot).state
      go (s, inl (i, c, q)) = subst (Way m (lost slot)) (sym s) (loses slot i c)
      go (s, inr (a, all)) = subst (Way m (lost slot)) (sym s) (settles_loss slot a (all_after (lost slot) z all))
  leaves (indication slot msg out) z h =
      let w = hears slot msg out z h in subst (Way m (indication slot msg out)) (sym w.0) (completes slot msg out w.1 w.2)
  leaves (client_abort slot msg) z h = in_playback (both (is_playing m) _ (passes _ (passed_by m (client_abort slot msg) z).goes)).0
  leaves (tick mm out) z h = go (ticks mm h)
    where
      go : TicksBy mm (ticked m mm) → Way m (tick mm out) (ticked m mm).state
      go (s, inl (i, l)) = subst (Way m (tick mm out)) (sym s) (too_long mm out i l)
      go (s, inr (a, all)) = subst (Way m (tick mm out)) (sym s) (settles_tick mm out a (all_after (tick mm out) z all))
  leaves (answer slot msg out) z h = in_playback (plays m _ (passed_by m (answer slot msg out) z).goes)
  leaves (store out) z h = absurd (h refl)
  leaves (load blocks) z h = absurd (h refl)
  leaves (edition n) z h = absurd (h refl)

  from_record : InRecording m → 1 ≡ m.state → ⊥
  from_record (inl q) s = omega arith
  from_record (inr q) s = omega arith

  arrives : (e : Event) (s : ℕ) → Done m e → Way m e s → ((call_of m e).after.state ≡ s) × (s ≡ m.state → ⊥)
  unfolding on_call off_call report_call lost_call record_call stop_call cancel_call indication_call start_call tick_call reported clients.lost ended
  arrives e s z (switches_on q) = (refl, λ w. omega arith)
  arrives e s z (switches_off q) = (refl, λ w. omega arith)
  arrives e s z (records q) = (refl, λ w. omega arith)
  arrives e s z (starts q) = (refl, λ w. omega arith)
  arrives e s z (waits i q o) = (stop_waits i o, λ w. omega arith)
  arrives e s z (stops q h) = (stop_ends h, λ w. omega arith)
  arrives e s z (completes slot msg out q h) = (hears_last slot msg out z q h, λ w. omega arith)
  arrives e s z (cancels i) = (refl, from_record i)
  arrives e s z (loses slot i n) = (over_recording slot blank_slot 0 i n refl, from_record i)
  arrives e s z (disables slot i n) = (over_recording slot _ (report_from 0) i n (disabled_from refl), from_record i)
  arrives e s z (too_long mm out i l) = (last_tick mm i l, from_record i)
  arrives e s z (settles_report slot number q all) = (over_abort slot _ (report_from number) q (all_before (report slot number) z all), λ w. omega arith)
  arrives e s z (settles_loss slot q all) = (over_abort slot blank_slot 0 q (all_before (lost slot) z all), λ w. omega arith)
  arrives e s z (settles_tick mm out q all) = (abort_tick mm q (all_before (tick mm out) z all), λ w. omega arith)

  pub exactly : (e : Event) (s : ℕ) → (((apply m e).master.state ≡ s) × (s ≡ m.state → ⊥)) ↔ (Done m e × Way m e s)
  unfolding Leaves
  exactly e s = (there, back)
    where
      done : ((apply m e).master.state ≡ s) → (s ≡ m.state → ⊥) → Done m e
      done q h =
          either (eqb (apply m e).number 0) (λ t. eqb-true _ _ t)
          (λ f. absurd (h (sym q ∙ ap (λ (k : Master). k.state) (same_master m (call_of m e) (eqb-false _ _ f)))))

      there : ((apply m e).master.state ≡ s) × (s ≡ m.state → ⊥) → Done m e × Way m e s
      there (q, h) =
          let z = done q h in
          let a : (apply m e).master.state ≡ (call_of m e).after.state = ap (λ (k : Master). k.state) (after e z) in
          (z, subst (Way m e) (sym a ∙ q) (leaves e z (λ w. h (sym q ∙ a ∙ w))))

      back : Done m e × Way m e s → ((apply m e).master.state ≡ s) × (s ≡ m.state → ⊥)
      back (z, w) = let k = arrives e s z w in (ap (λ (x : Master). x.state) (after e z) ∙ k.0, k.1)

switched : (m : Master) (s : ℕ) → SameRest m (with_state m s)
switched m s = record { tan = refl; slots = refl; sequence = refl; recording = refl; playback = refl }

switching : (m : Master) → SameRest m (apply m on).master × SameRest m (apply m off).master
unfolding on_call off_call
switching m = (
  either_way m (call_of m on) (SameRest m) (λ _. switched m m.state) (λ _. switched m 1),
  either_way m (call_of m off) (SameRest m) (λ _. switched m m.state) (λ _. switched m 0),
)

storing : (m : Master) (out : List ℕ) → (apply m (store out)).master ≡ m
unfolding store_call
storing m out = either_way m (call_of m (store out)) (λ (n : Master). n ≡ m) (λ _. refl) (λ _. refl)

loading : (m : Master) (blocks : List ℕ) → (apply m (load blocks)).master ≡ with_sequence m (apply m (load blocks)).master.sequence
unfolding load_call
loading m blocks = either_way m (call_of m (load blocks)) (λ (n : Master). n ≡ with_sequence m n.sequence) (λ _. refl) (λ _. refl)

setting : (m : Master) (n : ℕ) → (apply m (edition n)).master ≡ with_sequence m (with_edition m.sequence (apply m (edition n)).master.sequence.edition)
unfolding edition_call
setting m n =
    either_way m (call_of m (edition n)) (λ (k : Master). k ≡ with_sequence m (with_edition m.sequence k.sequence.edition)) (λ _. refl) (λ _. refl)

pub ways : Ways
ways = record {
  exactly = λ m g h e s. exactly m (given_regular m g) h e s;
  keeps = λ m e h k j w.
      either_way m (call_of m e) (λ (n : Master). n.sequence ≡ m.sequence) (λ _. refl) (λ z. changed m e _ (done_change m e z) h k j w);
  switching = switching;
  storing = storing;
  loading = loading;
  setting = setting;
}
