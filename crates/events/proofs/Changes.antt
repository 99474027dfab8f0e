-- What a call that is done may change of the master: the only place where the rules of the calls are gone through, for all that is proved of runs.
use Prim.Native.Nat.{ℕ, ◌≤◌, ◌<◌}
use mathlib.Core.Path.{◌≡◌, refl, sym, ◌∙◌}
use mathlib.Core.Bool.{Bool, true, false, ◌&&◌, ◌||◌, true≢false}
use mathlib.Core.Logic.{◌⊎◌, inl, inr}
use mathlib.Core.List.{List}
use native.Mathlib.Omega.{arith}
use lib.Dec.{eqb}
use borrow.Author.Tests.{eqb-true, leb-true, leb-false}
use Rattle.octets.specs.Pick.{pick}
use Rattle.octets.specs.Numbers.{not_expected}
use Rattle.octets.proofs.Tests.{pick_true, pick_false}
use Rattle.message.specs.Fields.{status_number}
use Rattle.client.specs.Clients as client
use Rattle.client.specs.Clients.{slot_count, is_enabled, blank_slot}
use Rattle.client.specs.declared.Client.{Client}
use Rattle.sequence.specs.Sequence.{last_tick, length_of}
use Rattle.sequence.specs.Editions.{is_edition, with_edition}
use Rattle.sequence.specs.declared.Sequence.{Sequence}
use Rattle.store.specs.Loaded.{load_number, loaded_of}
use Rattle.recording.specs.State.{blank_recording}
use Rattle.recording.specs.Indication as indications
use Rattle.recording.specs.Indication.{Heard}
use Rattle.recording.proofs.Steps.{both}
use Rattle.playback.specs.State.{goes_on, blank_playback}
use Rattle.playback.proofs.Ends.{is_end}
use Rattle.playback.specs.Tick as playback
use Rattle.playback.specs.Answer.{has_function}
use Rattle.playback.specs.Tick.{Ticked}
use Rattle.master.specs.declared.Master.{Master}
use Rattle.master.specs.Call.{slot_at}
use Rattle.master.specs.Messages.{is_indication, execution_in}
use Rattle.master.specs.States as state
use Rattle.master.specs.States.{is_recording, is_playing, with_state, with_slot, with_sequence, with_recording, with_playback, ended, settled}
use Rattle.master.specs.Clients as clients
use Rattle.master.specs.Clients.{is_report, no_report, report_from, is_over, end_of, followed, reported}
use Rattle.master.specs.Recording.{is_counted, is_interruption, untimely, recording_ended, stopped, recorded, interrupted, heard}
use Rattle.master.specs.Playback.{answered, replied}
use Rattle.master.specs.Tick.{recording_ticked, playback_ticked, ticked}
use Rattle.events.specs.Events.{Event, «record», stop, start, report, lost, indication, tick, answer, load, edition, which_call}
use Rattle.events.proofs.Outside.{Outside, client_lost, client_reports, interrupts}
use Rattle.events.proofs.Choices.{chosen_by, either, is_false}

-- ---- the changes

-- the master, or the master with one slot replaced
pub data Near (m : Master) : Master → Type 0 where
  itself : Near m m
  slotted : (i : ℕ) (s : Client) → Near m (with_slot m i s)

-- no recording and no playback is on in this state
abbrev pub Rests : ℕ → Type 0
Rests s = (s ≡ state.recording → ⊥) × (s ≡ state.record_complete → ⊥) × (s ≡ state.playback → ⊥)

-- what a recording makes of an E.4, and a playback of a tick
abbrev pub heard_in : Master → ℕ → List ℕ → Heard
heard_in m slot msg = indications.heard_of m.recording slot (slot_at m slot) (eqb m.state state.record_complete) (execution_in msg)

abbrev pub ticked_in : Master → ℕ → Ticked
ticked_in m mm = playback.tick_of m.playback m.sequence m.tan mm

-- what a call puts in the place of the sequence
pub data Replaces (m : Master) : Event → Sequence → Type 0 where
  -- the one that blocks say
  loaded : (blocks : List ℕ) → load_number blocks ≡ 0 → Replaces m (load blocks) (loaded_of blocks).sequence
  -- the one that there is, with a step at least, in a known edition
  in_edition : (n : ℕ) → 1 ≤ length_of m.sequence → is_edition n ≡ true → Replaces m (edition n) (with_edition m.sequence n)

pub data Change (m : Master) : Event → Master → Type 0 where
  -- a slot at most
  rested : {e : Event} {n : Master} → Near m n → (is_recording m ≡ true → which_call e ≡ 1 → ⊥) → Change m e n
  -- the state too, where no recording and no playback is on, before and after
  moved : {e : Event} {k : Master} → Near m k → (s : ℕ) → Rests m.state → s ≤ state.ready → Change m e (with_state k s)
  -- a recording is over and not kept, by a call that is neither stop nor an E.4
  dropped : {e : Event} {k : Master} → Near m k → is_recording m ≡ true → 2 ≤ which_call e → Change m e (ended k state.ready)
  -- a playback is over for a cause, by a call that is neither a tick nor an answer
  broken : {e : Event} {k : Master} → Near m k → is_playing m ≡ true → Outside m e → Change m e (ended k state.abort)
  -- a recording starts, waits for its open steps, is over and kept
  record_starts : Rests m.state → Change m «record» (with_state (with_recording m blank_recording) state.recording)
  record_waits : is_recording m ≡ true → Change m stop (with_state m state.record_complete)
  record_ends : is_recording m ≡ true → Change m stop (recording_ended m)
  -- it hears an E.4, its last one, counts a tick
  record_hears : (slot : ℕ) (msg out : List ℕ) → is_recording m ≡ true → slot < slot_count
      → Change m (indication slot msg out) (with_recording m (heard_in m slot msg).recording)
  record_hears_last : (slot : ℕ) (msg out : List ℕ) → is_recording m ≡ true → slot < slot_count
      → Change m (indication slot msg out) (recording_ended (with_recording m (heard_in m slot msg).recording))
  record_ticks : (mm : ℕ) (out : List ℕ) → is_recording m ≡ true → mm ≤ 65535 → (indications.counted_recording m.recording mm).ticks < last_tick
      → Change m (tick mm out) (with_recording m (indications.counted_recording m.recording mm))
  -- a playback starts, goes on at a tick, is over by one, takes an answer, is over by one
  play_starts : Rests m.state → Change m start (with_state (with_playback m m.tan blank_playback) state.playback)
  play_ticks : (mm : ℕ) (out : List ℕ) → is_playing m ≡ true → mm ≤ 65535 → (ticked_in m mm).end ≡ goes_on
      → Change m (tick mm out) (with_playback m (ticked_in m mm).tan (ticked_in m mm).playback)
  play_ticks_last : (mm : ℕ) (out : List ℕ) → is_playing m ≡ true → Change m (tick mm out) (ended m state.abort)
  play_hears : (slot : ℕ) (msg out : List ℕ) → is_playing m ≡ true → Change m (answer slot msg out) (with_playback m m.tan (answered m slot msg).playback)
  play_hears_last : (slot : ℕ) (msg out : List ℕ) (s : ℕ) → is_playing m ≡ true → Rests s → s ≤ state.abort → Change m (answer slot msg out) (ended m s)
  -- the sequence is replaced, in ready
  replaced : {e : Event} {q : Sequence} → m.state ≡ state.ready → Replaces m e q → Change m e (with_sequence m q)

-- ---- states

pub low : (s : ℕ) → s ≤ state.ready → Rests s
low s h = (λ e. omega arith, λ e. omega arith, λ e. omega arith)

pub high : (s : ℕ) → state.abort ≤ s → Rests s
high s h = (λ e. omega arith, λ e. omega arith, λ e. omega arith)

pub one_of : (a b : Bool) → (a || b) ≡ true → (a ≡ true) ⊎ (b ≡ true)
one_of true b e = inl refl
one_of false b e = inr e

-- a test that gave 0, and would else have given 5
pub passes : (a : Bool) → pick {X = ℕ} a 0 not_expected ≡ 0 → a ≡ true
unfolding pick
passes true e = refl
passes false e = absurd (omega (arith, e))

module _ (m : Master) where
  pub not_playing : is_recording m ≡ true → is_playing m ≡ false
  not_playing i = go (one_of _ _ i)
    where
      go : (eqb m.state 2 ≡ true) ⊎ (eqb m.state 3 ≡ true) → is_playing m ≡ false
      go (inl t) = rw (eqb-true m.state 2 t)
      go (inr t) = rw (eqb-true m.state 3 t)

  pub not_recording : is_playing m ≡ true → is_recording m ≡ false
  not_recording t = is_false (is_recording m) (λ i. true≢false (sym t ∙ not_playing i))

  -- ---- transitions

  module _ (e : Event) (silent : 2 ≤ which_call e) where
    aside : is_recording m ≡ true → which_call e ≡ 1 → ⊥
    aside _ z = omega arith

    pub slot_change : (i : ℕ) (s : Client) → Change m e (with_slot m i s)
    slot_change i s = rested (slotted i s) aside

    settled_change : (k : Master) → Near m k → k.state ≡ m.state → Change m e (settled k)
    unfolding settled
    settled_change k n q =
        chosen_by (Change m e) _ (with_state k state.ready) k
        (λ t. moved n state.ready (let z = leb-true 5 k.state (both _ _ t).0 in high m.state (omega arith)) (omega arith))
        (λ _. rested n aside)

    followed_change :
        (i : ℕ) (s : Client) (over : Bool) → (over ≡ true → (is_recording m ≡ true) ⊎ ((is_playing m ≡ true) × Outside m e))
        → Change m e (followed over (with_slot m i s))
    unfolding followed end_of
    followed_change i s over c = chosen_by (Change m e) over _ _ (λ t. go (c t)) (λ _. settled_change (with_slot m i s) (slotted i s) refl)
      where
        go : (is_recording m ≡ true) ⊎ ((is_playing m ≡ true) × Outside m e) → Change m e (ended (with_slot m i s) (end_of m.state))
        go (inl r) = rw (pick_false (is_playing m) state.abort state.ready (not_playing r)) (dropped (slotted i s) r silent)
        go (inr p) = rw (pick_true (is_playing m) state.abort state.ready p.0) (broken (slotted i s) p.0 p.1)

  -- what ends with a client is a recording, or a playback for this cause
  over_cause :
      (s : Client) (said : ℕ) (e : Event) → is_over m.state s said ≡ true
      → (is_enabled s ≡ true
      → (eqb said client.disabled_report ≡ true) ⊎ ((eqb said client.record_report ≡ true) ⊎ (eqb said client.abort_report ≡ true)) → Outside m e)
      → (is_recording m ≡ true) ⊎ ((is_playing m ≡ true) × Outside m e)
  over_cause s said e t cause =
      let b = both (is_enabled s) _ t in go b.0 (one_of _ _ b.1)
    where
      which : (eqb said client.disabled_report || (eqb said client.record_report || eqb said client.abort_report)) ≡ true
          → (eqb said client.disabled_report ≡ true) ⊎ ((eqb said client.record_report ≡ true) ⊎ (eqb said client.abort_report ≡ true))
      which h = later (one_of _ _ h)
        where
          later : (eqb said client.disabled_report ≡ true) ⊎ ((eqb said client.record_report || eqb said client.abort_report) ≡ true)
              → (eqb said client.disabled_report ≡ true) ⊎ ((eqb said client.record_report ≡ true) ⊎ (eqb said client.abort_report ≡ true))
          later (inl x) = inl x
          later (inr x) = inr (one_of _ _ x)

      go : is_enabled s ≡ true
          → ((is_recording m && eqb said client.disabled_report) ≡ true)
          ⊎ ((is_playing m && (eqb said client.disabled_report || (eqb said client.record_report || eqb said client.abort_report))) ≡ true)
          → (is_recording m ≡ true) ⊎ ((is_playing m ≡ true) × Outside m e)
      go n (inl x) = inl (both (is_recording m) _ x).0
      go n (inr x) = let b = both (is_playing m) _ x in inr (b.0, cause n (which b.1))

  pub stopped_change : is_recording m ≡ true → Change m stop (stopped m)
  unfolding stopped
  stopped_change i = chosen_by (Change m stop) _ _ _ (λ _. record_waits i) (λ _. record_ends i)

  pub lost_change : (slot : ℕ) → Change m (lost slot) (clients.lost m slot)
  unfolding clients.lost
  lost_change slot =
      followed_change (lost slot) (omega arith) slot blank_slot _
      (λ t. over_cause (slot_at m slot) client.disabled_report (lost slot) t (λ n _. client_lost slot n))

  -- ---- a report

  pub reported_number : (number k : ℕ) → eqb (report_from number) k ≡ true → k < no_report → number ≡ k
  unfolding report_from pick
  reported_number number k e l = go (is_report number) e
    where
      go : (b : Bool) → eqb (pick b number no_report) k ≡ true → number ≡ k
      go true q = eqb-true number k q
      go false q = absurd (omega (arith, eqb-true no_report k q))

  pub reported_change : (slot number : ℕ) → Change m (report slot number) (reported m slot (report_from number))
  unfolding reported
  reported_change slot number =
      followed_change (report slot number) (omega arith) slot _ _
      (λ t. over_cause (slot_at m slot) (report_from number) (report slot number) t (λ n w. client_reports slot number n (known w)))
    where
      known :
          (eqb (report_from number) client.disabled_report ≡ true)
          ⊎ ((eqb (report_from number) client.record_report ≡ true) ⊎ (eqb (report_from number) client.abort_report ≡ true))
          → (number ≡ client.disabled_report) ⊎ ((number ≡ client.record_report) ⊎ (number ≡ client.abort_report))
      known (inl x) = inl (reported_number number client.disabled_report x (omega arith))
      known (inr (inl x)) = inr (inl (reported_number number client.record_report x (omega arith)))
      known (inr (inr x)) = inr (inr (reported_number number client.abort_report x (omega arith)))

  -- ---- E.4

  module _ (slot : ℕ) (msg out : List ℕ) where
    abbrev E : Master → Type 0
    E = Change m (indication slot msg out)

    recorded_change : is_recording m ≡ true → slot < slot_count → E (recorded m (heard_in m slot msg).recording)
    unfolding recorded
    recorded_change i l = chosen_by E _ _ _ (λ _. record_hears_last slot msg out i l) (λ _. record_hears slot msg out i l)

    interrupted_change : is_playing m ≡ true → is_indication msg ≡ true → is_enabled (slot_at m slot) ≡ true → status_number (execution_in msg).status ≡ 0b11
        → E (interrupted m slot (execution_in msg).function).master
    unfolding pick interrupted
    interrupted_change t g n s =
        either (has_function m.sequence slot (execution_in msg).function)
        (λ f. rw f (broken itself t (interrupts slot msg out g n s f)))
        (λ f. rw f (rested itself (λ i _. true≢false (sym i ∙ not_recording t))))

    -- in record and record complete it counts, in playback it is an interruption
    pub heard_change : is_indication msg ≡ true → slot < slot_count → untimely m.state (slot_at m slot) (execution_in msg) ≡ 0
        → E (heard m slot (slot_at m slot) (execution_in msg)).master
    unfolding heard untimely
    heard_change g l w =
        either (is_counted m.state (slot_at m slot))
        (λ t.
        let i = (both (is_recording m) _ (both _ _ t).0).0 in
        rw (pick_false (is_playing m) _ _ (not_playing i)) (recorded_change i l))
        (λ t.
        let b = both (is_playing m && is_enabled (slot_at m slot)) _ (passes (is_interruption m.state (slot_at m slot) (execution_in msg)) (sym (pick_false _ _ _ t) ∙ w)) in
        let c = both (is_playing m) _ b.0 in
        rw (pick_true (is_playing m) _ _ c.0) (interrupted_change c.0 g c.1 (eqb-true _ _ b.1)))

  -- ---- ticks and answers

  pub ticked_change : (mm : ℕ) (out : List ℕ) → mm ≤ 65535 → Change m (tick mm out) (ticked m mm)
  unfolding ticked recording_ticked playback_ticked
  ticked_change mm out l =
      let T : Master → Type 0 = Change m (tick mm out) in
      chosen_by T _ _ _ (λ i. chosen_by T _ _ _ (λ _. dropped itself i (omega arith)) (λ t. record_ticks mm out i l (leb-false last_tick _ t)))
      (λ _.
      chosen_by T _ _ _ (λ p. chosen_by T _ _ _ (λ t. play_ticks mm out p l (is_end _ _ t)) (λ _. play_ticks_last mm out p))
      (λ _. settled_change (tick mm out) (omega arith) m itself refl))

  pub replied_change : (slot : ℕ) (msg out : List ℕ) → is_playing m ≡ true → Change m (answer slot msg out) (replied m (answered m slot msg))
  unfolding replied
  replied_change slot msg out p =
      let A : Master → Type 0 = Change m (answer slot msg out) in
      chosen_by A _ _ _ (λ _. play_hears_last slot msg out state.ready p (low state.ready (omega arith)) (omega arith))
      (λ _. chosen_by A _ _ _ (λ _. play_hears_last slot msg out state.abort p (high state.abort (omega arith)) (omega arith)) (λ _. play_hears slot msg out p))
