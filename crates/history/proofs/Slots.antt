-- What a slot holds is what the calls have made of it, along every run.
use Prim.Native.Nat.{ℕ, ◌<◌}
use mathlib.Core.Path.{◌≡◌, refl, sym, ap, subst, ◌∙◌}
use mathlib.Core.Bool.{Bool, true, false, not, ◌&&◌, true≢false}
use mathlib.Core.List.{List, [], ◌∷◌, ◌++◌}
use native.Mathlib.Omega.{arith}
use lib.Dec.{eqb, leb, ltb}
use lib.ListN.{length, get_or, set, replicate, length-set, get_or-eq_default, get_or-replicate}
use lib.Seq.{get_or-set_same, get_or-set_other}
use borrow.Author.Tests.{eq-eqb, ne_eqb, eqb-true, eqb-false, ltb-true, ltb-false, not-false}
use Rattle.octets.specs.Pick.{pick}
use Rattle.octets.proofs.Tests.{pick_true, pick_false}
use Rattle.arrays.proofs.Every.{neither}
use Rattle.octets.specs.Numbers.{pool_refused}
use Rattle.pool.specs.Pool.{verdict_of}
use Rattle.profile.specs.Profile.{kept_of_pool}
use Rattle.client.specs.Clients.{is_taken, is_wanted, is_enabled, blank_slot, no_slot, attached, with_wanted, with_report}
use Rattle.client.specs.declared.Client.{Client}
use Rattle.master.specs.declared.Master.{Master}
use Rattle.master.specs.Call.{number_of, slot_at}
use Rattle.master.specs.Messages.{execution_in}
use Rattle.master.specs.States.{new_master, with_slot, ended, settled}
use Rattle.master.specs.Clients as clients
use Rattle.master.specs.Clients.{unfit, followed, reported_slot, is_report, no_report, report_from, reported, on_call, off_call, attach_call, want_call, report_call, lost_call}
use Rattle.master.specs.Recording.{recording_ended, stopped, recorded, interrupted, heard, Hearing, record_call, stop_call, cancel_call, indication_call}
use Rattle.master.specs.Playback.{replied, start_call, abort_call, client_abort_call, answer_call}
use Rattle.master.specs.Tick.{recording_ticked, playback_ticked, ticked, tick_call}
use Rattle.master.specs.{Storing.store_call, Storing.load_call, Editions.edition_call}
use Rattle.master.proofs.Calls.{passed, below}
use Rattle.events.specs.Events.{Event, on, off, «record», stop, cancel, start, abort, attach, enable, disable, report, lost, indication, client_abort, tick, answer, store, load, edition, call_of, apply, run}
use Rattle.events.proofs.Calls.{number_is, either_way}
use Rattle.events.proofs.Choices.{chosen, chosen_by, either}
use Rattle.history.specs.Runs.{is_done}
use Rattle.history.specs.Seats.{Seat, empty_seat, filled_seat, wanted_seat, reported_seat, seat_by, seat_after, seat_of}
use Rattle.history.specs.Promises.{Attaching}
use Rattle.history.proofs.Gather.{run_more, gather_more, along}

-- a slot holds this; NAME and pool count where a client is there
pub record Holds (c : Seat) (s : Client) : Type 0 where
  pub taken : is_taken s ≡ c.taken
  pub wanted : is_wanted s ≡ c.wanted
  pub report : s.report ≡ c.report
  pub name : is_taken s ≡ true → s.name ≡ c.name
  pub pool : is_taken s ≡ true → s.profile ≡ kept_of_pool c.pool
  -- a pool that was accepted
  pub accepted : is_taken s ≡ true → (verdict_of c.pool).code ≡ 0

-- each of the eight slots
record All (c : ℕ → Seat) (m : Master) : Type 0 where
  eight : length m.slots ≡ 8
  each : (slot : ℕ) → Holds (c slot) (slot_at m slot)

empty : Holds empty_seat blank_slot
unfolding blank_slot
empty = record { taken = refl; wanted = refl; report = refl; name = λ _. refl; pool = λ t. absurd (true≢false (sym t)); accepted = λ t. absurd (true≢false (sym t)) }

none : Holds empty_seat no_slot
none = record { taken = refl; wanted = refl; report = refl; name = λ _. refl; pool = λ t. absurd (true≢false (sym t)); accepted = λ t. absurd (true≢false (sym t)) }

chosen_both : (b : Bool) (x y : Seat) (s t : Client) → Holds x s → Holds y t → Holds (pick b x y) (pick b s t)
unfolding pick
chosen_both true x y s t p q = p
chosen_both false x y s t p q = q

-- a pool that is not refused has no fault
fit : (code : ℕ) → unfit code ≡ 0 → code ≡ 0
unfolding unfit
fit code = chosen_by (λ (n : ℕ). n ≡ 0 → code ≡ 0) (eqb code 0) 0 pool_refused (λ t _. eqb-true code 0 t) (λ _ z. absurd (omega (arith, z)))

-- ---- one slot replaced

module _ (c : ℕ → Seat) (m : Master) (h : All c m) where
  put : (f : Seat → Seat) (i : ℕ) (s : Client) → i < 8 → Holds (f (c i)) s → All (λ slot. pick (eqb i slot) (f (c slot)) (c slot)) (with_slot m i s)
  put f i s l here = record { eight = length-set m.slots i s ∙ h.eight; each = λ slot. either (eqb i slot) (it slot) (other slot) }
    where
      it : (slot : ℕ) → eqb i slot ≡ true → Holds (pick (eqb i slot) (f (c slot)) (c slot)) (get_or (set m.slots i s) slot no_slot)
      it slot t =
          subst (λ (k : ℕ). Holds (pick (eqb i k) (f (c k)) (c k)) (get_or (set m.slots i s) k no_slot)) (eqb-true i slot t)
          (subst (λ (x : Seat). Holds x (get_or (set m.slots i s) i no_slot)) (sym (pick_true (eqb i i) _ _ (eq-eqb i i refl)))
          (subst (Holds (f (c i))) (sym (get_or-set_same m.slots i s no_slot (subst (λ (n : ℕ). i < n) (sym h.eight) l))) here))

      other : (slot : ℕ) → eqb i slot ≡ false → Holds (pick (eqb i slot) (f (c slot)) (c slot)) (get_or (set m.slots i s) slot no_slot)
      other slot t =
          subst (λ (x : Seat). Holds x (get_or (set m.slots i s) slot no_slot)) (sym (pick_false (eqb i slot) _ _ t))
          (subst (Holds (c slot)) (sym (get_or-set_other m.slots i slot s no_slot (λ z. eqb-false i slot t (sym z)))) (h.each slot))

  wants : (i wanted : ℕ) → Holds (wanted_seat (not (eqb wanted 0)) (c i)) (with_wanted (slot_at m i) wanted)
  wants i wanted =
      let k = h.each i in
      record { taken = k.taken; wanted = refl; report = k.report; name = k.name; pool = k.pool; accepted = k.accepted }

  -- a report that is taken is one of the five
  report_is : (number : ℕ) → eqb (report_from number) no_report ≡ false → report_from number ≡ number
  unfolding report_from
  report_is number =
      chosen_by (λ (n : ℕ). eqb n no_report ≡ false → n ≡ number) (is_report number) number no_report (λ _ _. refl) (λ _ k. absurd (true≢false k))

  reports : (i number : ℕ) → is_taken (slot_at m i) ≡ true → Holds (reported_seat number (c i)) (reported_slot (slot_at m i) number)
  unfolding reported_slot
  reports i number t =
      let k = h.each i in
      let q : (is_enabled (slot_at m i) && eqb number 0) ≡ ((c i).wanted && not (eqb (c i).report 0) && eqb number 0) = rw (t, k.wanted, k.report) in
      subst (λ (b : Bool). Holds (reported_seat number (c i)) (pick b blank_slot (with_report (slot_at m i) number))) (sym q)
      (chosen_both _ _ _ blank_slot (with_report (slot_at m i) number) empty
      (record { taken = k.taken; wanted = k.wanted; report = refl; name = k.name; pool = k.pool; accepted = k.accepted }))

-- ---- a master whose slots are the same

module _ (c : ℕ → Seat) (k : Master) (t : All c k) where
  same : (n : Master) → n.slots ≡ k.slots → All c n
  same n q = record {
    eight = ap length q ∙ t.eight;
    each = λ slot. subst (λ l. Holds (c slot) (get_or l slot no_slot)) (sym q) (t.each slot);
  }

  over : (s : ℕ) → All c (ended k s)
  unfolding ended
  over s = same _ refl

  kept_over : All c (recording_ended k)
  unfolding recording_ended ended
  kept_over = same _ refl

  settles : All c (settled k)
  unfolding settled
  settles = chosen (All c) _ _ _ (same _ refl) t

  follows : (b : Bool) → All c (followed b k)
  unfolding followed
  follows b = chosen (All c) _ _ _ (over _) settles

-- ---- each call

module _ (c : ℕ → Seat) (m : Master) (h : All c m) where
  hears : (i : ℕ) (msg : List ℕ) → All c (heard m i (slot_at m i) (execution_in msg)).master
  unfolding heard interrupted recorded
  hears i msg =
      let H : Hearing → Type 0 = λ x. All c x.master in
      chosen H _ _ _ (chosen H _ _ _ (over c m h _) h) (chosen (All c) _ _ _ (kept_over c _ (same c m h _ refl)) (same c m h _ refl))

  counts : (mm : ℕ) → All c (ticked m mm)
  unfolding ticked recording_ticked playback_ticked
  counts mm =
      chosen (All c) _ _ _ (chosen (All c) _ _ _ (over c m h _) (same c m h _ refl))
      (chosen (All c) _ _ _ (chosen (All c) _ _ _ (same c m h _ refl) (over c m h _)) (settles c m h))

  stops : All c (stopped m)
  unfolding stopped
  stops = chosen (All c) _ _ _ (same c m h _ refl) (kept_over c m h)

  all_after : (e : Event) → number_of (call_of m e) ≡ 0 → All (λ slot. seat_by slot (c slot) e) (call_of m e).after
  unfolding on_call off_call attach_call want_call report_call lost_call record_call stop_call cancel_call indication_call start_call abort_call client_abort_call answer_call tick_call store_call load_call edition_call replied reported clients.lost
  all_after on z = same c m h _ refl
  all_after off z = same c m h _ refl
  all_after «record» z = same c m h _ refl
  all_after stop z = stops
  all_after cancel z = over c m h _
  all_after start z = same c m h _ refl
  all_after abort z = over c m h _
  all_after (attach i name pool) z =
      put c m h (λ _. filled_seat name pool) i (attached name (kept_of_pool pool)) (below i _ (passed _ _ _ _ _ z).here)
      (record { taken = refl; wanted = refl; report = refl; name = λ _. refl; pool = λ _. refl; accepted = λ _. fit (verdict_of pool).code (passed _ _ _ _ _ z).goes })
  all_after (enable i out) z = put c m h (wanted_seat true) i _ (below i _ (passed _ _ _ _ _ z).here) (wants c m h i 1)
  all_after (disable i out) z = put c m h (wanted_seat false) i _ (below i _ (passed _ _ _ _ _ z).here) (wants c m h i 0)
  all_after (report i number) z =
      let p = passed _ _ _ _ _ z in
      follows _ _
      (put c m h (reported_seat number) i _ (below i _ p.here)
      (subst (λ (n : ℕ). Holds (reported_seat number (c i)) (reported_slot (slot_at m i) n)) (sym (report_is c m h number p.right))
      (reports c m h i number (not-false _ (neither (leb 8 i) _ p.here).1))))
      _
  all_after (lost i) z = follows _ _ (put c m h (λ _. empty_seat) i blank_slot (below i _ (passed _ _ _ _ _ z).here) empty) _
  all_after (indication i msg out) z = hears i msg
  all_after (client_abort i msg) z = over c m h _
  all_after (tick mm out) z = counts mm
  all_after (answer i msg out) z = chosen (All c) _ _ _ (over c m h _) (chosen (All c) _ _ _ (over c m h _) (same c m h _ refl))
  all_after (store out) z = h
  all_after (load blocks) z = same c m h _ refl
  all_after (edition n) z = same c m h _ refl

-- ---- over every run

module _ (events : List Event) (e : Event) (h : All (seat_of events) (run events)) where
  abbrev m : Master
  m = run events

  after : (n : Master) (b : Bool) → is_done events e ≡ b → All (λ slot. pick b (seat_by slot (seat_of events slot) e) (seat_of events slot)) n
      → All (λ slot. seat_after slot events e (seat_of events slot)) n
  after n b q t = subst (λ (x : Bool). All (λ slot. pick x (seat_by slot (seat_of events slot) e) (seat_of events slot)) n) (sym q) t

  refused : All (seat_of events) m → All (λ slot. pick false (seat_by slot (seat_of events slot) e) (seat_of events slot)) m
  unfolding pick
  refused t = t

  accepted : (n : Master) → All (λ slot. seat_by slot (seat_of events slot) e) n
      → All (λ slot. pick true (seat_by slot (seat_of events slot) e) (seat_of events slot)) n
  unfolding pick
  accepted n t = t

  all_more : All (λ slot. seat_after slot events e (seat_of events slot)) (apply m e).master
  all_more =
      either_way m (call_of m e) (All (λ slot. seat_after slot events e (seat_of events slot)))
      (λ n. after m false (ne_eqb _ 0 (λ z. n (sym (number_is m (call_of m e)) ∙ z))) (refused h))
      (λ z. after _ true (eq-eqb _ 0 (number_is m (call_of m e) ∙ z)) (accepted _ (all_after (seat_of events) m h e z)))

  all_now : All (seat_of (events ++ e ∷ [])) (run (events ++ e ∷ []))
  all_now =
      let t = subst (All (λ slot. seat_after slot events e (seat_of events slot))) (sym (run_more events e)) all_more in
      record {
        eight = t.eight;
        each = λ slot.
            subst (λ (x : Seat). Holds x (slot_at (run (events ++ e ∷ [])) slot)) (sym (gather_more (seat_after slot) empty_seat events e)) (t.each slot);
      }

none_yet : All (seat_of []) (run [])
unfolding new_master
none_yet = record {
  eight = refl;
  each = λ slot.
      either (ltb slot 8)
      (λ l. subst (Holds empty_seat) (sym (get_or-replicate 8 slot blank_slot no_slot (ltb-true slot 8 l))) empty)
      (λ l. subst (Holds empty_seat) (sym (get_or-eq_default (replicate 8 blank_slot) no_slot (ltb-false slot 8 l))) none);
}

all_seats : (events : List Event) → All (seat_of events) (run events)
all_seats = along (λ events. All (seat_of events) (run events)) none_yet all_now

pub holds : (events : List Event) (slot : ℕ) → Holds (seat_of events slot) (slot_at (run events) slot)
holds events slot = (all_seats events).each slot

pub attaching : Attaching
attaching = record {
  taken = λ events slot. (holds events slot).taken;
  wanted = λ events slot. (holds events slot).wanted;
  report = λ events slot. (holds events slot).report;
  name = λ events slot t. (holds events slot).name t;
  pool = λ events slot t. (holds events slot).pool t;
  accepted = λ events slot t. (holds events slot).accepted t;
}
