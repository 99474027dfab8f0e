-- What a recording keeps, blocks may say: each step is in its ranges, and the record of each client is that of an accepted pool.
use Prim.Native.Nat.{ℕ, ◌≤◌, ◌<◌}
use mathlib.Core.Path.{◌≡◌, refl, sym, ap, subst, ◌∙◌}
use mathlib.Core.Bool.{Bool, true, false, ◌&&◌, cond, true≢false}
use mathlib.Core.Logic.{inl, inr}
use mathlib.Core.List.{List, [], ◌∷◌, ◌++◌, map}
use native.Mathlib.Omega.{arith}
use lib.Dec.{eqb, leb}
use lib.ListN.{length, get_or, get_or-replicate}
use borrow.Author.Tests.{lt-ltb, le-leb, leb-true, leb-false, not-false}
use Rattle.octets.specs.Pick.{pick}
use Rattle.arrays.specs.Arrays.{some, those}
use Rattle.arrays.specs.Every.{Every}
use Rattle.arrays.proofs.Every.{neither, every_at, every_those, every_weaken}
use Rattle.client.specs.Clients.{is_taken}
use Rattle.client.specs.Records.{is_used, blank_record, record_of}
use Rattle.client.specs.declared.ClientRecord.{ClientRecord}
use Rattle.sequence.specs.Sequence.{by_distance, blank_sequence, steps_of}
use Rattle.sequence.specs.Editions.{with_edition}
use Rattle.sequence.specs.declared.Step.{Step}
use Rattle.sequence.specs.declared.Sequence.{Sequence}
use Rattle.recording.proofs.Sound.{unused}
use Rattle.store.specs.Fields.{most_ticks, most_distance, most_mark, step_right}
use Rattle.store.specs.Loaded.{loaded_of}
use Rattle.store.specs.Legal.{RightRecord, Legal}
use Rattle.store.proofs.Pools.{right_record}
use Rattle.master.specs.declared.Master.{Master}
use Rattle.master.specs.States.{new_master}
use Rattle.master.specs.Call.{slot_at}
use Rattle.master.specs.Messages.{execution_in}
use Rattle.master.specs.Recording.{indication_call}
use Rattle.master.proofs.Calls.{passed}
use Rattle.events.specs.Events.{Event, indication, call_of, apply, run, Given}
use Rattle.events.proofs.Calls.{number_is}
use Rattle.events.proofs.Choices.{chosen_by}
use Rattle.events.proofs.Loads.{legal_loaded}
use Rattle.events.proofs.Regular.{given_regular}
use Rattle.history.specs.Runs.{Succeeds}
use Rattle.history.specs.Seats.{seat_of, client_in}
use Rattle.history.specs.Steps.{Entry, Begins, is_first, is_step_from, is_from, beginnings, recorded_by, client_of, record_for, kept_from}
use Rattle.history.specs.Log.{log_of, entries_in, log_with}
use Rattle.history.specs.Promises.{Happened, Recorded, Origin}
use Rattle.history.proofs.Ticks.{counting}
use Rattle.history.proofs.Slots.{holds}
use Rattle.history.proofs.Gather.{run_more, along}
use Rattle.history.proofs.Lists.{every_append}
use Rattle.history.proofs.Next.{SequenceAfter, still_same, now_kept, now_loaded, now_set}
use Rattle.history.proofs.Editions.{same_steps}
use Rattle.history.proofs.Loads.{is_accepted}
use Rattle.history.proofs.Runs.{happened, happened_last, kept_steps, sequence_after, traces}
use Rattle.history.proofs.Responses.{few_states}

-- ---- an E.4 of a recording

module _ (before : List Event) (slot : ℕ) (msg out : List ℕ) (d : Succeeds before (indication slot msg out)) where
  here : (slot < 8) × (is_taken (slot_at (run before) slot) ≡ true)
  unfolding indication_call
  here =
      let n = neither (leb 8 slot) _ (passed _ _ _ _ _ (sym (number_is (run before) (call_of (run before) (indication slot msg out))) ∙ d)).here in
      (leb-false 8 slot n.0, not-false _ n.1)

  client_right_lem : RightRecord (client_in before slot)
  unfolding record_of
  client_right_lem = right_record (seat_of before slot).pool (seat_of before slot).name ((holds before slot).accepted here.1)

entry_right : (events : List Event) (x : Entry) → Happened events x → RightRecord x.client
entry_right events x h = subst (λ (y : Entry). RightRecord y.client) (sym h.entry) (client_right_lem h.before h.slot h.msg h.out h.accepted)

-- ---- a step

-- what the indication that began it says of it
record Ranged (x : Entry) : Type 0 where
  slot : x.slot < 8
  state : x.message.state < 64
  ticks : x.ticks ≤ most_ticks
  distance : x.distance ≤ most_distance

ranged : (events : List Event) (x : Entry) → Happened events x → Ranged x
ranged events x h = subst Ranged (sym h.entry) (record {
  slot = (here h.before h.slot h.msg h.out h.accepted).0;
  state = let l : (execution_in h.msg).state ≤ 63 = leb-true (execution_in h.msg).state 63 (few_states h.msg) in omega (arith, l);
  ticks = let l = counting.below h.before h.recording in omega arith;
  distance =
      let k = (given_regular (run h.before) (h.before, refl)).recording.counted in
      let e = counting.distance h.before h.recording in
      omega (arith, k.0, k.1, e);
})

step_right_lem : (x : Entry) (s : Step) → Ranged x → Begins x s → step_right s ≡ true
unfolding pick
step_right_lem x s r b =
    let slot = r.slot in
    let state = r.state in
    go (eqb x.trigger 2) b.kind b.mark
  where
    fields : step_right s ≡ (leb s.distance 1 && leb s.mark (most_mark (by_distance s)))
    fields = rw (b.slot, b.state, lt-ltb x.slot 8 r.slot, lt-ltb x.message.state 64 r.state)

    go : (t : Bool) → s.distance ≡ pick t 1 0 → s.mark ≡ pick t x.distance x.ticks → step_right s ≡ true
    go true k m = fields ∙ rw (k, m) (le-leb x.distance most_distance r.distance)
    go false k m = fields ∙ rw (k, m) (le-leb x.ticks most_ticks r.ticks)

pub recorded_right : (events : List Event) (s : Step) → Recorded events s → step_right s ≡ true
recorded_right events s r = step_right_lem r.began s (ranged events r.began r.began_in) r.start

-- ---- the records that a log gives

pub Right : ClientRecord → Type 0
Right r = is_used r ≡ true → RightRecord r

module _ (P : Entry → Type 0) where
  begun : (earlier log : List Entry) → Every P log → Every P (beginnings earlier log)
  begun earlier [] h = tt
  begun earlier (x ∷ log) h = go (is_first earlier x) (begun (earlier ++ x ∷ []) log h.1)
    where
      go : (b : Bool) → Every P (beginnings (earlier ++ x ∷ []) log)
          → Every P (cond b (x ∷ beginnings (earlier ++ x ∷ []) log) (beginnings (earlier ++ x ∷ []) log))
      go true k = (h.0, k)
      go false k = k

first_right : (l : List Entry) → Every (λ x. RightRecord x.client) l → Right (client_of l)
unfolding Right
first_right [] h u = absurd (true≢false (sym u ∙ unused))
first_right (x ∷ l) h u = h.0

module _ (log : List Entry) (h : Every (λ x. RightRecord x.client) log) where
  record_right : (slot : ℕ) → Right (record_for log slot)
  unfolding Right
  record_right slot =
      chosen_by Right (some (is_step_from slot) (recorded_by log)) _ blank_record
      (λ _. first_right (those (is_from slot) (beginnings [] log)) (every_those _ (is_from slot) (beginnings [] log) (begun _ [] log h)))
      (λ _ u. absurd (true≢false (sym u ∙ unused)))

  -- of each slot
  pub records_right : (l : List ℕ) → Every Right (map (record_for log) l)
  records_right [] = tt
  records_right (slot ∷ l) = (record_right slot, records_right l)

-- ---- the records of a sequence, along every run

RightIn : Sequence → Type 0
RightIn q = (slot : ℕ) → slot < 8 → Right (get_or q.records slot blank_record)

none_right : RightIn blank_sequence
unfolding RightIn Right blank_sequence
none_right slot l u = absurd (true≢false (sym u ∙ ap is_used (get_or-replicate 8 slot blank_record blank_record l) ∙ unused))

legal_right : (q : Sequence) → Legal q → RightIn q
unfolding RightIn Right
legal_right q k slot l u = k.records slot l (sym (k.sound.recorded slot l) ∙ u)

log_right : (events : List Event) (e : Event) → Every (λ x. RightRecord x.client) (log_with events e)
log_right events e =
    every_append _ (log_of events) (entries_in events e)
    (every_weaken (entry_right events) (log_of events) (happened events))
    (every_weaken (entry_right (events ++ e ∷ [])) (entries_in events e) (happened_last events e))

abbrev slots : List ℕ
slots = 0 ∷ 1 ∷ 2 ∷ 3 ∷ 4 ∷ 5 ∷ 6 ∷ 7 ∷ []

kept_right : (log : List Entry) (old : Sequence) → Every (λ x. RightRecord x.client) log → RightIn old → RightIn (kept_from log old)
unfolding RightIn
kept_right log old h k =
    chosen_by RightIn (eqb (length (recorded_by log)) 0) old _ (λ _. k)
    (λ _ slot l. every_at Right (map (record_for log) slots) slot blank_record l (records_right log h slots))

set_right : (old : Sequence) (n : ℕ) → RightIn old → RightIn (with_edition old n)
unfolding RightIn
set_right old n k = k

right_more : (events : List Event) (e : Event) → RightIn (run events).sequence → RightIn (run (events ++ e ∷ [])).sequence
right_more events e k = subst (λ (m : Master). RightIn m.sequence) (sym (run_more events e)) (go (sequence_after events e))
  where
    go : SequenceAfter (run events) e (log_with events e) (apply (run events) e).master → RightIn (apply (run events) e).master.sequence
    go (still_same c f) = subst RightIn (sym c) k
    go (now_kept z x t) = subst RightIn (sym x) (kept_right (log_with events e) (run events).sequence (log_right events e) k)
    go (now_loaded blocks q z x) =
        subst RightIn (sym x)
        (legal_right _ (legal_loaded blocks (is_accepted events blocks (subst (λ (y : Event). (apply (run events) y).number ≡ 0) q z))))
    go (now_set n q z x) = subst RightIn (sym x) (set_right (run events).sequence n k)

right_records : (events : List Event) → RightIn (run events).sequence
unfolding new_master
right_records = along (λ events. RightIn (run events).sequence) none_right right_more

-- ---- its steps

right_steps : (events : List Event) → Every (λ s. step_right s ≡ true) (steps_of (run events).sequence)
right_steps events = go (traces events).kept
  where
    go : Origin events → Every (λ s. step_right s ≡ true) (steps_of (run events).sequence)
    go (inl z) = rw z tt
    go (inr (inl k)) = every_weaken (recorded_right events) (steps_of (run events).sequence) (kept_steps events k)
    go (inr (inr k)) =
        rw (same_steps (run events).sequence (loaded_of k.blocks).sequence k.sequence)
        (legal_loaded k.blocks (is_accepted k.before k.blocks k.accepted)).steps

-- so the sequence of every master that calls give, if it has a step, is one that blocks may say
pub legal : (m : Master) → Given m → 1 ≤ m.sequence.count → Legal m.sequence
unfolding RightIn Right
legal m (events, e) = subst (λ (k : Master). 1 ≤ k.sequence.count → Legal k.sequence) e (λ h.
    let s = (given_regular (run events) (events, refl)).sequence in
    record { some_step = h; sound = s; steps = right_steps events; records = λ slot l t. right_records events slot l (s.recorded slot l ∙ t) })
