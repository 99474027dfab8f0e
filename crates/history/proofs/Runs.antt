-- Over every run: the log is of its calls, and the steps and the sequence are those of the log, or of a load, in any edition.
use Prim.Native.Nat.{ℕ}
use mathlib.Core.Path.{◌≡◌, refl, sym, ap, subst, ◌∙◌}
use mathlib.Core.Bool.{Bool, true, false, ◌&&◌, true≢false}
use mathlib.Core.Logic.{◌⊎◌, inl, inr}
use mathlib.Core.List.{List, [], ◌∷◌, ◌++◌, append_assoc}
use lib.Dec.{eqb}
use borrow.Author.Tests.{eq-eqb, eqb-true}
use Rattle.arrays.specs.Every.{Every}
use Rattle.arrays.proofs.Every.{every_weaken}
use Rattle.sequence.specs.Sequence.{steps_of, blank_sequence}
use Rattle.sequence.specs.Editions.{with_edition}
use Rattle.recording.proofs.Steps.{both}
use Rattle.sequence.specs.declared.Step.{Step}
use Rattle.store.specs.Loaded.{loaded_of}
use Rattle.message.specs.declared.Status.TheVariants.{AtOnce, Started}
use Rattle.recording.specs.Indication.{status}
use Rattle.master.specs.declared.Master.{Master}
use Rattle.master.specs.States as state
use Rattle.master.specs.States.{new_master, is_recording}
use Rattle.master.specs.{Storing.load_call, Editions.edition_call}
use Rattle.events.specs.Events.{Event, indication, load, edition, Sort, stops, hears, ticks, answers, loads, other, sort_of, call_of, apply, run}
use Rattle.events.proofs.Calls.{after_is}
use Rattle.events.proofs.Choices.{chosen_by}
use Rattle.history.specs.Runs.{Succeeds}
use Rattle.history.specs.Log.{entries_by, log_after, log_of, entries_in, log_with}
use Rattle.history.specs.Steps.{Entry, is_accepted, is_finish, FirstOf, kept_from}
use Rattle.history.specs.Promises.{Traced, KeptBy, LoadedBy, Origin, Happened, Recorded, HasOrigin, does_keep}
use Rattle.history.proofs.Gather.{run_more, gather_more, along}
use Rattle.history.proofs.Lists.{all_true, every_chosen, every_append}
use Rattle.history.proofs.Held.{done_is}
use Rattle.history.proofs.Told.{told_blank}
use Rattle.history.proofs.Next.{Good, SequenceAfter, still_same, now_kept, now_loaded, now_set, Next, apply_next}
use Rattle.history.proofs.Editions.{SameButEdition, in_edition, through, same_steps}
use Rattle.history.proofs.Loads.{loaded_steps}

log_more : (events : List Event) (e : Event) → log_of (events ++ e ∷ []) ≡ log_after events e (log_of events)
log_more events e = gather_more log_after [] events e

-- ---- the entries are of the run

happened_by : (before : List Event) (e : Event) (s : Sort e) → Every (Happened (before ++ e ∷ [])) (entries_by before (log_of before) e s)
happened_by before e stops = tt
happened_by before e (hears slot msg out) =
    chosen_by (Every (Happened (before ++ indication slot msg out ∷ []))) _ _ _
    (λ t.
    let b = both (is_recording (run before)) _ t in (
      record {
        before = before;
        slot = slot;
        msg = msg;
        out = out;
        after = [];
        all = refl;
        recording = b.0;
        accepted = eqb-true _ 0 b.1;
        entry = refl;
      },
      tt,
    ))
    (λ _. tt)
happened_by before e (ticks mm out) = tt
happened_by before e (answers slot msg out) = tt
happened_by before e (loads blocks) = tt
happened_by before e (other n) = tt

pub happened_last : (before : List Event) (e : Event) → Every (Happened (before ++ e ∷ [])) (entries_in before e)
happened_last before e = happened_by before e (sort_of e)

-- a call of the beginning of a run is one of the run
happened_in : (events rest : List Event) (x : Entry) → Happened events x → Happened (events ++ rest) x
happened_in events rest x h = record {
  before = h.before;
  slot = h.slot;
  msg = h.msg;
  out = h.out;
  after = h.after ++ rest;
  all = ap (λ (l : List Event). l ++ rest) h.all ∙ append_assoc h.before (indication h.slot h.msg h.out ∷ h.after) rest;
  recording = h.recording;
  accepted = h.accepted;
  entry = h.entry;
}

pub happened : (events : List Event) → Every (Happened events) (log_of events)
happened =
    along (λ events. Every (Happened events) (log_of events)) tt
    (λ events e h.
    subst (Every (Happened (events ++ e ∷ []))) (sym (log_more events e))
    (chosen_by (Every (Happened (events ++ e ∷ []))) _ _ _
    (λ _. every_append _ (log_of events) (entries_in events e) (every_weaken (happened_in events (e ∷ [])) (log_of events) h) (happened_last events e))
    (λ _. tt)))

-- ---- the steps are traced

pub record Traces (events : List Event) : Type 0 where
  pub good : Good (run events) (log_of events)
  pub kept : Origin events

none_yet : Traces []
unfolding new_master blank_sequence steps_of
none_yet = record {
  good = record { told = told_blank; idle = λ _. refl };
  kept = inl refl;
}

module _ (events : List Event) (e : Event) where
  abbrev all : List Event
  all = events ++ e ∷ []

  more : run all ≡ (apply (run events) e).master
  more = run_more events e

  more_sequence : (run all).sequence ≡ (apply (run events) e).master.sequence
  more_sequence = ap (λ (m : Master). m.sequence) more

  kept_still : SameButEdition (run all).sequence (run events).sequence → KeptBy events → KeptBy all
  kept_still c k = record {
    before = k.before;
    last = k.last;
    after = k.after ++ e ∷ [];
    all = ap (λ (l : List Event). l ++ e ∷ []) k.all ∙ append_assoc k.before (k.last ∷ k.after) (e ∷ []);
    recording = k.recording;
    keeps = k.keeps;
    ended = k.ended;
    sequence = through (run all).sequence (run events).sequence (run (k.before ++ k.last ∷ [])).sequence c k.sequence;
    steps = subst (Every (Traced (log_with k.before k.last))) (sym (same_steps (run all).sequence (run events).sequence c)) k.steps;
  }

  loaded_still : SameButEdition (run all).sequence (run events).sequence → LoadedBy events → LoadedBy all
  loaded_still c k = record {
    before = k.before;
    blocks = k.blocks;
    after = k.after ++ e ∷ [];
    all = ap (λ (l : List Event). l ++ e ∷ []) k.all ∙ append_assoc k.before (load k.blocks ∷ k.after) (e ∷ []);
    accepted = k.accepted;
    sequence = through (run all).sequence (run events).sequence (loaded_of k.blocks).sequence c k.sequence;
  }

  still : Origin events → SameButEdition (run all).sequence (run events).sequence → Origin all
  still (inl z) c = inl (same_steps (run all).sequence (run events).sequence c ∙ z)
  still (inr (inl k)) c = inr (inl (kept_still c k))
  still (inr (inr k)) c = inr (inr (loaded_still c k))

  -- it is the old one, in an edition
  old : (n : ℕ) → (apply (run events) e).master.sequence ≡ with_edition (run events).sequence n → Origin events → Origin all
  old n c k = still k (in_edition (run all).sequence (run events).sequence n (more_sequence ∙ c))

  kept_more : Origin events → SequenceAfter (run events) e (log_with events e) (apply (run events) e).master → Origin all
  kept_more k (still_same c f) = old (run events).sequence.edition c k
  kept_more k (now_loaded blocks q d c) = inr (inr (record {
    before = events;
    blocks = blocks;
    after = [];
    all = ap (λ (x : Event). events ++ x ∷ []) q;
    accepted = subst (Succeeds events) q d;
    sequence = in_edition (run all).sequence (loaded_of blocks).sequence (loaded_of blocks).sequence.edition (more_sequence ∙ c);
  }))
  kept_more k (now_set n q d c) = old n c k
  kept_more k (now_kept z x (inl c)) = old (run events).sequence.edition c k
  kept_more k (now_kept (i, y, r) x (inr t)) = inr (inl (record {
    before = events;
    last = e;
    after = [];
    all = refl;
    recording = i;
    keeps = y;
    ended = ap (λ (m : Master). m.state) more ∙ r;
    sequence = refl;
    steps = subst (λ (m : Master). Every (Traced (log_with events e)) (steps_of m.sequence)) (sym more) t;
  }))

  next : Traces events → Next (run events) e (log_of events) (entries_in events e) (apply (run events) e).master
  next h = apply_next events (log_of events) h.good e

  one_more : Traces events → Traces all
  one_more h = record {
    good =
        subst (λ (m : Master). Good m (log_of all)) (sym more)
        (subst (Good (apply (run events) e).master) (sym (log_more events e)) (next h).good);
    kept = kept_more h.kept (next h).sequence;
  }

pub traces : (events : List Event) → Traces events
traces = along Traces none_yet one_more

-- what a call makes of the sequence
pub sequence_after : (events : List Event) (e : Event) → SequenceAfter (run events) e (log_with events e) (apply (run events) e).master
sequence_after events e = (next events e (traces events)).sequence

-- ---- each step has its calls

first_holds : (P : Entry → Type 0) (p : Entry → Bool) (log : List Entry) (x : Entry) → Every P log → FirstOf p log x → P x × (p x ≡ true)
first_holds P p log x h f =
    (subst (Every (λ y. P y × (p y ≡ true))) f.1 (every_chosen (λ y. P y × (p y ≡ true)) p log (every_weaken (λ y k t. (k, t)) log h))).0

module _ (events : List Event) (log : List Entry) (h : Every (Happened events) log) where
  recorded_in : (s : Step) → Traced log s → Recorded events s
  recorded_in s t =
      let b = first_holds (Happened events) (is_accepted t.began.slot t.began.message.tan) log t.began h t.first in
      let same = eqb t.began.slot t.began.slot && eqb t.began.message.tan t.began.message.tan in
      go b.0 (eqb-true t.began.error 0 (both same (eqb t.began.error 0) b.1).1) t.finish
    where
      go :
          Happened events t.began → t.began.error ≡ 0
          → ((t.began.message.status ≡ AtOnce) × (t.finished ≡ t.began))
          ⊎ ((t.began.message.status ≡ Started) × FirstOf (is_finish t.began) log t.finished)
          → Recorded events s
      go b a (inl (o, e)) = record {
        began = t.began;
        began_in = b;
        answered = a;
        start = t.start;
        finished = t.finished;
        finished_in = subst (Happened events) (sym e) b;
        slot = ap (λ (x : Entry). x.slot) e;
        tan = ap (λ (x : Entry). x.message.tan) e;
        function = ap (λ (x : Entry). x.message.function) e;
        state = ap (λ (x : Entry). x.message.state) e;
        status = inl (o, e);
        value = t.value;
      }
      go b a (inr (o, f)) =
          let y = t.began in
          let x = t.finished in
          let k = first_holds (Happened events) (is_finish y) log x h f in
          let c = both (is_accepted y.slot y.message.tan x) _ k.1 in
          let d = both (eqb y.slot x.slot && eqb y.message.tan x.message.tan) (eqb x.error 0) c.0 in
          let i = both (eqb y.slot x.slot) (eqb y.message.tan x.message.tan) d.0 in
          let w = both _ (eqb (status x.message) 2) c.1 in
          let v = both (eqb y.message.function x.message.function) (eqb y.message.state x.message.state) w.0 in
          record {
            began = y;
            began_in = b;
            answered = a;
            start = t.start;
            finished = x;
            finished_in = k.0;
            slot = sym (eqb-true y.slot x.slot i.0);
            tan = sym (eqb-true y.message.tan x.message.tan i.1);
            function = sym (eqb-true y.message.function x.message.function v.0);
            state = sym (eqb-true y.message.state x.message.state v.1);
            status = inr (o, done_is x.message.status (eqb-true (status x.message) 2 w.1));
            value = t.value;
          }

pub kept_steps : (events : List Event) → KeptBy events → Every (Recorded events) (steps_of (run events).sequence)
kept_steps events k =
    let log = log_with k.before k.last in
    let whole : k.before ++ k.last ∷ k.after ≡ events = sym k.all in
    let there : Every (Happened (k.before ++ k.last ∷ k.after)) log =
    every_append _ (log_of k.before) (entries_in k.before k.last)
    (every_weaken (happened_in k.before (k.last ∷ k.after)) (log_of k.before) (happened k.before))
    (every_weaken (λ x h.
    subst (λ (l : List Event). Happened l x) (append_assoc k.before (k.last ∷ []) k.after) (happened_in (k.before ++ k.last ∷ []) k.after x h))
    (entries_in k.before k.last) (happened_last k.before k.last)) in
    every_weaken (recorded_in events log (subst (λ (l : List Event). Every (Happened l) log) whole there)) (steps_of (run events).sequence) k.steps

pub recorded : (events : List Event) → Every (HasOrigin events) (steps_of (run events).sequence)
recorded events = go (traces events).kept
  where
    go : Origin events → Every (HasOrigin events) (steps_of (run events).sequence)
    go (inl z) = rw z tt
    go (inr (inl k)) = every_weaken (λ s r. inl r) (steps_of (run events).sequence) (kept_steps events k)
    go (inr (inr k)) = every_weaken (λ s r. inr r) (steps_of (run events).sequence) (loaded_steps events k)

-- ---- all that is kept

pub exact :
    (before : List Event) (last : Event) → is_recording (run before) ≡ true → does_keep last ≡ true → (run (before ++ last ∷ [])).state ≡ state.ready
    → (run (before ++ last ∷ [])).sequence ≡ kept_from (log_with before last) (run before).sequence
exact before last i k z = more_sequence before last ∙ go (sequence_after before last)
  where
    go :
        SequenceAfter (run before) last (log_with before last) (apply (run before) last).master
        → (apply (run before) last).master.sequence ≡ kept_from (log_with before last) (run before).sequence
    go (still_same c f) = absurd (f (i, k, ap (λ (m : Master). m.state) (sym (more before last)) ∙ z))
    go (now_kept y x t) = x
    go (now_loaded blocks q d c) = absurd (true≢false (sym k ∙ ap does_keep q))
    go (now_set n q d c) = absurd (true≢false (sym k ∙ ap does_keep q))

pub loaded : (before : List Event) (blocks : List ℕ) → Succeeds before (load blocks) → (run (before ++ load blocks ∷ [])).sequence ≡ (loaded_of blocks).sequence
unfolding load_call
loaded before blocks d =
    ap (λ (m : Master). m.sequence) (more before (load blocks) ∙ after_is (run before) (call_of (run before) (load blocks)) d)

pub set : (before : List Event) (n : ℕ) → Succeeds before (edition n) → (run (before ++ edition n ∷ [])).sequence ≡ with_edition (run before).sequence n
unfolding edition_call
set before n d =
    ap (λ (m : Master). m.sequence) (more before (edition n) ∙ after_is (run before) (call_of (run before) (edition n)) d)

pub others :
    (before : List Event) (last : Event)
    → (is_recording (run before) && does_keep last && eqb (run (before ++ last ∷ [])).state state.ready) ≡ false
    → ((blocks : List ℕ) → last ≡ load blocks → Succeeds before last → ⊥) → ((n : ℕ) → last ≡ edition n → Succeeds before last → ⊥)
    → (run (before ++ last ∷ [])).sequence ≡ (run before).sequence
others before last n l s = more_sequence before last ∙ go (sequence_after before last)
  where
    go :
        SequenceAfter (run before) last (log_with before last) (apply (run before) last).master
        → (apply (run before) last).master.sequence ≡ (run before).sequence
    go (still_same c f) = c
    go (now_kept (i, y, r) x t) =
        let z = eq-eqb _ 1 (ap (λ (m : Master). m.state) (more before last) ∙ r) in
        absurd (true≢false (sym (all_true _ _ (all_true _ _ i y) z) ∙ n))
    go (now_loaded blocks q d c) = absurd (l blocks q d)
    go (now_set k q d c) = absurd (s k q d)
