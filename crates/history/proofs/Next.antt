-- What each change of the master does to the recording, its log and the sequence: most leave them, or end the recording; a tick counts, an E.4 is heard,
-- where a recording ends and is kept, its steps are those of the log, a load replaces the sequence, and an edition is set in it.
use Prim.Native.Nat.{ℕ, ◌≤◌}
use mathlib.Core.Path.{◌≡◌, refl, sym, ap, subst, ◌∙◌}
use mathlib.Core.Bool.{true, false, ◌&&◌, ◌||◌, true≢false}
use mathlib.Core.Logic.{◌⊎◌, inl, inr}
use mathlib.Core.List.{List, [], ◌∷◌, ◌++◌, append-nil}
use native.Mathlib.Omega.{arith}
use lib.Dec.{eqb, leb}
use borrow.Author.Tests.{eq-eqb, ne_eqb, not-false}
use Rattle.octets.specs.Pick.{pick}
use Rattle.octets.proofs.Tests.{pick_true, pick_false}
use Rattle.arrays.specs.Arrays.{some}
use Rattle.arrays.specs.Every.{Every}
use Rattle.arrays.proofs.Every.{neither}
use Rattle.profile.specs.declared.Profile.{Profile}
use Rattle.client.specs.Clients.{is_taken}
use Rattle.client.specs.Records.{record_of}
use Rattle.sequence.specs.Sequence.{steps_of}
use Rattle.sequence.specs.Editions.{with_edition}
use Rattle.sequence.specs.declared.Sequence.{Sequence}
use Rattle.store.specs.Loaded.{loaded_of}
use Rattle.recording.specs.State.{blank_recording}
use Rattle.recording.specs.Indication.{held_of}
use Rattle.recording.specs.Kept.{stays, kept_sequence}
use Rattle.recording.specs.Promises.{Sound}
use Rattle.recording.specs.declared.Recording.{Recording}
use Rattle.recording.proofs.Sound.{sound_heard}
use Rattle.recording.proofs.Keeps as kept
use Rattle.master.specs.declared.Master.{Master}
use Rattle.master.specs.Call.{slot_at, is_absent}
use Rattle.master.specs.Messages.{execution_in}
use Rattle.master.specs.States as state
use Rattle.master.specs.States.{is_recording, is_playing, with_state, with_sequence, with_recording, with_playback, ended}
use Rattle.master.specs.Recording.{recording_ended, indication_call}
use Rattle.master.proofs.Calls.{passed, below}
use Rattle.events.specs.Events.{Event, indication, load, edition, Sort, stops, hears, ticks, answers, loads, other, sort_of, number_by, call_of, apply, run}
use Rattle.events.proofs.Calls.{number_is, either_way}
use Rattle.events.proofs.Choices.{either}
use Rattle.events.proofs.Changes.{Rests, low, heard_in, Replaces, loaded, in_edition, Change, rested, moved, dropped, broken, record_starts, record_waits, record_ends, record_hears, record_hears_last, record_ticks, play_starts, play_ticks, play_ticks_last, play_hears, play_hears_last, replaced, not_recording}
use Rattle.events.proofs.Invariant.{done_change}
use Rattle.events.proofs.Regular.{given_regular}
use Rattle.history.specs.Runs.{is_done}
use Rattle.history.specs.Seats.{pool_in, client_in}
use Rattle.history.specs.Steps.{Entry, kept_from}
use Rattle.history.specs.Answers.{error_from}
use Rattle.history.specs.Log.{is_complete, entry_of, entries_by}
use Rattle.history.specs.Promises.{Traced, does_keep_by, does_keep}
use Rattle.history.proofs.Lists.{all_true, left_false, right_false}
use Rattle.history.proofs.Told.{Told, told_blank, told_counted, entry, told_heard}
use Rattle.history.proofs.Kept.{kept_traced, kept_exact}
use Rattle.history.proofs.Answers.{error_is}
use Rattle.history.proofs.Ticks.{counted_since}
use Rattle.history.proofs.Slots.{holds}
use Rattle.history.proofs.States.{is_not, not_ready, alike}

-- ---- what is so of a master and its log

pub record Good (m : Master) (log : List Entry) : Type 0 where
  pub told : Told m.recording log
  pub idle : is_recording m ≡ false → log ≡ []

-- a recording ends and is kept
abbrev Ends : Master → Event → Master → Type 0
Ends m e n = (is_recording m ≡ true) × (does_keep e ≡ true) × (n.state ≡ state.ready)

-- the sequence is the old one; or a recording ends and is kept, and its steps are those of the log: the old ones, or each is traced; or a load brings it;
-- or an edition is set in it
pub data SequenceAfter (m : Master) (e : Event) (log : List Entry) (n : Master) : Type 0 where
  still_same : n.sequence ≡ m.sequence → (Ends m e n → ⊥) → SequenceAfter m e log n
  now_kept : Ends m e n → n.sequence ≡ kept_from log m.sequence
      → (n.sequence ≡ m.sequence) ⊎ Every (Traced log) (steps_of n.sequence) → SequenceAfter m e log n
  now_loaded : (blocks : List ℕ) → e ≡ load blocks → (apply m e).number ≡ 0 → n.sequence ≡ (loaded_of blocks).sequence → SequenceAfter m e log n
  now_set : (k : ℕ) → e ≡ edition k → (apply m e).number ≡ 0 → n.sequence ≡ with_edition m.sequence k → SequenceAfter m e log n

-- the log where the recording goes on
abbrev now : Master → List Entry → List Entry
now m log = pick (is_recording m) log []

pub record Next (m : Master) (e : Event) (log new : List Entry) (n : Master) : Type 0 where
  pub good : Good n (now n (log ++ new))
  pub sequence : SequenceAfter m e (log ++ new) n

-- ---- what the call brings, and whether it keeps

module _ (before : List Event) (log : List Entry) where
  silent_by : (e : Event) (s : Sort e) → (is_recording (run before) ≡ true → number_by s ≡ 1 → ⊥) → entries_by before log e s ≡ []
  silent_by e stops h = refl
  silent_by e (hears slot msg out) h =
      pick_false (is_recording (run before) && is_done before (indication slot msg out)) _ []
      (either (is_recording (run before)) (λ t. absurd (h t refl)) (λ t. left_false (is_recording (run before)) _ t))
  silent_by e (ticks mm out) h = refl
  silent_by e (answers slot msg out) h = refl
  silent_by e (loads blocks) h = refl
  silent_by e (other k) h = refl

  -- a refused call brings no entry
  refused_by : (e : Event) (s : Sort e) → ((apply (run before) e).number ≡ 0 → ⊥) → entries_by before log e s ≡ []
  refused_by e stops h = refl
  refused_by e (hears slot msg out) h =
      pick_false (is_recording (run before) && is_done before (indication slot msg out)) _ [] (right_false (is_recording (run before)) _ (ne_eqb _ _ h))
  refused_by e (ticks mm out) h = refl
  refused_by e (answers slot msg out) h = refl
  refused_by e (loads blocks) h = refl
  refused_by e (other k) h = refl

keeps_none : (e : Event) (s : Sort e) → 2 ≤ number_by s → does_keep_by e s ≡ true → ⊥
keeps_none e stops l k = omega arith
keeps_none e (hears slot msg out) l k = omega arith
keeps_none e (ticks mm out) l k = true≢false (sym k)
keeps_none e (answers slot msg out) l k = true≢false (sym k)
keeps_none e (loads blocks) l k = true≢false (sym k)
keeps_none e (other n) l k = true≢false (sym k)

-- ---- one master to the next

module _ (m : Master) (log : List Entry) (g : Good m log) (e : Event) where
  -- the recording is as it was, and the log
  same_good : (new : List Entry) (n : Master) → n.recording ≡ m.recording → is_recording n ≡ is_recording m → new ≡ [] → Good n (now n (log ++ new))
  same_good new n a b none =
      subst (λ (l : List Entry). Good n (now n (log ++ l))) (sym none)
      (subst (Good n) (sym same_log) (record { told = subst (λ (r : Recording). Told r log) (sym a) g.told; idle = λ t. g.idle (sym b ∙ t) }))
    where
      same_log : now n (log ++ []) ≡ log
      same_log = either (is_recording m) (λ t. pick_true _ _ _ (b ∙ t) ∙ append-nil log) (λ t. pick_false _ _ _ (b ∙ t) ∙ sym (g.idle t))

  -- all that counts is as it was
  quiet :
      (new : List Entry) (n : Master) → n.recording ≡ m.recording → is_recording n ≡ is_recording m → n.sequence ≡ m.sequence → new ≡ [] → (Ends m e n → ⊥)
      → Next m e log new n
  quiet new n a b c none f = record { good = same_good new n a b none; sequence = still_same c f }

  -- nothing of a recording or a playback is left
  blank : (k : Master) (s : ℕ) → (eqb s 2 || eqb s 3) ≡ false → (l : List Entry) → Good (ended k s) (now (ended k s) l)
  unfolding ended
  blank k s t l = subst (Good (ended k s)) (sym (pick_false (eqb s 2 || eqb s 3) l [] t)) (record { told = told_blank; idle = λ _. refl })

  over :
      (new : List Entry) (k : Master) (s : ℕ) → k.sequence ≡ m.sequence → (eqb s 2 || eqb s 3) ≡ false → (Ends m e (ended k s) → ⊥)
      → Next m e log new (ended k s)
  unfolding ended
  over new k s c t f = record { good = blank k s t (log ++ new); sequence = still_same c f }

  -- the recording goes on and has changed
  going :
      (r : Recording) (new : List Entry) → is_recording m ≡ true → Told r (log ++ new) → Next m e log new (with_recording m r)
  going r new i t = record {
    good = subst (Good (with_recording m r)) (sym (pick_true _ _ _ i)) (record { told = t; idle = λ f. absurd (true≢false (sym i ∙ f)) });
    sequence = still_same refl (λ z. not_ready m i z.2);
  }

  -- a recording has ended and is kept
  keeps :
      (k : Master) (new : List Entry) → k.sequence ≡ m.sequence → does_keep e ≡ true → is_recording m ≡ true → Sound k.recording
      → Told k.recording (log ++ new) → Next m e log new (recording_ended k)
  unfolding recording_ended ended
  keeps k new c y i s t = record {
    good = blank (with_sequence k (kept_sequence k.recording k.sequence)) state.ready refl (log ++ new);
    sequence =
        now_kept (i, y, refl) (kept_exact (log ++ new) k.recording k.sequence s t ∙ ap (kept_from (log ++ new)) c)
        (either (some stays (held_of k.recording))
        (λ n. inr (kept_traced (log ++ new) k.recording k.sequence s t n))
        (λ n. inl ((kept.keeps k.recording k.sequence s).none n ∙ c)));
  }

  whole_log : Told m.recording (log ++ [])
  whole_log = subst (Told m.recording) (sym (append-nil log)) g.told

-- ---- E.4

sound_in : (before : List Event) → Sound (run before).recording
sound_in before = (given_regular (run before) (before, refl)).recording.sound

module _ (before : List Event) (log : List Entry) (g : Good (run before) log) (slot : ℕ) (msg out : List ℕ)
    (i : is_recording (run before) ≡ true) (w : (apply (run before) (indication slot msg out)).number ≡ 0) where
  abbrev m : Master
  m = run before

  s : Sound m.recording
  s = sound_in before

  abbrev x : Entry
  x = entry log m.recording slot (slot_at m slot) (is_complete m) (execution_in msg) s g.told (heard_in m slot msg).error

  present : is_absent m slot ≡ false
  unfolding indication_call
  present = (passed _ _ _ _ _ (sym (number_is m (call_of m (indication slot msg out))) ∙ w)).here

  -- the client is there, with the NAME and the pool of the last attach
  taken : is_taken (slot_at m slot) ≡ true
  taken = not-false _ (neither (leb 8 slot) _ present).1

  kept_of : record_of (slot_at m slot) ≡ client_in before slot
  unfolding record_of
  kept_of = let h = holds before slot in rw (h.name taken, h.pool taken)

  pub answer_is : (heard_in m slot msg).error ≡ error_from log (pool_in before slot) (is_complete m) slot (execution_in msg)
  answer_is =
      error_is log m.recording slot (slot_at m slot) (is_complete m) (execution_in msg) s g.told
      ∙ ap (λ (p : Profile). error_from log p (is_complete m) slot (execution_in msg)) ((holds before slot).pool taken)

  -- what the log says of it is so
  entry_is : entry_of before log slot msg ≡ x
  entry_is =
      let c = counted_since before i in
      rw (answer_is, c.0, c.1, (holds before slot).pool taken, kept_of)

  entries_are : entries_by before log (indication slot msg out) (hears slot msg out) ≡ x ∷ []
  entries_are = pick_true _ _ _ (all_true _ _ i (eq-eqb _ _ w)) ∙ ap (λ (y : Entry). y ∷ []) entry_is

  told_now : Told (heard_in m slot msg).recording (log ++ x ∷ [])
  told_now = told_heard log m.recording slot (slot_at m slot) (is_complete m) (execution_in msg) s g.told

  pub told_with : Told (heard_in m slot msg).recording (log ++ entries_by before log (indication slot msg out) (hears slot msg out))
  told_with = subst (λ (new : List Entry). Told (heard_in m slot msg).recording (log ++ new)) (sym entries_are) told_now

  sound_now : Sound (heard_in m slot msg).recording
  sound_now = sound_heard m.recording slot (slot_at m slot) (is_complete m) (execution_in msg) s (below slot _ present)

-- ---- every change

module _ (before : List Event) (log : List Entry) (g : Good (run before) log) where
  abbrev pub here : Master
  here = run before

  abbrev pub brings : Event → List Entry
  brings e = entries_by before log e (sort_of e)

  at_rest : Rests here.state → is_recording here ≡ true → ⊥
  at_rest r i = true≢false (sym i ∙ is_not here.state r)

  in_play : is_playing here ≡ true → is_recording here ≡ true → ⊥
  in_play p i = true≢false (sym i ∙ not_recording here p)

  -- what replaces the sequence
  replaced_by :
      (e : Event) (q : Sequence) (new : List Entry) → (apply here e).number ≡ 0 → Replaces here e q
      → SequenceAfter here e (log ++ new) (with_sequence here q)
  replaced_by e q new w (loaded blocks z) = now_loaded blocks refl w refl
  replaced_by e q new w (in_edition k l z) = now_set k refl w refl

  changed : (e : Event) (n : Master) → (apply here e).number ≡ 0 → Change here e n → Next here e log (brings e) n
  changed e n w (rested x y) =
      let a = alike here n x in
      quiet here log g e (brings e) n a.recording (ap (λ (k : ℕ). eqb k 2 || eqb k 3) a.state) a.sequence (silent_by before log e (sort_of e) y)
      (λ z. not_ready here z.0 (sym a.state ∙ z.2))
  changed e n w (moved {k = k} x t a b) =
      let l = alike here k x in
      quiet here log g e (brings e) (with_state k t) l.recording (is_not t (low t b) ∙ sym (is_not here.state a)) l.sequence
      (silent_by before log e (sort_of e) (λ i _. at_rest a i)) (λ z. at_rest a z.0)
  changed e n w (dropped {k = k} x i y) = over here log g e _ k state.ready (alike here k x).sequence refl (λ z. keeps_none e (sort_of e) y z.1)
  changed e n w (broken {k = k} x p c) = over here log g e _ k state.abort (alike here k x).sequence refl (λ z. in_play p z.0)
  changed e n w (record_starts r) = record {
    good =
        subst (Good (with_state (with_recording here blank_recording) state.recording))
        (sym (pick_true _ _ _ refl ∙ append-nil log ∙ g.idle (is_not here.state r)))
        (record { told = told_blank; idle = λ _. refl });
    sequence = still_same refl (λ z. at_rest r z.0);
  }
  changed e n w (record_waits i) = quiet here log g e [] (with_state here state.record_complete) refl (sym i) refl refl (λ z. omega (arith, z.2))
  changed e n w (record_ends i) = keeps here log g e here [] refl refl i (sound_in before) (whole_log here log g e)
  changed e n w (record_hears slot msg out i l) =
      subst (λ (y : List Entry). Next here e log y n) (sym (entries_are before log g slot msg out i w))
      (going here log g e (heard_in here slot msg).recording _ i (told_now before log g slot msg out i w))
  changed e n w (record_hears_last slot msg out i l) =
      subst (λ (y : List Entry). Next here e log y n) (sym (entries_are before log g slot msg out i w))
      (keeps here log g e (with_recording here (heard_in here slot msg).recording) _ refl refl i
      (sound_now before log g slot msg out i w) (told_now before log g slot msg out i w))
  changed e n w (record_ticks mm out i l t) = going here log g e _ [] i (told_counted here.recording mm (log ++ []) (whole_log here log g e))
  changed e n w (play_starts r) =
      quiet here log g e [] (with_state (with_playback here here.tan _) state.playback) refl (sym (is_not here.state r)) refl refl (λ z. at_rest r z.0)
  changed e n w (play_ticks mm out p l t) = quiet here log g e [] n refl refl refl refl (λ z. in_play p z.0)
  changed e n w (play_ticks_last mm out p) = over here log g e _ here state.abort refl refl (λ z. in_play p z.0)
  changed e n w (play_hears slot msg out p) = quiet here log g e [] n refl refl refl refl (λ z. in_play p z.0)
  changed e n w (play_hears_last slot msg out t p r l) = over here log g e _ here t refl (is_not t r) (λ z. in_play p z.0)
  changed e n w (replaced r x) = record {
    good = same_good here log g e (brings e) n refl refl (silent_by before log e (sort_of e) (λ i _. not_ready here i r));
    sequence = replaced_by e _ (brings e) w x;
  }

  pub apply_next : (e : Event) → Next here e log (brings e) (apply here e).master
  apply_next e =
      either_way here (call_of here e) (Next here e log (brings e))
      (λ h.
      quiet here log g e (brings e) here refl refl refl (refused_by before log e (sort_of e) (λ z. h (sym (number_is here (call_of here e)) ∙ z)))
      (λ z. not_ready here z.0 z.2))
      (λ z. changed e (call_of here e).after (number_is here (call_of here e) ∙ z) (done_change here e z))
