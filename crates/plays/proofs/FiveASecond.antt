-- A frame stands at most once in the frames of two ticks in a row: what a tick wrote keeps silent at the next one, whatever calls come between.
use mathlib.Core.Path.{◌≡◌, refl, sym, ap, ◌∙◌, subst}
use mathlib.Core.Bool.{Bool, true, false, cond}
use mathlib.Core.List.{List, [], ◌∷◌, ◌++◌}
use Prim.Native.Nat.{ℕ, zero, suc, ◌+◌, ◌-◌, ◌*◌, ◌%◌, ◌≤◌, ◌<◌}
use native.Mathlib.Omega.{arith}
use native.Mathlib.Decide.{dec_le}
use borrow.Author.Tests.{eq-eqb, ne_eqb, eqb-true, eqb-false}
use lib.Dec.{eqb}
use lib.ListN.{length, get_or, length-append}
use Rattle.octets.specs.Pick.{pick}
use Rattle.octets.proofs.Tests.{pick_true, pick_false}
use Rattle.arrays.proofs.Every.{pairs_at}
use Rattle.message.specs.declared.Reply.{Reply}
use Rattle.sequence.specs.declared.Sequence.{Sequence}
use Rattle.playback.specs.declared.Playback.{Playback}
use Rattle.playback.specs.Answer.{Answered}
use Rattle.playback.specs.State.{blank_playback}
use Rattle.playback.specs.Answer.{with_answer, answered_of}
use Rattle.playback.specs.Verification.{same_bytes}
use Rattle.playback.proofs.Agrees.{same}
use Rattle.master.specs.declared.Master.{Master}
use Rattle.master.specs.Call.{Call, number_of, outcome_of}
use Rattle.master.specs.States as states
use Rattle.master.specs.States.{ended}
use Rattle.master.specs.Messages.{reply_in}
use Rattle.master.specs.Recording.{recording_ended, record_call, stop_call, cancel_call, indication_call}
use Rattle.master.specs.Clients.{on_call, off_call, attach_call, want_call, report_call, lost_call}
use Rattle.master.specs.Playback.{start_call, abort_call, client_abort_call, answer_call}
use Rattle.master.specs.{Storing.load_call, Editions.edition_call}
use Rattle.replay.specs.Run.{sent_at}
use Rattle.replay.proofs.Cells.{marked_left, marked_tan}
use Rattle.events.specs.Events.{Event, on, off, «record», stop, cancel, start, abort, attach, enable, disable, report, lost, indication, client_abort, tick, answer, store, load, edition, Sort, stops, hears, ticks, answers, loads, other, sort_of, number_by, which_call, call_of, apply, lent_after, run_from, Given}
use Rattle.events.proofs.Calls.{number_is, same_master, after_is, count_is, either_way}
use Rattle.events.proofs.Choices.{chosen, either}
use Rattle.events.proofs.Changes.{Near, itself, slotted, Change, rested, moved, dropped, broken, record_starts, record_waits, record_ends, record_hears, record_hears_last, record_ticks, play_starts, play_ticks, play_ticks_last, play_hears, play_hears_last, replaced}
use Rattle.events.proofs.Invariant.{done_change, given_next}
use Rattle.plays.specs.Plays.{Started, Playing, Lasts, tick_in, ticks_in, tan_of, command_of}
use Rattle.plays.specs.Frames.{Leaves, FramesAt, frame_at}
use Rattle.plays.specs.FiveASecond.{times_among, times_by, times_at, times_in, FiveASecond}
use Rattle.plays.proofs.Calls.{View, a_tick, an_answer, another, view}
use Rattle.plays.proofs.Runs.{run_append, ticks_append, lasts_last, lasts_left, whole_at}
use Rattle.plays.proofs.Commands.{command_is, differ, tans_differ}
use Rattle.plays.proofs.Theorems.{leaves_exactly, ticks_are, good, own_tan, tans, is_step}
use Rattle.plays.proofs.Written.{without_frames, written, has_left, leaves_at, still_left, tick_leaves}
use Rattle.plays.proofs.Began.{began, lasts_on, only_start}

-- ---- how often a frame stands there

module _ (frame bytes : List ℕ) where
  -- it stands there, once at least
  among : (n : ℕ) → 1 ≤ times_among frame n bytes → (k : ℕ) × ((k < n) × (frame_at k bytes ≡ frame))
  among zero h = absurd (omega arith)
  among (suc n) h = go (same_bytes (frame_at n bytes) frame) refl h (among n)
    where
      go : (b : Bool) → same_bytes (frame_at n bytes) frame ≡ b → 1 ≤ cond b (suc (times_among frame n bytes)) (times_among frame n bytes)
          → (1 ≤ times_among frame n bytes → (k : ℕ) × ((k < n) × (frame_at k bytes ≡ frame))) → (k : ℕ) × ((k < suc n) × (frame_at k bytes ≡ frame))
      go true e l r = (n, (omega arith, same _ _ e))
      go false e l r = let x = r l in (x.0, (omega (arith, x.1.0), x.1.1))

  -- it does not stand at two places
  once : (n : ℕ) → ((j k : ℕ) → j < k → k < n → frame_at j bytes ≡ frame → frame_at k bytes ≡ frame → ⊥) → times_among frame n bytes ≤ 1
  once zero h = omega arith
  once (suc n) h = go (same_bytes (frame_at n bytes) frame) refl (once n (λ j k a b. h j k a (omega arith)))
    where
      go : (b : Bool) → same_bytes (frame_at n bytes) frame ≡ b → times_among frame n bytes ≤ 1
          → cond b (suc (times_among frame n bytes)) (times_among frame n bytes) ≤ 1
      go false e l = l
      go true e l = first (dec_le 1 (times_among frame n bytes))
        where
          first : Dec (1 ≤ times_among frame n bytes) → suc (times_among frame n bytes) ≤ 1
          first (no x) = omega arith
          first (yes x) = let r = among n x in absurd (h r.0 n r.1.0 (omega arith) r.1.1 (same _ _ e))

-- ---- a TAN that keeps silent at the next tick

-- this TAN was given to one of the last 64 commands
abbrev Recent : ℕ → ℕ → Type 0
Recent tan last = (d : ℕ) × ((d < 64) × ((tan + d) % 256 ≡ last))

-- no command of this playback with this TAN may leave at the next tick
abbrev Quiet : ℕ → Playback → Type 0
Quiet tan p = (i : ℕ) → i < p.sent → (sent_at p i).tan ≡ tan → (sent_at p i).left % 2 ≡ (p.ticks + 1) % 2 → ⊥

record Silent (tan : ℕ) (m : Master) : Type 0 where
  recent : Recent tan m.tan
  quiet : Quiet tan m.playback

-- ---- a call that is no tick leaves the TAN, and of what was sent TANs and ticks

record Kept (p q : Playback) (i : ℕ) : Type 0 where
  sent : i < p.sent
  ticks : q.ticks ≡ p.ticks
  tan : (sent_at q i).tan ≡ (sent_at p i).tan
  left : (sent_at q i).left ≡ (sent_at p i).left

record Calm (m n : Master) : Type 0 where
  tan : n.tan ≡ m.tan
  cells : (i : ℕ) → i < n.playback.sent → Kept m.playback n.playback i

still : (m n : Master) → n.tan ≡ m.tan → n.playback ≡ m.playback → Calm m n
still m n t e =
    record {
      tan = t;
      cells = λ i h. record {
        sent = subst (λ (p : Playback). i < p.sent) e h;
        ticks = ap (λ (p : Playback). p.ticks) e;
        tan = ap (λ (p : Playback). (sent_at p i).tan) e;
        left = ap (λ (p : Playback). (sent_at p i).left) e;
      };
    }

-- nothing has left of what starts, or is over
blank_sent : (i : ℕ) → i < blank_playback.sent → ⊥
unfolding blank_playback
blank_sent i h = omega arith

blank : (m n : Master) → n.tan ≡ m.tan → n.playback ≡ blank_playback → Calm m n
blank m n t e = record { tan = t; cells = λ i h. absurd (blank_sent i (subst (λ (p : Playback). i < p.sent) e h)) }

answered_kept : (p : Playback) (q : Sequence) (slot : ℕ) (r : Reply) (i : ℕ) → i < (answered_of p q slot r).playback.sent → Kept p (answered_of p q slot r).playback i
unfolding answered_of with_answer
answered_kept p q slot r i =
    chosen K _ _ _ same_cells (chosen K _ _ _ same_cells (chosen K _ _ _ same_cells (chosen K _ _ _ (marked_cells _ _) (marked_cells _ _))))
  where
    K : Answered → Type 0
    K a = i < a.playback.sent → Kept p a.playback i

    same_cells : i < p.sent → Kept p p i
    same_cells h = record { sent = h; ticks = refl; tan = refl; left = refl }

    marked_cells : (j a : ℕ) → i < (with_answer p j a).sent → Kept p (with_answer p j a) i
    marked_cells j a h = record { sent = h; ticks = refl; tan = marked_tan p.commands j i a; left = marked_left p.commands j i a }

near : (m n : Master) → Near m n → Calm m n
near m n itself = still m n refl refl
near m n (slotted i s) = still m n refl refl

moves : (m k : Master) (s : ℕ) → Near m k → Calm m (states.with_state k s)
moves m k s itself = still m _ refl refl
moves m k s (slotted i c) = still m _ refl refl

over : (m k : Master) (s : ℕ) → Near m k → Calm m (ended k s)
unfolding ended
over m k s itself = blank m _ refl refl
over m k s (slotted i c) = blank m _ refl refl

calm_changed : (m : Master) (e : Event) (n : Master) → (which_call e ≡ 2 → ⊥) → Change m e n → Calm m n
unfolding recording_ended ended
calm_changed m e n a (rested x y) = near m n x
calm_changed m e n a (moved x s r t) = moves m _ s x
calm_changed m e n a (dropped x i y) = over m _ states.ready x
calm_changed m e n a (broken x p c) = over m _ states.abort x
calm_changed m e n a (record_starts r) = still m n refl refl
calm_changed m e n a (record_waits i) = still m n refl refl
calm_changed m e n a (record_ends i) = blank m n refl refl
calm_changed m e n a (record_hears slot msg out i l) = still m n refl refl
calm_changed m e n a (record_hears_last slot msg out i l) = blank m n refl refl
calm_changed m e n a (record_ticks mm out i l t) = absurd (a refl)
calm_changed m e n a (play_starts r) = blank m n refl refl
calm_changed m e n a (play_ticks mm out p l t) = absurd (a refl)
calm_changed m e n a (play_ticks_last mm out p) = absurd (a refl)
calm_changed m e n a (play_hears slot msg out p) = record { tan = refl; cells = answered_kept m.playback m.sequence slot (reply_in msg) }
calm_changed m e n a (play_hears_last slot msg out s p r l) = blank m n refl refl
calm_changed m e n a (replaced r x) = still m n refl refl

calm : (m : Master) (e : Event) → (which_call e ≡ 2 → ⊥) → Calm m (apply m e).master
calm m e a = either_way m (call_of m e) (Calm m) (λ _. still m m refl refl) (λ z. calm_changed m e _ a (done_change m e z))

silent_calm : (tan : ℕ) (m n : Master) → Calm m n → Silent tan m → Silent tan n
silent_calm tan m n c s =
    record {
      recent = subst (Recent tan) (sym c.tan) s.recent;
      quiet = λ i h e q.
          let k = c.cells i h in
          let t : (m.playback.ticks + 1) % 2 ≡ (n.playback.ticks + 1) % 2 = ap (λ (x : ℕ). (x + 1) % 2) (sym k.ticks) in
          s.quiet i k.sent (sym k.tan ∙ e) (ap (λ (x : ℕ). x % 2) (sym k.left) ∙ q ∙ sym t);
    }

-- ---- a tick of a playback that lasts

-- byte 4 of a frame is its TAN
abbrev tan_in : List ℕ → ℕ
tan_in frame = get_or frame 4 0

-- this frame stands in the frames of the tick that gave this master: it is that of a sent step, an even number of ticks after that step left
record Stands (frame : List ℕ) (n : Master) : Type 0 where
  cell : ℕ
  within : cell < n.playback.sent
  tan : (sent_at n.playback cell).tan ≡ tan_in frame
  even : (sent_at n.playback cell).left % 2 ≡ n.playback.ticks % 2

module _ (m : Master) (s : Started m) (es : List Event) (mm : ℕ) (out : List ℕ) (l : Lasts m (es ++ tick mm out ∷ []))
    (z : (apply (run_from m es) (tick mm out)).number ≡ 0) where
  abbrev after : List Event
  after = es ++ tick mm out ∷ []

  abbrev bytes : List ℕ
  bytes = lent_after (run_from m es) (tick mm out)

  before : Lasts m es
  before = lasts_left es (tick mm out ∷ []) m l

  frames : FramesAt m es mm out
  frames = written m s es mm out l z

  tan_of_lem : (i : ℕ) → Leaves m after i → tan_in (command_of m i) ≡ tan_of m i
  tan_of_lem i h = ap tan_in (sym (command_is m s i (is_step m after i (has_left h).0)))

  stands : (k : ℕ) → k < (apply (run_from m es) (tick mm out)).count → (frame : List ℕ) → frame_at k bytes ≡ frame → Stands frame (run_from m after)
  stands k h frame e =
      let o = leaves_at m es mm out frames k h in
      let i = get_or frames.steps k 0 in
      let q = (leaves_exactly m s after l i o.0.first).1 (o.0.is_the_first, omega (arith, o.0.even)) in
      record {
        cell = i;
        within = q.0;
        tan = own_tan m s after l i q.0 ∙ sym (tan_of_lem i o.0) ∙ ap tan_in (sym o.1 ∙ e);
        even = omega (arith, q.1, o.0.even, ticks_are m s after l);
      }

  -- at one place
  one_place : (frame : List ℕ) (j k : ℕ) → j < k → k < (apply (run_from m es) (tick mm out)).count → frame_at j bytes ≡ frame → frame_at k bytes ≡ frame → ⊥
  one_place frame j k h c a b =
      let x = leaves_at m es mm out frames j (omega (arith, h, c)) in
      let y = leaves_at m es mm out frames k c in
      let e =
      differ m s _ _ (is_step m after _ (has_left x.0).0) (is_step m after _ (has_left y.0).0) (sym x.1 ∙ a ∙ sym b ∙ y.1) in
      let p = pairs_at (λ i i'. i < i') frames.steps j k 0 h (omega (arith, c, frames.count)) frames.ascending in
      omega (arith, e, p)

  -- what stands there keeps silent
  silent_after : (frame : List ℕ) → Stands frame (run_from m after) → Silent (tan_in frame) (run_from m after)
  silent_after frame w =
      let t = tans m s after l in
      let g = good m s after l in
      let own : (m.tan + w.cell + 1) % 256 ≡ tan_in frame = sym (t.1 w.cell w.within) ∙ w.tan in
      record {
        recent = ((run_from m after).playback.sent - suc w.cell, (omega (arith, g.within, w.within), omega (arith, own, t.0, w.within)));
        quiet = λ i h e q.
            let c : i ≡ w.cell = tans_differ m s i w.cell (omega (arith, h, g.within)) (omega (arith, w.within, g.within)) (sym (t.1 i h) ∙ e ∙ sym own) in
            let v : (sent_at (run_from m after).playback i).left ≡ (sent_at (run_from m after).playback w.cell).left =
            ap (λ (j : ℕ). (sent_at (run_from m after).playback j).left) c in
            omega (arith, q, v, w.even);
      }

  one_more : (run_from m after).playback.ticks ≡ suc (run_from m es).playback.ticks
  one_more =
      let p : tick_in (run_from m es) (tick mm out) ≡ mm ∷ [] = pick_true _ _ _ (eq-eqb _ 0 z) in
      omega (
        arith,
        ticks_are m s after l,
        ticks_are m s es before,
        ap length (ticks_append es (tick mm out ∷ []) m),
        length-append (ticks_in m es) (ticks_in (run_from m es) (tick mm out ∷ [])),
        ap (λ (x : List ℕ). length (x ++ [])) p,
      )

  -- what keeps silent does not stand there
  silent_before : (frame : List ℕ) → Silent (tan_in frame) (run_from m es) → Stands frame (run_from m after) → ⊥
  silent_before frame q w = go (dec_le (suc w.cell) (run_from m es).playback.sent)
    where
      go : Dec (w.cell < (run_from m es).playback.sent) → ⊥
      go (yes h) =
          let a = ap (λ (k : Master). (sent_at k.playback w.cell).left) (run_append es (tick mm out ∷ []) m) in
          let b =
          still_left (tick mm out ∷ []) (run_from m es)
          (lasts_last es m before, subst Playing (run_append es (tick mm out ∷ []) m) (lasts_last after m l)) w.cell h in
          q.quiet w.cell h (own_tan m s es before w.cell h ∙ sym (own_tan m s after l w.cell w.within) ∙ w.tan)
          (omega (arith, a, b, w.even, one_more))
      go (no h) =
          let e = run_append es (tick mm out ∷ []) m in
          let r =
          tick_leaves (run_from m es) (lasts_last es m before) w.cell mm out (good m s es before) (whole_at m s es before) (omega arith)
          (subst (λ (k : Master). w.cell < k.playback.sent) e w.within) (subst Playing e (lasts_last after m l)) in
          let t = (tans m s es before).0 in
          let own : (m.tan + w.cell + 1) % 256 ≡ tan_in frame = sym (own_tan m s after l w.cell w.within) ∙ w.tan in
          omega (arith, own, t, r.none, q.recent.1.0, q.recent.1.1)

-- ---- every accepted tick

-- how often a frame stands in the frames of a tick
record Ticking (frame : List ℕ) (m n : Master) (times : ℕ) : Type 0 where
  one : times ≤ 1
  later : 1 ≤ times → Silent (tan_in frame) n
  earlier : Silent (tan_in frame) m → times ≡ 0

module _ (m : Master) (s : Started m) (es : List Event) (mm : ℕ) (out : List ℕ) (l : Lasts m (es ++ tick mm out ∷ []))
    (z : (apply (run_from m es) (tick mm out)).number ≡ 0) (frame : List ℕ) where
  its_place : 1 ≤ times_at frame (run_from m es) (tick mm out) → Stands frame (run_from m (es ++ tick mm out ∷ []))
  its_place h =
      let r = among frame (lent_after (run_from m es) (tick mm out)) (apply (run_from m es) (tick mm out)).count h in
      stands m s es mm out l z r.0 r.1.0 frame r.1.1

  ticking_lasts : Ticking frame (run_from m es) (apply (run_from m es) (tick mm out)).master (times_at frame (run_from m es) (tick mm out))
  ticking_lasts =
      record {
        one = once frame (lent_after (run_from m es) (tick mm out)) (apply (run_from m es) (tick mm out)).count (one_place m s es mm out l z frame);
        later = λ h. subst (Silent (tan_in frame)) (run_append es (tick mm out ∷ []) m) (silent_after m s es mm out l z frame (its_place h));
        earlier = λ q. none q (dec_le 1 (times_at frame (run_from m es) (tick mm out)));
      }
    where
      none : Silent (tan_in frame) (run_from m es) → Dec (1 ≤ times_at frame (run_from m es) (tick mm out)) → times_at frame (run_from m es) (tick mm out) ≡ 0
      none q (yes h) = absurd (silent_before m s es mm out l z frame q (its_place h))
      none q (no h) = omega arith

-- no frames
no_times : (frame : List ℕ) (m : Master) (mm : ℕ) (out : List ℕ) → (apply m (tick mm out)).count ≡ 0 → times_at frame m (tick mm out) ≡ 0
no_times frame m mm out c = ap (λ (n : ℕ). times_among frame n (lent_after m (tick mm out))) c

module _ (m : Master) (g : Given m) (mm : ℕ) (out : List ℕ) (z : (apply m (tick mm out)).number ≡ 0) (frame : List ℕ) where
  -- no tick starts a playback
  played : Playing (apply m (tick mm out)).master → Playing m
  played p =
      either (eqb m.state states.playback) (λ t. eqb-true _ _ t)
      (λ f.
      let c : number_of (call_of m (tick mm out)) ≡ 0 = sym (number_is m (call_of m (tick mm out))) ∙ z in
      let e = only_start m (eqb-false _ _ f) (tick mm out) _ (done_change m (tick mm out) c) (subst Playing (after_is m (call_of m (tick mm out)) z) p) in
      absurd (omega (arith, ap which_call e)))

  ticking : Ticking frame m (apply m (tick mm out)).master (times_at frame m (tick mm out))
  ticking = either (eqb (apply m (tick mm out)).master.state states.playback) (λ t. lasts (eqb-true _ _ t)) (λ f. nothing (eqb-false _ _ f))
    where
      lasts : Playing (apply m (tick mm out)).master → Ticking frame m (apply m (tick mm out)).master (times_at frame m (tick mm out))
      lasts p =
          let b = began m g (played p) in
          subst (λ (k : Master). Ticking frame k (apply k (tick mm out)).master (times_at frame k (tick mm out))) b.now
          (ticking_lasts b.first b.started b.calls mm out (lasts_on m (tick mm out) b p)
          (subst (λ (k : Master). (apply k (tick mm out)).number ≡ 0) (sym b.now) z) frame)

      nothing : ¬ Playing (apply m (tick mm out)).master → Ticking frame m (apply m (tick mm out)).master (times_at frame m (tick mm out))
      nothing np =
          let e = no_times frame m mm out (without_frames m mm out z np).1 in
          record { one = omega (arith, e); later = λ h. absurd (omega (arith, e, h)); earlier = λ q. e }

-- ---- every other call has no frames

no_tick : (frame : List ℕ) (m : Master) (e : Event) (s : Sort e) → (number_by s ≡ 2 → ⊥) → times_by frame m e s ≡ 0
no_tick frame m e stops a = refl
no_tick frame m e (hears slot msg out) a = refl
no_tick frame m e (ticks mm out) a = absurd (a refl)
no_tick frame m e (answers slot msg out) a = refl
no_tick frame m e (loads blocks) a = refl
no_tick frame m e (other n) a = refl

bare_count : (m : Master) (e : Event) → ((mm : ℕ) (out : List ℕ) → e ≡ tick mm out → ⊥) → ((out : List ℕ) → e ≡ store out → ⊥) → (call_of m e).count ≡ 0
unfolding on_call off_call attach_call want_call report_call lost_call record_call stop_call cancel_call indication_call start_call abort_call client_abort_call answer_call load_call edition_call
bare_count m on a b = refl
bare_count m off a b = refl
bare_count m «record» a b = refl
bare_count m stop a b = refl
bare_count m cancel a b = refl
bare_count m start a b = refl
bare_count m abort a b = refl
bare_count m (attach slot name pool) a b = refl
bare_count m (enable slot out) a b = refl
bare_count m (disable slot out) a b = refl
bare_count m (report slot number) a b = refl
bare_count m (lost slot) a b = refl
bare_count m (indication slot msg out) a b = refl
bare_count m (client_abort slot msg) a b = refl
bare_count m (tick mm out) a b = absurd (a mm out refl)
bare_count m (answer slot msg out) a b = refl
bare_count m (store out) a b = absurd (b out refl)
bare_count m (load blocks) a b = refl
bare_count m (edition n) a b = refl

refused_count : (m : Master) (c : Call) → ((outcome_of m c).number ≡ 0 → ⊥) → (outcome_of m c).count ≡ 0
unfolding pick outcome_of
refused_count m c h = rw (ne_eqb (number_of c) 0 h)

no_count : (m : Master) (e : Event) → ((mm : ℕ) (out : List ℕ) → e ≡ tick mm out → ⊥) → ((out : List ℕ) → e ≡ store out → ⊥) → (apply m e).count ≡ 0
no_count m e a b =
    either (eqb (apply m e).number 0) (λ t. count_is m (call_of m e) (eqb-true _ 0 t) ∙ bare_count m e a b) (λ f. refused_count m (call_of m e) (eqb-false _ 0 f))

-- ---- along the calls

-- of these calls: a frame stands in no two ticks in a row, and where it keeps silent, not in the first
record Rate (frame : List ℕ) (m : Master) (es : List Event) : Type 0 where
  all : 2 * times_in frame m es ≤ length (ticks_in m es) + 1
  after_silence : Silent (tan_in frame) m → 2 * times_in frame m es ≤ length (ticks_in m es)

module _ (frame : List ℕ) (m : Master) (e : Event) (es : List Event) (r : Rate frame (apply m e).master es) where
  -- a call without frames that is no accepted tick
  rate_aside : Calm m (apply m e).master → tick_in m e ≡ [] → times_at frame m e ≡ 0 → Rate frame m (e ∷ es)
  rate_aside c t x =
      let k = ap (λ (x : List ℕ). length (x ++ ticks_in (apply m e).master es)) t in
      record {
        all = omega (arith, r.all, k, x);
        after_silence = λ s. omega (arith, r.after_silence (silent_calm (tan_in frame) m (apply m e).master c s), k, x);
      }

  -- an accepted tick
  rate_tick : (mm : ℕ) → tick_in m e ≡ mm ∷ [] → Ticking frame m (apply m e).master (times_at frame m e) → Rate frame m (e ∷ es)
  rate_tick mm t w = record { all = go (dec_le 1 (times_at frame m e)); after_silence = λ s. omega (arith, w.earlier s, r.all, k) }
    where
      k : length (ticks_in m (e ∷ es)) ≡ suc (length (ticks_in (apply m e).master es))
      k = ap (λ (x : List ℕ). length (x ++ ticks_in (apply m e).master es)) t

      go : Dec (1 ≤ times_at frame m e) → 2 * times_in frame m (e ∷ es) ≤ length (ticks_in m (e ∷ es)) + 1
      go (yes h) = omega (arith, w.one, r.after_silence (w.later h), k)
      go (no h) = omega (arith, r.all, k)

rate_one : (frame : List ℕ) (m : Master) (e : Event) (es : List Event) → Given m → View m e → Rate frame (apply m e).master es → Rate frame m (e ∷ es)
rate_one frame m e es g (another a q t) r = rate_aside frame m e es r (calm m e a.0) t (no_tick frame m e (sort_of e) a.0)
rate_one frame m e es g (an_answer slot msg out) r =
    rate_aside frame m (answer slot msg out) es r (calm m (answer slot msg out) (λ k. omega (arith, k))) refl refl
rate_one frame m e es g (a_tick mm out) r =
    either (eqb (apply m (tick mm out)).number 0)
    (λ t. rate_tick frame m (tick mm out) es r mm (pick_true _ _ _ t) (ticking m g mm out (eqb-true _ 0 t) frame))
    (λ f.
    let n = eqb-false (apply m (tick mm out)).number 0 f in
    let c = same_master m (call_of m (tick mm out)) n in
    rate_aside frame m (tick mm out) es r (still m _ (ap (λ (k : Master). k.tan) c) (ap (λ (k : Master). k.playback) c)) (pick_false _ _ _ f)
    (no_times frame m mm out (refused_count m (call_of m (tick mm out)) n)))

rate : (frame : List ℕ) (es : List Event) (m : Master) → Given m → Rate frame m es
rate frame [] m g = record { all = omega arith; after_silence = λ s. omega arith }
rate frame (e ∷ es) m g = rate_one frame m e es g (view m e) (rate frame es (apply m e).master (given_next m e g))

-- AT MOST FIVE A SECOND, AND NEVER AT TWO TICKS IN A ROW
pub five_a_second : FiveASecond
five_a_second = record {
  five = λ m g es h frame. omega (arith, (rate frame es m g).all, h);
  apart = λ m g es h frame. omega (arith, (rate frame es m g).all, h);
  no_other = no_count;
}
