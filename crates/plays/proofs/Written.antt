-- The lent bytes after a tick: the commands of the steps that are written, one after the other; and the tick at which a step first stands there.
use mathlib.Core.Path.{◌≡◌, refl, sym, ap, ◌∙◌, subst}
use mathlib.Core.Bool.{Bool, true}
use mathlib.Core.Logic.{◌↔◌, inl, inr}
use mathlib.Core.List.{List, [], ◌∷◌, ◌++◌, flat_map, append_assoc}
use Prim.Native.Nat.{ℕ, suc, ◌+◌, ◌-◌, ◌*◌, ◌/◌, ◌%◌, ◌≤◌, ◌<◌}
use native.Mathlib.Nat.{zero-add}
use native.Mathlib.Omega.{arith}
use native.Mathlib.Decide.{dec_le}
use borrow.Author.Tests.{eq-eqb, ne_eqb, eqb-true, eqb-false}
use lib.Dec.{eqb}
use lib.ListN.{length, get_or, take, drop, replicate, length-take}
use lib.Seq.{get_or-take}
use Rattle.octets.proofs.Tests.{pick_true, pick_false}
use Rattle.arrays.specs.Every.{EveryTwo}
use Rattle.recording.proofs.Steps.{both}
use Rattle.sequence.specs.Sequence.{blank_step, length_of}
use Rattle.sequence.specs.declared.Sequence.{Sequence}
use Rattle.playback.specs.declared.Sent.{Sent}
use Rattle.playback.specs.declared.Playback.{Playback}
use Rattle.playback.specs.State.{answer_none, blank_sent, blank_playback}
use Rattle.playback.specs.Tick.{next_tan}
use Rattle.playback.specs.Frames.{frame_of, is_written, framed, filled_of, frames_of, frame_count_of}
use Rattle.playback.proofs.Fill.{nine}
use Rattle.master.specs.declared.Master.{Master}
use Rattle.master.specs.States as states
use Rattle.master.specs.Messages.{reply_in}
use Rattle.master.specs.Tick.{no_frames, frames_in, count_in, tick_call}
use Rattle.replay.specs.Run.{State, going, done, aborted, step_of, Whole, sent_at}
use Rattle.replay.specs.Run as replay
use Rattle.replay.proofs.Follows.{Good}
use Rattle.replay.proofs.Kept as kept
use Rattle.events.specs.Events.{Event, tick, answer, apply, lent_after, run_from}
use Rattle.events.proofs.Calls.{after_is, count_is, written_is}
use Rattle.events.proofs.Choices.{chosen, chosen_by, either}
use Rattle.plays.specs.Plays.{Started, Playing, Lasts, ticks_in, step_at, command_of, LeftAt}
use Rattle.plays.specs.Frames.{Unanswered, Leaves, Member, FramesAt, FirstLeaves, frame_at}
use Rattle.plays.proofs.Calls.{Stays, keeps, aborts, stays, View, a_tick, an_answer, another, view}
use Rattle.plays.proofs.Runs.{seen_all, whole_at, accepted_mm, run_append, lasts_head, lasts_last, lasts_append, lasting, Begins, begins}
use Rattle.plays.proofs.Commands.{command_is, nine_bytes, differ}
use Rattle.plays.proofs.Theorems.{leaves_exactly, leaves_later, ticks_are, not_long_ago, good, own_tan, left_seen, seen_left, is_step}
use Rattle.plays.proofs.Replies.{next, replies}
use Rattle.plays.proofs.Numbering.{numbers_from, how_many, ascends, member_numbered, numbered_member, last_number, frames_are, pad_is, frame_of_lem, member_at, at_member}

-- ---- an accepted tick writes and counts the frames of the master after it

lent_is : (m : Master) (mm : ℕ) (out : List ℕ) → (apply m (tick mm out)).number ≡ 0
    → lent_after m (tick mm out) ≡ frames_in (apply m (tick mm out)).master ++ drop 576 out
unfolding tick_call
lent_is m mm out z =
    written_is m (tick_call m mm out) z ∙ ap (λ (n : Master). frames_in n ++ drop 576 out) (sym (after_is m (tick_call m mm out) z))

counted_is : (m : Master) (mm : ℕ) (out : List ℕ) → (apply m (tick mm out)).number ≡ 0 → (apply m (tick mm out)).count ≡ count_in (apply m (tick mm out)).master
unfolding tick_call
counted_is m mm out z = count_is m (tick_call m mm out) z ∙ ap count_in (sym (after_is m (tick_call m mm out) z))

frames_of_lem : (n : Master) → Playing n → frames_in n ≡ frames_of n.playback n.sequence.steps
unfolding frames_in
frames_of_lem n h = pick_true _ _ _ (eq-eqb n.state states.playback h)

count_of : (n : Master) → Playing n → count_in n ≡ frame_count_of n.playback.ticks n.playback.sent n.playback.commands
unfolding count_in
count_of n h = pick_true _ _ _ (eq-eqb n.state states.playback h)

-- A TICK AFTER WHICH THE MASTER IS NOT IN PLAYBACK WRITES ZEROS
none_of : (n : Master) → ¬ Playing n → (frames_in n ≡ replicate 576 0) × (count_in n ≡ 0)
unfolding frames_in count_in no_frames
none_of n h = let e = ne_eqb n.state states.playback h in (pick_false _ _ _ e, pick_false _ _ _ e)

pub without_frames : (m : Master) (mm : ℕ) (out : List ℕ) → (apply m (tick mm out)).number ≡ 0 → ¬ Playing (apply m (tick mm out)).master
    → (lent_after m (tick mm out) ≡ replicate 576 0 ++ drop 576 out) × ((apply m (tick mm out)).count ≡ 0)
without_frames m mm out z h =
    let n = none_of (apply m (tick mm out)).master h in
    (lent_is m mm out z ∙ ap (λ (l : List ℕ). l ++ drop 576 out) n.0, counted_is m mm out z ∙ n.1)

-- ---- at most eight commands leave at a tick: they first left at ticks that are even ticks apart, and at most 14 ticks ago

module _ (m : Master) (es : List Event) where
  spread : (i : ℕ) (l : List ℕ) → EveryTwo (λ j k. j < k) (i ∷ l) → ((k : ℕ) → Member k l → Leaves m es k) → (x : Leaves m es i)
      → x.first + 2 * length l ≤ length (ticks_in m es)
  spread i [] a h x = omega (arith, x.even)
  spread i (j ∷ l) a h x =
      let y = h j (inl refl) in
      let z = spread j l a.1 (λ k w. h k (inr w)) y in
      omega (arith, leaves_later m.sequence (ticks_in m es) i j x.first y.first x.is_the_first y.is_the_first a.0.0, z, x.even, y.even)

  at_most_eight : (l : List ℕ) → EveryTwo (λ j k. j < k) l → ((k : ℕ) → Member k l → Leaves m es k) → length l ≤ 8
  at_most_eight [] a h = omega arith
  at_most_eight (i ∷ l) a h = let x = h i (inl refl) in omega (arith, spread i l a (λ k w. h k (inr w)) x, x.even, x.few)

-- ---- the steps that are written

module _ (m : Master) (s : Started m) (es : List Event) (l : Lasts m es) where
  abbrev sent_cells : List Sent
  sent_cells = take (run_from m es).playback.sent (run_from m es).playback.commands

  how_long : length sent_cells ≡ (run_from m es).playback.sent
  how_long = let g = good m s es l in omega (arith, length-take (run_from m es).playback.sent (run_from m es).playback.commands, g.cells, g.within)

  at_cell : (i : ℕ) → i < (run_from m es).playback.sent → get_or sent_cells i blank_sent ≡ sent_at (run_from m es).playback i
  at_cell i h = get_or-take (run_from m es).playback.sent (run_from m es).playback.commands i blank_sent h

  -- what is written at this tick, and the numbers of these steps
  abbrev is_now : Sent → Bool
  is_now = is_written (run_from m es).playback.ticks

  abbrev numbers : List ℕ
  numbers = numbers_from is_now 0 sent_cells

  -- a step is written exactly where its command leaves
  leaves_is : (i : ℕ) → Member i numbers ↔ Leaves m es i
  leaves_is i = (to, from)
    where
      to : Member i numbers → Leaves m es i
      to h =
          let w = member_numbered is_now 0 sent_cells i h in
          let e : i ≡ w.cell = omega (arith, w.is) in
          let k : i < (run_from m es).playback.sent = omega (arith, w.within, how_long) in
          let b = both _ _ (subst (λ (c : Sent). is_now c ≡ true) (ap (λ (j : ℕ). get_or sent_cells j blank_sent) (sym e) ∙ at_cell i k) w.holds) in
          let a : (sent_at (run_from m es).playback i).answer ≡ answer_none = eqb-true _ _ b.0 in
          let t = (sent_at (run_from m es).playback i).left in
          let p : t % 2 ≡ (run_from m es).playback.ticks % 2 = eqb-true _ _ b.1 in
          let q = (leaves_exactly m s es l i t).0 (k, refl) in
          record {
            first = t;
            is_the_first = q.0;
            again = (length (ticks_in m es) - t) / 2;
            few = omega (arith, not_long_ago m s es l i t k a refl);
            even = omega (arith, p, q.1, ticks_are m s es l);
            unanswered = λ r. ((replies m s es l i).1 r).1 a;
          }

      from : Leaves m es i → Member i numbers
      from h =
          let q = (leaves_exactly m s es l i h.first).1 (h.is_the_first, omega (arith, h.even)) in
          let a : eqb (sent_at (run_from m es).playback i).answer answer_none ≡ true =
          either _ (λ t. t) (λ f. absurd (h.unanswered ((replies m s es l i).0 (q.0, eqb-false _ _ f)))) in
          let p : (sent_at (run_from m es).playback i).left % 2 ≡ (run_from m es).playback.ticks % 2 = omega (arith, q.1, h.even, ticks_are m s es l) in
          let w : is_now (sent_at (run_from m es).playback i) ≡ true = rw (a, eq-eqb _ _ p) in
          subst (λ (j : ℕ). Member j numbers) (zero-add i) (numbered_member is_now 0 sent_cells i (omega (arith, q.0, how_long)) (ap is_now (at_cell i q.0) ∙ w))

  own_frame : (i : ℕ) → i < length sent_cells → frame_of (get_or (run_from m es).sequence.steps i blank_step) (get_or sent_cells i blank_sent).tan ≡ command_of m (0 + i)
  own_frame i h =
      let k : i < (run_from m es).playback.sent = omega (arith, h, how_long) in
      ap (λ (q : Sequence). frame_of (get_or q.steps i blank_step) (get_or sent_cells i blank_sent).tan) (lasting es m l).1
      ∙ ap (frame_of (step_at m i)) (ap (λ (c : Sent). c.tan) (at_cell i k) ∙ own_tan m s es l i k)
      ∙ command_is m s i (is_step m es i (left_seen m s es l i k))
      ∙ ap (command_of m) (sym (zero-add i))

  in_order : EveryTwo (λ i j. i < j) numbers
  in_order = ascends is_now 0 sent_cells

  few_numbers : length numbers ≤ 8
  few_numbers = at_most_eight m es numbers in_order (λ k. (leaves_is k).0)

  frames_filled : frames_of (run_from m es).playback (run_from m es).sequence.steps
      ≡ flat_map (command_of m) numbers ++ replicate (576 - 9 * length numbers) 0
  unfolding frames_of filled_of
  frames_filled =
      let ss = (run_from m es).sequence.steps in
      let g = good m s es l in
      let whole : length ss ≡ 64 = whole_at m s es l in
      let short : length sent_cells ≤ length ss = omega (arith, how_long, g.within, whole) in
      let n = nine is_now sent_cells ss short in
      let q : 576 - length (framed is_now sent_cells ss) ≡ 576 - 9 * length numbers = omega (arith, n, how_many is_now 0 sent_cells) in
      pad_is 576 (framed is_now sent_cells ss) (omega (arith, n, how_many is_now 0 sent_cells, few_numbers))
      ∙ ap (λ (k : ℕ). framed is_now sent_cells ss ++ replicate k 0) q
      ∙ ap (λ (x : List ℕ). x ++ replicate (576 - 9 * length numbers) 0) (frames_are is_now (command_of m) 0 sent_cells ss short own_frame)

  count_numbers : frame_count_of (run_from m es).playback.ticks (run_from m es).playback.sent (run_from m es).playback.commands ≡ length numbers
  unfolding frame_count_of
  count_numbers = sym (how_many is_now 0 sent_cells)

-- WHAT A TICK WRITES
module _ (m : Master) (s : Started m) (es : List Event) (mm : ℕ) (out : List ℕ) (l : Lasts m (es ++ tick mm out ∷ []))
    (z : (apply (run_from m es) (tick mm out)).number ≡ 0) where
  abbrev after : List Event
  after = es ++ tick mm out ∷ []

  abbrev numbers_now : List ℕ
  numbers_now = numbers m s after l

  after_run : run_from m after ≡ (apply (run_from m es) (tick mm out)).master
  after_run = run_append es (tick mm out ∷ []) m

  pub written : FramesAt m es mm out
  written =
      record {
        steps = numbers_now;
        ascending = in_order m s after l;
        those = leaves_is m s after l;
        few = few_numbers m s after l;
        bytes =
            lent_is (run_from m es) mm out z
            ∙ ap (λ (n : Master). frames_in n ++ drop 576 out) (sym after_run)
            ∙ ap (λ (x : List ℕ). x ++ drop 576 out) (frames_of_lem (run_from m after) (lasts_last after m l) ∙ frames_filled m s after l)
            ∙ append_assoc (flat_map (command_of m) numbers_now) (replicate (576 - 9 * length numbers_now) 0) (drop 576 out);
        count =
            counted_is (run_from m es) mm out z
            ∙ ap count_in (sym after_run)
            ∙ count_of (run_from m after) (lasts_last after m l)
            ∙ count_numbers m s after l;
      }

-- ---- frame by frame

-- a step whose command leaves has left, and is not answered
pub has_left : {m : Master} {es : List Event} {i : ℕ} → Leaves m es i → Unanswered m es i
has_left h = ((h.first, (h.is_the_first, omega (arith, h.even))), h.unanswered)

module _ (m : Master) (es : List Event) (mm : ℕ) (out : List ℕ) (f : FramesAt m es mm out) where
  frame_is : (k : ℕ) → k < length f.steps → frame_at k (lent_after (run_from m es) (tick mm out)) ≡ command_of m (get_or f.steps k 0)
  frame_is k h = ap (frame_at k) f.bytes ∙ frame_of_lem (command_of m) (nine_bytes m) f.steps _ k h

  -- each is that of a step whose command leaves
  pub leaves_at : (k : ℕ) → k < (apply (run_from m es) (tick mm out)).count
      → Leaves m (es ++ tick mm out ∷ []) (get_or f.steps k 0) × (frame_at k (lent_after (run_from m es) (tick mm out)) ≡ command_of m (get_or f.steps k 0))
  leaves_at k h =
      let l : k < length f.steps = omega (arith, h, f.count) in
      ((f.those (get_or f.steps k 0)).0 (at_member f.steps k l), frame_is k l)

  -- A COMMAND LEAVES AGAIN EXACTLY AT EVEN TICKS AFTER IT FIRST LEFT, AND EACH REPEAT IS THE SAME COMMAND
  pub repeats_of : Started m → (i : ℕ) → i < length_of m.sequence
      → Leaves m (es ++ tick mm out ∷ []) i
      ↔ ((k : ℕ) × ((k < (apply (run_from m es) (tick mm out)).count) × (frame_at k (lent_after (run_from m es) (tick mm out)) ≡ command_of m i)))
  repeats_of s i h = (to, from)
    where
      to : Leaves m (es ++ tick mm out ∷ []) i
          → (k : ℕ) × ((k < (apply (run_from m es) (tick mm out)).count) × (frame_at k (lent_after (run_from m es) (tick mm out)) ≡ command_of m i))
      to u =
          let x = member_at f.steps i ((f.those i).1 u) in
          (x.0, (omega (arith, x.1.0, f.count), frame_is x.0 x.1.0 ∙ ap (command_of m) x.1.1))

      from : (k : ℕ) × ((k < (apply (run_from m es) (tick mm out)).count) × (frame_at k (lent_after (run_from m es) (tick mm out)) ≡ command_of m i))
          → Leaves m (es ++ tick mm out ∷ []) i
      from x =
          let o = leaves_at x.0 x.1.0 in
          let j = get_or f.steps x.0 0 in
          let e : j ≡ i = differ m s j i (is_step m (es ++ tick mm out ∷ []) j (has_left o.0).0) h (sym o.1 ∙ x.1.1) in
          subst (Leaves m (es ++ tick mm out ∷ [])) e o.0

  -- THERE IS NO OTHER FRAME
  pub no_other_of : (k : ℕ) → k < (apply (run_from m es) (tick mm out)).count
      → (i : ℕ) × (Unanswered m (es ++ tick mm out ∷ []) i × (frame_at k (lent_after (run_from m es) (tick mm out)) ≡ command_of m i))
  no_other_of k h = let o = leaves_at k h in (get_or f.steps k 0, (has_left o.0, o.1))

-- ---- the tick at which a step leaves

-- the first call after which step i has left
record First (m : Master) (es : List Event) (i : ℕ) : Type 0 where
  earlier : List Event
  e : Event
  later : List Event
  split : es ≡ earlier ++ e ∷ later
  lasts : Lasts m earlier
  below : (run_from m earlier).playback.sent ≤ i
  above : i < (apply (run_from m earlier) e).master.playback.sent
  on : Lasts (apply (run_from m earlier) e).master later

find : (es : List Event) (m : Master) (i : ℕ) → Lasts m es → m.playback.sent ≤ i → i < (run_from m es).playback.sent → First m es i
find [] m i l h k = absurd (omega arith)
find (e ∷ es) m i l h k = go (dec_le (suc i) (apply m e).master.playback.sent) (λ x. find es (apply m e).master i l.1 x k)
  where
    go : Dec (i < (apply m e).master.playback.sent) → ((apply m e).master.playback.sent ≤ i → First (apply m e).master es i) → First m (e ∷ es) i
    go (yes a) r = record { earlier = []; e = e; later = es; split = refl; lasts = l.0; below = h; above = a; on = l.1 }
    go (no a) r =
        let x = r (omega arith) in
        record {
          earlier = e ∷ x.earlier;
          e = x.e;
          later = x.later;
          split = ap (λ (y : List Event). e ∷ y) x.split;
          lasts = (l.0, x.lasts);
          below = x.below;
          above = x.above;
          on = x.on;
        }

abbrev play_of : State → Playback
play_of (going p x) = p
play_of (done p) = p
play_of aborted = blank_playback

-- what an accepted tick does to the playback, where it lets step i leave
pub record Left (m : Master) (mm : ℕ) (out : List ℕ) (i : ℕ) : Type 0 where
  accepted : (apply m (tick mm out)).number ≡ 0
  pub none : m.playback.sent ≡ i
  one : (apply m (tick mm out)).master.playback.sent ≡ i + 1
  counted : (apply m (tick mm out)).master.playback.ticks ≡ suc m.playback.ticks
  cell : sent_at (apply m (tick mm out)).master.playback i ≡ record { tan = next_tan m.tan; answer = 0; left = suc m.playback.ticks }

module _ (m : Master) (h : Playing m) (i : ℕ) where
  abbrev Goes : Event → replay.PlaybackEvent → Type 0
  Goes e x = step_of m.sequence (going m.playback m.tan) x ≡ going (apply m e).master.playback (apply m e).master.tan

  pub tick_leaves : (mm : ℕ) (out : List ℕ) → Good m.playback → Whole m.sequence → m.playback.sent ≤ i → i < (apply m (tick mm out)).master.playback.sent
      → Playing (apply m (tick mm out)).master → Left m mm out i
  tick_leaves mm out g w below above k =
      chosen_by (λ x. Goes (tick mm out) x → Left m mm out i) (eqb (apply m (tick mm out)).number 0) (replay.tick mm) replay.message
      (λ q e.
      let x =
      kept.leaving_tick m.sequence w i m.playback g mm m.tan (accepted_mm m mm out q) below
      (subst (λ (s : State). i < kept.sent_of s) (sym e) above) in
      let p : (apply m (tick mm out)).master.playback ≡ x.after = ap play_of (sym e ∙ x.now) in
      record {
        accepted = eqb-true _ 0 q;
        none = x.none;
        one = omega (arith, ap (λ (y : Playback). y.sent) p, x.one);
        counted = ap (λ (y : Playback). y.ticks) p ∙ x.counted;
        cell = ap (λ (y : Playback). sent_at y i) p ∙ x.cell;
      })
      (λ _ e. absurd (omega (arith, ap kept.sent_of e))) (next m h (tick mm out) k)

  answer_leaves : (slot : ℕ) (msg out : List ℕ) → Whole m.sequence → m.playback.sent ≤ i → i < (apply m (answer slot msg out)).master.playback.sent
      → Playing (apply m (answer slot msg out)).master → ⊥
  answer_leaves slot msg out w below above k =
      chosen (λ x. Goes (answer slot msg out) x → ⊥) (eqb (apply m (answer slot msg out)).number 0) (replay.answer slot (reply_in msg)) replay.message
      (λ e. omega (arith, ap kept.sent_of e, kept.answer_sent m.sequence w i m.playback m.tan slot (reply_in msg)))
      (λ e. omega (arith, ap kept.sent_of e)) (next m h (answer slot msg out) k)

-- the tick of a step stays beside it
pub still_left : (es : List Event) (n : Master) → Lasts n es → (i : ℕ) → i < n.playback.sent
    → (sent_at (run_from n es).playback i).left ≡ (sent_at n.playback i).left
still_left es n l i h =
    let z =
    subst (λ (s : State). kept.Holds i (sent_at n.playback i).tan (sent_at n.playback i).left s) (lasting es n l).0
    (kept.holds i (sent_at n.playback i).tan (sent_at n.playback i).left n.sequence (seen_all n es) (going n.playback n.tan) (h, refl, refl)) in
    z.2

none_yet : (m : Master) → Begins m → m.playback.sent ≡ 0
unfolding blank_playback
none_yet m b = ap (λ (p : Playback). p.sent) b.blank

-- what leaves at this tick for the first time is written
written_first : (tan t ticks : ℕ) (c : Sent) → c ≡ record { tan = tan; answer = answer_none; left = t } → ticks ≡ t → is_written ticks c ≡ true
written_first tan t ticks c e q = rw (e, q) (eq-eqb (t % 2) (t % 2) refl)

-- STEP i FIRST STANDS IN THE LENT BYTES AT THE TICK AT WHICH IT LEAVES, THE LAST OF THOSE THAT ARE WRITTEN
first_of : (m : Master) → (s : Started m) → (es : List Event) → Lasts m es → (i t : ℕ) → LeftAt (run_from m es) i t → (x : First m es i)
    → View (run_from m x.earlier) x.e → FirstLeaves m es i t
unfolding written
first_of m s es l i t h x v = go x.e v x.split x.above x.on
  where
    go : (e : Event) → View (run_from m x.earlier) e → es ≡ x.earlier ++ e ∷ x.later → i < (apply (run_from m x.earlier) e).master.playback.sent
        → Lasts (apply (run_from m x.earlier) e).master x.later → FirstLeaves m es i t
    go e (another a q u) split above on = absurd (same (stays (run_from m x.earlier) (lasts_last x.earlier m x.lasts) e a))
      where
        same : Stays (run_from m x.earlier) e (apply (run_from m x.earlier) e).master → ⊥
        same (keeps p b c d) = omega (arith, x.below, above, ap (λ (y : Playback). y.sent) c)
        same (aborts c p) = omega (arith, p, lasts_head (apply (run_from m x.earlier) e).master x.later on)
    go e (an_answer slot msg out) split above on =
        absurd
        (answer_leaves (run_from m x.earlier) (lasts_last x.earlier m x.lasts) i slot msg out (whole_at m s x.earlier x.lasts)
        x.below above (lasts_head _ x.later on))
    go e (a_tick mm out) split above on =
        let c = x.earlier in
        let n = run_from m c in
        let r = tick_leaves n (lasts_last c m x.lasts) i mm out (good m s c x.lasts) (whole_at m s c x.lasts) x.below above (lasts_head _ x.later on) in
        let a : Lasts m (c ++ tick mm out ∷ []) = lasts_append c (tick mm out ∷ []) m x.lasts (lasts_last c m x.lasts, lasts_head _ x.later on) in
        let k : run_from m es ≡ run_from (apply n (tick mm out)).master x.later =
        ap (run_from m) split ∙ run_append c (tick mm out ∷ x.later) m in
        let p : run_from m (c ++ tick mm out ∷ []) ≡ (apply n (tick mm out)).master = run_append c (tick mm out ∷ []) m in
        let cs = (run_from m (c ++ tick mm out ∷ [])).playback.commands in
        let one : (run_from m (c ++ tick mm out ∷ [])).playback.sent ≡ suc i = omega (arith, ap (λ (y : Master). y.playback.sent) p, r.one) in
        let now : Sent → Bool = is_written (run_from m (c ++ tick mm out ∷ [])).playback.ticks in
        let t_now : (run_from m (c ++ tick mm out ∷ [])).playback.ticks ≡ suc n.playback.ticks = ap (λ (y : Master). y.playback.ticks) p ∙ r.counted in
        let q : sent_at (run_from m (c ++ tick mm out ∷ [])).playback i ≡ record { tan = next_tan n.tan; answer = 0; left = suc n.playback.ticks } =
        ap (λ (y : Master). sent_at y.playback i) p ∙ r.cell in
        let is_now_lem : now (get_or cs i blank_sent) ≡ true = written_first (next_tan n.tan) (suc n.playback.ticks) _ _ q t_now in
        let g = good m s (c ++ tick mm out ∷ []) a in
        record {
          earlier = c;
          mm = mm;
          out = out;
          later = x.later;
          split = split;
          lasts = a;
          accepted = r.accepted;
          number =
              omega (
                arith,
                h.1,
                ap (λ (y : Master). (sent_at y.playback i).left) k,
                still_left x.later (apply n (tick mm out)).master on i above,
                ap (λ (y : Sent). y.left) r.cell,
                ticks_are m s c x.lasts,
              );
          not_before = λ y. omega (arith, seen_left m s c x.lasts i y, r.none);
          written = written m s c mm out a r.accepted;
          others = numbers_from now 0 (take i cs);
          last = ap (λ (j : ℕ). numbers_from now 0 (take j cs)) one ∙ last_number now 0 cs i (omega (arith, one, g.cells, g.within)) is_now_lem
              ∙ ap (λ (j : ℕ). numbers_from now 0 (take i cs) ++ j ∷ []) (zero-add i);
        }

pub first_leaves : (m : Master) → Started m → (es : List Event) → Lasts m es → (i t : ℕ) → LeftAt (run_from m es) i t → FirstLeaves m es i t
first_leaves m s es l i t h =
    let x = find es m i l (omega (arith, none_yet m (begins m s))) h.0 in
    first_of m s es l i t h x (view (run_from m x.earlier) x.e)
