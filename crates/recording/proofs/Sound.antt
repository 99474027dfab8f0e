-- What is always so of a recording is so at the start, and stays so with every tick and every message.
use Prim.Native.Nat.{ℕ, ◌≤◌, ◌<◌}
use mathlib.Core.Path.{◌≡◌, refl, sym, ap, subst, ◌∙◌}
use mathlib.Core.Bool.{Bool, true, false, ◌||◌, or-true, or-false}
use mathlib.Core.List.{List, map}
use native.Mathlib.Omega.{arith}
use lib.Dec.{eqb}
use lib.ListN.{length, take, get_or, set, get_or-replicate}
use lib.Seq.{map-set_same, take-set-lt}
use borrow.Author.Tests.{eqb-true, eqb-false}
use Rattle.octets.specs.Pick.{pick}
use Rattle.profile.specs.Profile.{trigger}
use Rattle.message.specs.declared.Execution.{Execution}
use Rattle.arrays.specs.Arrays.{some, pad_to, more}
use Rattle.arrays.specs.Every.{Every, EveryTwo}
use Rattle.arrays.proofs.Fill.{pad_none, pad_set}
use Rattle.arrays.proofs.Pad.{pad_put}
use Rattle.arrays.proofs.Every.{map_take, every_weaken, every_more, pairs_more, every_alike, pairs_alike, some_alike, some_more, none_passes, neither}
use Rattle.client.specs.Records.{is_used, blank_record}
use Rattle.client.specs.declared.Client.{Client}
use Rattle.sequence.specs.Sequence.{by_distance}
use Rattle.recording.specs.State.{blank_taken, blank_recording}
use Rattle.recording.specs.Indication.{counted_recording, held_of, step_at, is_step_of, step_after, with_step, heard_again, new_step, records_after, with_new, heard_of}
use Rattle.recording.specs.Promises.{Sound, InOrder, count_of, is_taken_of, start_of, most}
use Rattle.recording.specs.declared.Taken.{Taken}
use Rattle.recording.specs.declared.Recording.{Recording}
use Rattle.recording.proofs.Errors.{room}
use Rattle.recording.proofs.Records.{after_length, after_here, after_other}
use Rattle.recording.proofs.Cases.{held_count, held_new, error, begun, by_cases}
use Rattle.recording.proofs.Steps.{start_same, marked, new_slot, single_new}

-- ---- before anything is recorded

pub unused : is_used blank_record ≡ false
unfolding blank_record
unused = refl

pub sound_blank : Sound blank_recording
unfolding blank_recording
sound_blank =
    record {
      few = omega arith;
      blank = pad_none blank_taken 64;
      ticks = omega arith;
      distance = omega arith;
      passed = tt;
      ordered = tt;
      single = tt;
      within = tt;
      slots = refl;
      recorded = λ slot h. rw (get_or-replicate 8 slot blank_record blank_record h) unused;
      unrecorded = λ slot h _. get_or-replicate 8 slot blank_record blank_record h;
    }

-- ---- a tick

more_caps : (a b : ℕ) → more a b ≤ most
unfolding more
more_caps a b = omega arith

more_grows : (a b : ℕ) → a ≤ most → a ≤ more a b
unfolding more
more_grows a b h = omega arith

module _ (r : Recording) (mm : ℕ) (s : Sound r) where
  count_grows : (b : Bool) → count_of r b ≤ count_of (counted_recording r mm) b
  unfolding pick counted_recording
  count_grows true = more_grows r.distance mm s.distance
  count_grows false = more_grows r.ticks 1 s.ticks

  pub sound_counted : Sound (counted_recording r mm)
  unfolding counted_recording
  sound_counted =
      record {
        few = s.few;
        blank = s.blank;
        ticks = more_caps r.ticks 1;
        distance = more_caps r.distance mm;
        passed = every_weaken (λ t h. let g = count_grows (by_distance t.step) in omega arith) (held_of r) s.passed;
        ordered = s.ordered;
        single = s.single;
        within = s.within;
        slots = s.slots;
        recorded = s.recorded;
        unrecorded = s.unrecorded;
      }

-- ---- a message of a step that is held

module _ (r : Recording) (s : Sound r) (i : ℕ) (h : i < r.count) (t : Taken) (same : start_of t ≡ start_of (step_at r i)) where
  pub starts : map start_of (held_of r) ≡ map start_of (held_of (with_step r i t))
  starts =
      map_take start_of r.count r.steps
      ∙ ap (take r.count) (sym (map-set_same start_of r.steps i t blank_taken same))
      ∙ sym (map_take start_of r.count (set r.steps i t))

  sound_step : Sound (with_step r i t)
  sound_step =
      let n = held_count r s in
      let l = held_of r in
      let m = held_of (with_step r i t) in
      let p : i < length l = omega arith in
      record {
        few = s.few;
        blank = ap (λ (k : List Taken). set k i t) s.blank ∙ pad_put blank_taken 64 l i t p ∙ ap (pad_to blank_taken 64) (sym (take-set-lt r.count r.steps i t h));
        ticks = s.ticks;
        distance = s.distance;
        passed = every_alike start_of l m starts (λ t. t.step.mark ≤ count_of r (by_distance t.step)) s.passed;
        ordered = pairs_alike start_of l m starts (λ a b. InOrder a.step b.step) s.ordered;
        single = pairs_alike start_of l m starts (λ a b. is_step_of b.step.slot b.tan a ≡ false) s.single;
        within = every_alike start_of l m starts (λ t. t.step.slot < 8) s.within;
        slots = s.slots;
        recorded = λ slot k. s.recorded slot k ∙ some_alike start_of l m starts (is_taken_of slot);
        unrecorded = λ slot k q. s.unrecorded slot k (some_alike start_of l m starts (is_taken_of slot) ∙ q);
      }

-- ---- a new step

module _ (r : Recording) (s : Sound r) (t : Taken) (client : Client) (h : r.count < 64) (mark : t.step.mark ≡ count_of r (by_distance t.step)) where
  after_some : (slot : ℕ) → some (is_taken_of slot) (held_of (with_new r t client)) ≡ (some (is_taken_of slot) (held_of r) || eqb t.step.slot slot)
  after_some slot = ap (some (is_taken_of slot)) (held_new r s t client h) ∙ some_more (is_taken_of slot) (held_of r) t

  recorded_here : (slot : ℕ) → slot < 8 → (b : Bool) → eqb t.step.slot slot ≡ b
      → is_used (get_or (records_after r.records t.step.slot client) slot blank_record) ≡ (some (is_taken_of slot) (held_of r) || b)
  recorded_here slot k true q =
      let e = eqb-true t.step.slot slot q in
      ap (λ (x : ℕ). is_used (get_or (records_after r.records t.step.slot client) x blank_record)) (sym e)
      ∙ after_here r.records t.step.slot client s.slots (omega arith) ∙ sym (or-true (some (is_taken_of slot) (held_of r)))
  recorded_here slot k false q =
      rw (after_other r.records t.step.slot client s.slots slot (λ z. eqb-false t.step.slot slot q (sym z))) (s.recorded slot k ∙ sym (or-false (some (is_taken_of slot) (held_of r))))

  sound_new : (single : Every (λ a. is_step_of t.step.slot t.tan a ≡ false) (held_of r)) → t.step.slot < 8 → Sound (with_new r t client)
  unfolding with_new
  sound_new single k =
      let n = held_count r s in
      let l = held_of r in
      let new = held_new r s t client h in
      record {
        few = omega arith;
        blank =
            ap (λ (k : List Taken). set k r.count t) s.blank ∙ pad_set blank_taken 64 l r.count t (sym n) h
            ∙ ap (pad_to blank_taken 64) (sym new);
        ticks = s.ticks;
        distance = s.distance;
        passed = subst (Every (λ x. x.step.mark ≤ count_of r (by_distance x.step))) (sym new) (every_more _ l t s.passed (omega arith));
        ordered =
            subst (EveryTwo (λ a b. InOrder a.step b.step)) (sym new)
            (pairs_more _ l t s.ordered
            (every_weaken (λ x p q. let z : count_of r (by_distance x.step) ≡ count_of r (by_distance t.step) = ap (count_of r) q in omega arith) l s.passed));
        single = subst (EveryTwo (λ a b. is_step_of b.step.slot b.tan a ≡ false)) (sym new) (pairs_more _ l t s.single single);
        within = subst (Every (λ x. x.step.slot < 8)) (sym new) (every_more _ l t s.within k);
        slots = after_length r.records t.step.slot client s.slots;
        recorded = λ slot k. recorded_here slot k (eqb t.step.slot slot) refl ∙ sym (after_some slot);
        unrecorded = λ slot k q.
            let z = neither (some (is_taken_of slot) l) (eqb t.step.slot slot) (sym (after_some slot) ∙ q) in
            after_other r.records t.step.slot client s.slots slot (λ x. eqb-false t.step.slot slot z.1 (sym x)) ∙ s.unrecorded slot k z.0;
      }

-- ---- a message

module _ (r : Recording) (slot : ℕ) (client : Client) (complete : Bool) (e : Execution) (s : Sound r) (k : slot < 8) where
  found : (i : ℕ) → i < r.count → Sound (heard_again r i e).recording
  unfolding heard_again
  found i h = sound_step r s i h (step_after (step_at r i) e) (start_same (step_at r i) e)

  new : some (is_step_of slot e.tan) (held_of r) ≡ false → error r slot client complete e ≡ 0 → Sound (begun r slot client complete e).recording
  new n z =
      let g = trigger client.profile e.function in
      sound_new r s (new_step r g slot e) client (room client.profile complete r.count e z) (marked r g slot e (eqb g 2) refl)
      (every_weaken (single_new r g slot e) (held_of r) (none_passes (is_step_of slot e.tan) (held_of r) n)) (rw (new_slot r g slot e) k)

  pub sound_heard : Sound (heard_of r slot client complete e).recording
  sound_heard = by_cases r slot client complete e (λ x. Sound x.recording) s (λ i h _ _. found i h) (λ _ _ _. s) new
