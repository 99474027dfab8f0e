-- What is kept at the end: the steps that stay, and the records of their clients.
use Prim.Native.Nat.{ℕ, zero, suc, ◌+◌, ◌≤◌, ◌<◌}
use mathlib.Core.Path.{◌≡◌, refl, sym, ap, subst, ◌∙◌}
use mathlib.Core.Bool.{Bool, true, false, true≢false}
use mathlib.Core.List.{List, [], ◌∷◌}
use native.Mathlib.Omega.{arith}
use lib.ListN.{length, get_or, length-map, get_or-replicate}
use borrow.Author.Tests.{ne_eqb}
use Rattle.octets.specs.Pick.{pick}
use Rattle.arrays.specs.Arrays.{some, those, pad_to}
use Rattle.arrays.specs.Every.{Every, EveryTwo}
use Rattle.arrays.proofs.Fill.{pad_none}
use Rattle.arrays.proofs.Pad.{pad_take}
use Rattle.arrays.proofs.Every.{every_map, every_those, pairs_map, pairs_those, some_map, those_none, those_some, none_those}
use Rattle.client.specs.Records.{is_used, blank_record}
use Rattle.client.specs.declared.ClientRecord.{ClientRecord}
use Rattle.sequence.specs.Sequence.{blank_step, blank_sequence, steps_of}
use Rattle.sequence.specs.declared.Step.{Step}
use Rattle.sequence.specs.declared.Sequence.{Sequence}
use Rattle.sequence.specs.Sound.{is_of, SoundSequence}
use Rattle.recording.specs.Indication.{held_of}
use Rattle.recording.specs.Kept.{stays, step_in, stayed, record_kept, records_from, sequence_of, kept_sequence}
use Rattle.recording.specs.Promises.{Sound, Keeps, InOrder, is_taken_of}
use Rattle.recording.specs.declared.Recording.{Recording}
use Rattle.recording.proofs.Stayed.{stayed_fits}
use Rattle.recording.proofs.Cases.{full}
use Rattle.recording.proofs.Sound.{unused}

-- ---- the records

module _ (l : List Step) where
  pub records_length : (k : ℕ) (records : List ClientRecord) → length (records_from l k records) ≡ length records
  records_length k [] = refl
  records_length k (c ∷ records) = ap suc (records_length (suc k) records)

  records_from_lem : (k i : ℕ) (records : List ClientRecord) (d : ClientRecord) → i < length records → get_or (records_from l k records) i d ≡ record_kept l (k + i) (get_or records i d)
  records_from_lem k i [] d h = absurd (omega arith)
  records_from_lem k zero (c ∷ records) d h = let z : k ≡ k + 0 = omega arith in ap (λ (x : ℕ). record_kept l x c) z
  records_from_lem k (suc i) (c ∷ records) d h =
      let z : suc k + i ≡ k + suc i = omega arith in
      records_from_lem (suc k) i records d (omega arith) ∙ ap (λ (x : ℕ). record_kept l x (get_or records i d)) z

  pub records_at : (i : ℕ) (records : List ClientRecord) (d : ClientRecord) → i < length records → get_or (records_from l 0 records) i d ≡ record_kept l i (get_or records i d)
  records_at i records d h = let z : 0 + i ≡ i = omega arith in records_from_lem 0 i records d h ∙ ap (λ (x : ℕ). record_kept l x (get_or records i d)) z

  has : (slot : ℕ) (c : ClientRecord) → some (is_of slot) l ≡ true → record_kept l slot c ≡ c
  unfolding pick record_kept
  has slot c q = rw q

  has_not : (slot : ℕ) (c : ClientRecord) → some (is_of slot) l ≡ false → record_kept l slot c ≡ blank_record
  unfolding pick record_kept
  has_not slot c q = rw q

-- ---- the sequence

pub sound_none : SoundSequence blank_sequence
unfolding blank_sequence steps_of
sound_none =
    record {
      few = omega arith;
      blank = pad_none blank_step 64;
      within = tt;
      slots = refl;
      recorded = λ slot h. rw (get_or-replicate 8 slot blank_record blank_record h) unused;
      unrecorded = λ slot h _. get_or-replicate 8 slot blank_record blank_record h;
      edition = λ h. absurd (omega arith);
      no_edition = λ _. refl;
    }

module _ (r : Recording) (old : Sequence) (s : Sound r) where
  abbrev kept : List Step
  kept = stayed (held_of r)

  keeps_none : some stays (held_of r) ≡ false → kept_sequence r old ≡ old
  unfolding pick kept_sequence
  keeps_none n = rw (those_none stays (held_of r) n)

  some_kept : some stays (held_of r) ≡ true → 1 ≤ length kept
  some_kept n =
      let a = those_some stays (held_of r) n in
      let b = length-map (those stays (held_of r)) step_in in
      omega arith

  keeps_some : some stays (held_of r) ≡ true → kept_sequence r old ≡ sequence_of kept r.records
  unfolding pick kept_sequence
  keeps_some n = rw (ne_eqb (length kept) 0 (λ z. omega (arith, some_kept n)))

  fits : length kept ≤ 64
  fits = stayed_fits r.steps r.count (full r s)

  kept_steps : steps_of (sequence_of kept r.records) ≡ kept
  unfolding steps_of
  kept_steps = pad_take blank_step 64 kept fits

  -- a step that stays was held
  none_kept : (slot : ℕ) → some (is_taken_of slot) (held_of r) ≡ false → some (is_of slot) kept ≡ false
  none_kept slot n = some_map step_in (is_of slot) (those stays (held_of r)) ∙ none_those (is_taken_of slot) stays (held_of r) n

  recorded : (slot : ℕ) → slot < 8 → (b : Bool) → some (is_of slot) kept ≡ b → (c : Bool) → some (is_taken_of slot) (held_of r) ≡ c
      → is_used (record_kept kept slot (get_or r.records slot blank_record)) ≡ b
  recorded slot h true q true p = rw (has kept slot (get_or r.records slot blank_record) q) (s.recorded slot h ∙ p)
  recorded slot h true q false p = absurd (true≢false (sym q ∙ none_kept slot p))
  recorded slot h false q c p = rw (has_not kept slot (get_or r.records slot blank_record) q) unused

  at : (slot : ℕ) → slot < 8 → get_or (records_from kept 0 r.records) slot blank_record ≡ record_kept kept slot (get_or r.records slot blank_record)
  at slot h = let n = s.slots in records_at kept slot r.records blank_record (omega arith)

  -- where some step stays: with none there is no edition
  sound_sequence : some stays (held_of r) ≡ true → SoundSequence (sequence_of kept r.records)
  sound_sequence n =
      record {
        few = fits;
        blank = ap (pad_to blank_step 64) (sym kept_steps);
        within = subst (Every (λ x. x.slot < 8)) (sym kept_steps) (every_map step_in (λ x. x.slot < 8) (those stays (held_of r)) (every_those _ stays (held_of r) s.within));
        slots = records_length kept 0 r.records ∙ s.slots;
        recorded = λ slot h.
            ap is_used (at slot h) ∙ recorded slot h (some (is_of slot) kept) refl (some (is_taken_of slot) (held_of r)) refl ∙ ap (some (is_of slot)) (sym kept_steps);
        unrecorded = λ slot h q. at slot h ∙ has_not kept slot (get_or r.records slot blank_record) (ap (some (is_of slot)) (sym kept_steps) ∙ q);
        edition = λ _. refl;
        no_edition = λ z. absurd (omega (arith, some_kept n));
      }

  pub sound_kept : SoundSequence old → SoundSequence (kept_sequence r old)
  sound_kept o = go (some stays (held_of r)) refl
    where
      go : (b : Bool) → some stays (held_of r) ≡ b → SoundSequence (kept_sequence r old)
      go true n = subst SoundSequence (sym (keeps_some n)) (sound_sequence n)
      go false n = subst SoundSequence (sym (keeps_none n)) o

  pub kept_ordered : some stays (held_of r) ≡ true → EveryTwo InOrder (steps_of (kept_sequence r old))
  kept_ordered n =
      subst (EveryTwo InOrder) (sym (ap steps_of (keeps_some n) ∙ kept_steps))
      (pairs_map step_in InOrder (those stays (held_of r)) (pairs_those _ stays (held_of r) s.ordered))

  kept_record : (slot : ℕ) (c : ClientRecord) → record_kept kept slot c ≡ pick (some (is_of slot) kept) c blank_record
  unfolding record_kept
  kept_record slot c = refl

  pub keeps : Keeps r old
  keeps =
      record {
        steps = λ n. ap steps_of (keeps_some n) ∙ kept_steps;
        none = keeps_none;
        records = λ slot h n. ap (λ (q : Sequence). get_or q.records slot blank_record) (keeps_some n) ∙ at slot h ∙ kept_record slot (get_or r.records slot blank_record);
      }
