-- What blocks say that are accepted: each field in its range, exactly the slots of which there is a step with a record, and the counts, the
-- edition and the length of the blocks.
use Prim.Native.Nat.{ℕ, ◌+◌, ◌-◌, ◌*◌, ◌≤◌, ◌<◌, min}
use mathlib.Core.Path.{◌≡◌, refl, sym, ap, subst, ◌∙◌}
use mathlib.Core.Bool.{Bool, true, false, not}
use mathlib.Core.List.{List}
use native.Mathlib.Nat.{min-eq_left}
use native.Mathlib.Omega.{arith}
use lib.Dec.{eqb}
use lib.ListN.{length, take, replicate}
use lib.Seq.{take_at}
use borrow.Author.Tests.{eqb-true, eq-eqb, ne_eqb, not-true, not-false}
use Rattle.octets.specs.{Pick.pick, Label.bytes_at, Label.label_at, Numbers.completed, Numbers.check_wrong, Numbers.not_stored}
use Rattle.octets.proofs.Cells.{length_cells}
use Rattle.pool.specs.{Ranges.label_right, StageTwo.label_bytes, StageTwo.character_right}
use Rattle.arrays.specs.{Arrays.some, Arrays.pad_to, Every.Every}
use Rattle.arrays.proofs.Every.{none_passes, every_weaken}
use Rattle.arrays.proofs.Pad.{pad_take}
use Rattle.sequence.specs.Sequence.{blank_step, length_of, steps_of}
use Rattle.sequence.specs.Editions.{is_edition}
use Rattle.sequence.specs.Sound.{is_of, SoundSequence}
use Rattle.sequence.specs.declared.Step.{Step}
use Rattle.sequence.specs.declared.Sequence.{Sequence}
use Rattle.store.specs.Below.{some_below}
use Rattle.store.specs.Blocks.{is_damaged, blocks_for, client_place, step_place}
use Rattle.store.specs.Fields.{step_right}
use Rattle.store.specs.Stored.{slots_in, store_bytes}
use Rattle.store.specs.Loaded.{byte_at, client_at, client_right, step_at, client_count, step_count, edition_in, client_slot, step_slot, steps_to, sequence_in}
use Rattle.store.specs.Loaded.{counts_right, are_clients_right, are_steps_right, is_fill_blank, is_no_slot_twice, has_each_record, has_each_step, reasons_for, is_faulty, load_number, loaded_of}
use Rattle.store.specs.Legal.{RightLabel, RightRecord, RightStep, Legal}
use Rattle.store.specs.Promises.{Accepted}
use Rattle.store.proofs.Below.{below_every, found_below}
use Rattle.store.proofs.Lists.{every_row, pad_is}
use Rattle.store.proofs.Fields.{count_parts, label_most, client_parts, step_parts}
use Rattle.store.proofs.Steps.{steps_length, every_step, step_of}
use Rattle.store.proofs.Records.{has_slot, record_to, records_length, record_none, record_some, record_used, records_count}

-- ---- a label

module _ (s : List ℕ) (i n : ℕ) (h : label_right n ≡ true) where
  -- 63 cells have room for it
  fits : min n 63 ≡ n
  fits = min-eq_left (label_most n h)

  label_bytes_lem : label_bytes (label_at s i n) ≡ bytes_at s i (min n 63)
  unfolding label_at
  label_bytes_lem = take_at (bytes_at s i (min n 63)) (replicate (63 - min n 63) 0) (min n 63) (length_cells (min n 63) _)

  pub right_label : RightLabel (label_at s i n)
  unfolding label_at
  right_label =
      record {
        length = rw fits h;
        cells =
            let e = length_cells (min n 63) (λ k. byte_at s (i + k)) in
            sym (ap (pad_to 0 63) label_bytes_lem ∙ pad_is 0 63 (bytes_at s i (min n 63)) (omega arith) ∙ rw e);
      }

  right_characters : ((k : ℕ) → k < n → character_right (byte_at s (i + k)) ≡ true) → Every (λ c. character_right c ≡ true) (label_bytes (label_at s i n))
  right_characters f =
      subst (Every (λ c. character_right c ≡ true)) (sym label_bytes_lem)
      (every_row (λ c. character_right c ≡ true) (min n 63) (λ k. byte_at s (i + k)) (λ k l. f k (omega (arith, fits))))

-- ---- a client record

module _ (s : List ℕ) (p : ℕ) (h : client_right s p ≡ true) where
  right_record : RightRecord (client_at s p)
  unfolding client_at
  right_record =
      let n : ℕ = byte_at s (p + 1) in
      let parts = client_parts s p h in
      record {
        used = refl;
        version = right_label s (p + 20) n parts.1;
        configuration = right_label s (p + 84) (byte_at s (p + 2)) parts.2;
        characters = right_characters s (p + 20) n parts.1 (below_every (λ k. character_right (byte_at s (p + 20 + k))) n parts.3);
      }

-- ---- a step

right_step : (x : Step) → step_right x ≡ true → RightStep x
unfolding pick
right_step x h =
    let parts = step_parts x h in
    record {
      slot = let l = parts.0 in omega arith;
      state = let l = parts.1 in omega arith;
      kind = parts.2;
      ticks = λ z. rw z at parts.3;
      millimetres = λ z. rw z at parts.3;
    }

-- ---- none of the reasons

module _ (s : List ℕ) where
  abbrev c : ℕ
  c = client_count s

  abbrev n : ℕ
  n = step_count s

  -- what is asked of the blocks
  pub record Faultless : Type 0 where
    pub counts : counts_right c n ≡ true
    pub edition : is_edition (edition_in s) ≡ true
    pub blocks : length s ≡ 512 * blocks_for c n
    pub clients : are_clients_right s c n ≡ true
    pub steps : are_steps_right s c n ≡ true
    pub fill : is_fill_blank s c n ≡ true
    pub once : is_no_slot_twice s c n ≡ true
    pub each_record : has_each_record s c n ≡ true
    pub each_step : has_each_step s c n ≡ true

  pub faultless : is_faulty s ≡ false → Faultless
  unfolding is_faulty
  faultless e =
      let h = none_passes (λ reason. reason) (reasons_for s c n) e in
      record {
        counts = not-false _ h.0;
        edition = not-false _ h.1.0;
        blocks = eqb-true _ _ (not-false _ h.1.1.0);
        clients = not-false _ h.1.1.1.0;
        steps = not-false _ h.1.1.1.1.0;
        fill = not-false _ h.1.1.1.1.1.0;
        once = not-false _ h.1.1.1.1.1.1.0;
        each_record = not-false _ h.1.1.1.1.1.1.1.0;
        each_step = not-false _ h.1.1.1.1.1.1.1.1.0;
      }

  -- number 0 has none of the reasons for 17, and gives the sequence that the blocks say
  pub no_fault : (loaded_of s).number ≡ completed → is_faulty s ≡ false
  unfolding pick load_number loaded_of
  no_fault e = go (is_damaged s) (is_faulty s) e
    where
      go : (a b : Bool) → pick a check_wrong (pick b not_stored completed) ≡ completed → b ≡ false
      go true b z = absurd (omega arith)
      go false true z = absurd (omega arith)
      go false false z = refl

  pub said : (loaded_of s).number ≡ completed → (loaded_of s).sequence ≡ sequence_in s
  unfolding pick loaded_of
  said e = rw (eq-eqb (load_number s) completed e)

  module _ (f : Faultless) where
    in_counts : (1 ≤ c) × (c ≤ 8) × (1 ≤ n) × (n ≤ 64)
    in_counts = count_parts c n f.counts

    pub client_right_lem : (k : ℕ) → k < c → client_right s (client_place k) ≡ true
    client_right_lem = below_every (λ k. client_right s (client_place k)) c f.clients

    step_right_lem : (k : ℕ) → k < n → step_right (step_at s (step_place c k)) ≡ true
    step_right_lem = below_every (λ k. step_right (step_at s (step_place c k))) n f.steps

    abbrev q : Sequence
    q = sequence_in s

    pub steps_are : steps_of q ≡ steps_to s c n
    unfolding steps_of sequence_in
    steps_are =
        let e : length (steps_to s c n) ≡ n = steps_length s c n in
        let few = in_counts.3 in
        ap (λ (m : ℕ). take m (pad_to blank_step 64 (steps_to s c n))) (sym e) ∙ pad_take blank_step 64 (steps_to s c n) (omega arith)

    -- there is a step of slot x
    has_step : (x : ℕ) → some (is_of x) (steps_of q) ≡ some_below n (λ k. eqb (step_slot s c k) x)
    has_step x = rw steps_are (step_of s c x n)

    -- there is a record of slot x exactly where there is a step of it
    as_steps : (x : ℕ) → has_slot s c x ≡ some (is_of x) (steps_of q)
    as_steps x = alike (has_slot s c x) (some (is_of x) (steps_of q)) there back
      where
        alike : (a b : Bool) → (a ≡ true → b ≡ true) → (b ≡ true → a ≡ true) → a ≡ b
        alike true b g h = sym (g refl)
        alike false true g h = h refl
        alike false false g h = refl

        there : has_slot s c x ≡ true → some (is_of x) (steps_of q) ≡ true
        there e =
            let j = found_below (λ j. eqb (client_slot s j) x) c e in
            let z : client_slot s j.0 ≡ x = eqb-true _ _ j.2 in
            has_step x ∙ ap (λ (y : ℕ). some_below n (λ k. eqb (step_slot s c k) y)) (sym z)
            ∙ below_every (λ j. some_below n (λ k. eqb (step_slot s c k) (client_slot s j))) c f.each_step j.0 j.1

        back : some (is_of x) (steps_of q) ≡ true → has_slot s c x ≡ true
        back e =
            let k = found_below (λ k. eqb (step_slot s c k) x) n (sym (has_step x) ∙ e) in
            let z : step_slot s c k.0 ≡ x = eqb-true _ _ k.2 in
            ap (has_slot s c) (sym z) ∙ below_every (λ k. has_slot s c (step_slot s c k)) n f.each_record k.0 k.1

    has_record : (x : ℕ) → x < 8 → some (is_of x) (steps_of q) ≡ true → RightRecord (record_to s c x)
    has_record x h e =
        let j = record_some s c x h (as_steps x ∙ e) in
        subst RightRecord (sym j.2.1) (right_record s (client_place j.0) (client_right_lem j.0 j.1))

    sound : SoundSequence q
    unfolding sequence_in
    sound =
        record {
          few = in_counts.3;
          blank = ap (pad_to blank_step 64) (sym steps_are);
          within =
              subst (Every (λ x. x.slot < 8)) (sym steps_are)
              (every_step s c (λ x. x.slot < 8) n (λ k h. (step_parts (step_at s (step_place c k)) (step_right_lem k h)).0));
          slots = records_length s c;
          recorded = λ x h. record_used s c x h ∙ as_steps x;
          unrecorded = λ x h e. record_none s c x h (as_steps x ∙ e);
          edition = λ _. f.edition;
          no_edition = λ z. absurd (omega (arith, in_counts.2));
        }

    legal : Legal q
    unfolding sequence_in
    legal =
        record {
          some_step = in_counts.2;
          sound = sound;
          steps = subst (Every (λ x. step_right x ≡ true)) (sym steps_are) (every_step s c (λ x. step_right x ≡ true) n step_right_lem);
          records = has_record;
        }

    clients_are : length (slots_in q.records) ≡ c
    unfolding sequence_in
    clients_are =
        records_count s c (λ j h. (client_parts s (client_place j) (client_right_lem j h)).0)
        (λ j h. not-true _ (below_every (λ k. not (has_slot s k (client_slot s k))) c f.once j h))

    length_is : length_of q ≡ n
    unfolding sequence_in
    length_is = min-eq_left in_counts.3

    blocks_are : length s ≡ store_bytes q
    unfolding pick store_bytes
    blocks_are = let m = in_counts.2 in rw (clients_are, length_is, ne_eqb n 0 (λ e. omega arith)) f.blocks

    edition_is : q.edition ≡ edition_in s
    unfolding sequence_in
    edition_is = refl

    is_accepted : Accepted s q
    is_accepted =
        record {
          legal = legal;
          fields = every_weaken right_step (steps_of q) legal.steps;
          clients = clients_are;
          steps = length_is;
          edition = edition_is;
          blocks = blocks_are;
        }

pub accepted : (s : List ℕ) → (loaded_of s).number ≡ completed → Accepted s (loaded_of s).sequence
accepted s e = subst (Accepted s) (sym (said s e)) (is_accepted s (faultless s (no_fault s e)))
