-- What loading accepts is, byte for byte, what storing writes of the sequence that it gives, with the client records in the order in which they stand.
use Prim.Native.Nat.{ℕ, zero, suc, ◌+◌, ◌-◌, ◌*◌, ◌≤◌, ◌<◌}
use native.Mathlib.Decide.{dec_le}
use native.Mathlib.Omega.{arith}
use mathlib.Core.Path.{◌≡◌, refl, sym, ap, ◌∙◌}
use mathlib.Core.Bool.{true, false, not, ◌&&◌, true≢false}
use mathlib.Core.List.{List, [], ◌∷◌, map}
use lib.Dec.{eqb}
use lib.ListN.{length, get_or, length-map, get_or-append}
use lib.Seq.{get_or_at}
use borrow.Author.Tests.{eq-eqb, not-true}
use Rattle.octets.specs.Numbers.{completed, check_wrong}
use Rattle.octets.specs.Octets.{number_at, bytes_of}
use Rattle.octets.proofs.{Laws.Bytes, Laws.length_bytes, Cells.length_cells, Cells.cell, Tests.both}
use Rattle.arrays.proofs.Every.{every_map}
use Rattle.sequence.specs.Sequence.{blank_step}
use Rattle.store.specs.Blocks.{block_bytes, is_damaged, client_blocks, step_blocks, blocks_for, client_place, step_place, word_at, check_at}
use Rattle.store.specs.Stored.{client_bytes, step_bytes, head_of, sealed_from}
use Rattle.store.specs.Loaded.{client_blank, client_count, step_count, edition_in, client_slot, client_at, step_at, step_blank, steps_to, rest_blank, sequence_in, loaded_of}
use Rattle.store.specs.Below.{every_below}
use Rattle.store.specs.Whole.{slots_read, stored_by, Whole}
use Rattle.store.proofs.Below.{below_cases, below_every, below_none, some_below_lem}
use Rattle.store.proofs.Lists.{every_row}
use Rattle.std.proofs.lemmas.List.{get_or-map}
use Rattle.store.proofs.Stands.{At}
use Rattle.store.proofs.Contents.{contents, used_fits, length_contents, client_content, step_content}
use Rattle.store.proofs.Blocks.{length_blocks}
use Rattle.store.proofs.Places.{Things, length_content}
use Rattle.store.proofs.Items.{counted, counted_length, step_length}
use Rattle.store.proofs.Fields.{client_parts}
use Rattle.store.proofs.Steps.{steps_length, every_step}
use Rattle.store.proofs.Records.{has_slot, record_to, record_some}
use Rattle.store.proofs.Altered.{right, undamaged, all_intact}
use Rattle.store.proofs.Accepted.{Faultless, faultless, no_fault, said, client_right_lem, steps_are}
use Rattle.store.proofs.Again.{lowest_first, any_order}
use Rattle.store.proofs.Found.{is_whole, both_there, number_there, group_there, blocks_there}
use Rattle.store.proofs.Rewritten.{client_wide, client_there, step_there, block_there}

-- ---- bytes of which each part stands in its place

-- the counts and the edition, the client records cs, the steps ns, zeros after what a block holds, and checks
record Stand (s : List ℕ) (c n edition : ℕ) (cs ns : List (List ℕ)) : Type 0 where
  bytes : Bytes s
  whole : length s ≡ block_bytes * blocks_for c n
  head : At s 0 (head_of c n edition)
  clients : Things 148 c cs
  steps : Things 16 n ns
  client : (k : ℕ) → k < c → At s (client_place k) (get_or cs k [])
  step : (k : ℕ) → k < n → At s (step_place c k) (get_or ns k [])
  blank : (b : ℕ) → b < blocks_for c n → rest_blank s c n b ≡ true
  checks : (b : ℕ) → b < blocks_for c n → word_at s (block_bytes * b) 127 ≡ check_at s (block_bytes * b) (b + 1)

module _ {s : List ℕ} {c n edition : ℕ} {cs ns : List (List ℕ)} (S : Stand s c n edition cs ns) where
  content_there : (b : ℕ) → b < blocks_for c n → At s (block_bytes * b) (get_or (contents c n edition cs ns) b [])
  content_there zero h = S.head
  content_there (suc j) h =
      elim (dec_le (suc j) (client_blocks c)) [
        | yes y ↦
            rw (client_content c n edition cs ns j (omega arith))
            (group_there 3 148 (client_blocks c) (block_bytes * suc j) cs j S.clients.wide (omega arith) (λ r m l.
            let place : client_place (3 * j + r) ≡ block_bytes * suc j + 148 * r = omega arith in
            rw place at (S.client (3 * j + r) (omega (arith, S.clients.count)))))
        | no x ↦
            let i : ℕ = j - client_blocks c in
            let e : j ≡ client_blocks c + i = omega arith in
            rw (ap (λ (k : ℕ). get_or (contents c n edition cs ns) (suc k) []) e ∙ step_content c n edition cs ns i)
            (group_there 31 16 (step_blocks n) (block_bytes * suc j) ns i S.steps.wide (omega arith) (λ r m l.
            let place : step_place c (31 * i + r) ≡ block_bytes * suc j + 16 * r = omega arith in
            rw place at (S.step (31 * i + r) (omega (arith, S.steps.count)))))
      ]

  -- they are the blocks
  are_blocks : sealed_from 1 (contents c n edition cs ns) ≡ s
  are_blocks =
      let all : List (List ℕ) = contents c n edition cs ns in
      let count : length all ≡ blocks_for c n = length_contents c n edition cs ns in
      is_whole s (sealed_from 1 all)
      (blocks_there 1 0 all (λ b l.
      let h : b < blocks_for c n = rw count at l in
      let used = length_content {edition = edition} (record { clients = S.clients; steps = S.steps; bytes = refl }) b h in
      let from : 0 + block_bytes * b ≡ block_bytes * b = omega arith in
      let number : 1 + b ≡ b + 1 = omega arith in
      rw (from, number)
      (block_there s S.bytes (block_bytes * b) (b + 1) (get_or all b []) (omega (arith, S.whole)) (rw used (used_fits c n b)) (content_there b h)
      (rw used (S.blank b h)) (S.checks b h))))
      (S.whole ∙ sym (length_blocks 1 all ∙ ap (λ (k : ℕ). block_bytes * k) count))

-- ---- bytes that are accepted

-- step k of those that are read
step_of : (s : List ℕ) (c n k : ℕ) → k < n → get_or (steps_to s c n) k blank_step ≡ step_at s (step_place c k)
step_of s c zero k h = absurd (omega arith)
step_of s c (suc n) k h =
    below_cases (λ j. get_or (steps_to s c (suc n)) j blank_step ≡ step_at s (step_place c j)) n k h
    (λ l. get_or-append (steps_to s c n) (step_at s (step_place c n) ∷ []) blank_step k (omega (arith, steps_length s c n)) ∙ step_of s c n k l)
    (get_or_at (steps_to s c n) (step_at s (step_place c n)) [] blank_step n (steps_length s c n))

module _ (s : List ℕ) (B : Bytes s) (f : Faultless s) (d : is_damaged s ≡ false) where
  abbrev c : ℕ
  c = client_count s

  abbrev n : ℕ
  n = step_count s

  -- the bytes of the client record of a slot
  abbrev client : ℕ → List ℕ
  client slot = client_bytes slot (record_to s c slot)

  -- the fill of client records, of steps, and after them
  fills :
      (every_below c (λ k. client_blank s (client_place k)) ≡ true) × (every_below n (λ k. step_blank s (step_place c k)) ≡ true)
      × (every_below (blocks_for c n) (rest_blank s c n) ≡ true)
  fills =
      let clients = every_below c (λ k. client_blank s (client_place k)) in
      let steps = every_below n (λ k. step_blank s (step_place c k)) in
      let two = both (clients && steps) (every_below (blocks_for c n) (rest_blank s c n)) f.fill in
      let one = both clients steps two.0 in
      (one.0, one.1, two.1)

  slot_small : (k : ℕ) → k < c → client_slot s k < 8
  slot_small k h = (client_parts s (client_place k) (client_right_lem s f k h)).0

  -- no slot stands twice
  alone : (j k : ℕ) → j < k → k < c → client_slot s j ≡ client_slot s k → ⊥
  alone j k l h e =
      let none = not-true _ (below_every (λ i. not (has_slot s i (client_slot s i))) c f.once k h) in
      true≢false (sym (eq-eqb (client_slot s j) (client_slot s k) e) ∙ below_none (λ i. eqb (client_slot s i) (client_slot s k)) k none j l)

  -- so each slot has the client record that stands there
  record_of : (k : ℕ) → k < c → record_to s c (client_slot s k) ≡ client_at s (client_place k)
  record_of k h =
      let x : ℕ = client_slot s k in
      let m = record_some s c x (slot_small k h) (some_below_lem (λ i. eqb (client_slot s i) x) c k h (eq-eqb x x refl)) in
      let j : ℕ = m.0 in
      let before : j < k → ⊥ = λ l. alone j k l h m.2.0 in
      let after : k < j → ⊥ = λ l. alone k j l m.1 (sym m.2.0) in
      let same : j ≡ k = omega (arith, before, after) in
      m.2.1 ∙ ap (λ (i : ℕ). client_at s (client_place i)) same

  client_stands : (k : ℕ) → k < c → At s (client_place k) (get_or (map client (slots_read s c)) k [])
  client_stands k h =
      rw (get_or-map client (slots_read s c) k 0 [] (rw (length_cells c _) h), cell c (client_slot s) k h, record_of k h)
      (client_there s B (client_place k) (omega (arith, f.blocks)) (client_right_lem s f k h)
      (below_every (λ i. client_blank s (client_place i)) c fills.0 k h))

  client_long : (k : ℕ) → k < c → length (client (client_slot s k)) ≡ 148
  client_long k h = rw (record_of k h) (client_wide s (client_slot s k) (client_place k))

  step_stands : (k : ℕ) → k < n → At s (step_place c k) (get_or (map step_bytes (steps_to s c n)) k [])
  step_stands k h =
      rw (get_or-map step_bytes (steps_to s c n) k blank_step [] (rw (steps_length s c n) h), step_of s c n k h)
      (step_there s B (step_place c k) (omega (arith, f.blocks)) (below_every (λ i. step_blank s (step_place c i)) n fills.1 k h))

  head_stands : At s 0 (head_of c n (edition_in s))
  head_stands =
      let number : (p : ℕ) → p + 4 ≤ 512 → At s p (bytes_of 4 (number_at 4 s p)) = λ p h. number_there s B 4 p (omega (arith, f.blocks)) in
      let less : edition_in s - 1 ≡ number_at 4 s 8 = omega arith in
      both_there (counted c n) (bytes_of 4 (edition_in s - 1)) 8 (counted_length c n)
      (both_there (bytes_of 4 c) (bytes_of 4 n) 4 (length_bytes 4 c) (number 0 (omega arith)) (number 4 (omega arith)))
      (rw less (number 8 (omega arith)))

  client_things : Things 148 c (map client (slots_read s c))
  client_things =
      record {
        count = length-map (slots_read s c) client ∙ length_cells c _;
        wide = every_map client _ (slots_read s c) (every_row _ c (client_slot s) client_long);
      }

  step_things : Things 16 n (map step_bytes (steps_to s c n))
  step_things =
      record {
        count = length-map (steps_to s c n) step_bytes ∙ steps_length s c n;
        wide = every_map step_bytes _ (steps_to s c n) (every_step s c _ n (λ k h. step_length (step_at s (step_place c k))));
      }

  stand : Stand s c n (edition_in s) (map client (slots_read s c)) (map step_bytes (steps_to s c n))
  unfolding check_at
  stand =
      record {
        bytes = B;
        whole = f.blocks;
        head = head_stands;
        clients = client_things;
        steps = step_things;
        client = client_stands;
        step = step_stands;
        blank = below_every (rest_blank s c n) (blocks_for c n) fills.2;
        checks = λ b h. right s b (all_intact s d b (omega (arith, f.blocks)));
      }

  rewritten : stored_by (slots_read s c) (sequence_in s) ≡ s
  unfolding stored_by sequence_in
  rewritten = rw (length_cells c (client_slot s), steps_are s f, steps_length s c n) (are_blocks stand)

exactly : (s : List ℕ) → Bytes s → (loaded_of s).number ≡ completed → stored_by (slots_read s (client_count s)) (loaded_of s).sequence ≡ s
exactly s B e =
    let differ : (loaded_of s).number ≡ check_wrong → ⊥ = λ z. omega (arith, e, z) in
    rw (said s e) (rewritten s B (faultless s (no_fault s e)) (undamaged s differ))

pub whole : Whole
whole = record { exactly = exactly; lowest_first = lowest_first; any_order = any_order }
