-- From the tests that loading makes to the reasons for 17, and to what is loaded.
use Prim.Native.Nat.{ℕ, ◌+◌, ◌*◌, ◌≤◌, ◌<◌}
use native.Mathlib.Omega.{arith}
use mathlib.Core.Path.{◌≡◌, refl, sym, ap, subst, ◌∙◌}
use mathlib.Core.Bool.{Bool, true, false, not, ◌&&◌, and-true, and-false}
use mathlib.Core.List.{List, [], ◌∷◌, map}
use lib.Dec.{eqb, ltb}
use lib.ListN.{length, get_or, take}
use borrow.Author.Tests.{eq-eqb, eqb-true}
use Rattle.std.proofs.Common.{None, Some, Err}
use Rattle.std.specs.Option.{ok_or}
use Rattle.std.specs.Bool.{then_some}
use Rattle.octets.specs.Pick.{pick}
use Rattle.octets.specs.Octets.{number_at}
use Rattle.octets.specs.Numbers.{completed, not_stored}
use Rattle.octets.specs.declared.numbers.Refusal.TheVariants.{CheckWrong, NotStored}
use Rattle.octets.proofs.Tests.{both}
use Rattle.arrays.specs.Arrays.{some, pad_to}
use Rattle.client.specs.Records.{is_used, blank_record}
use Rattle.client.specs.declared.ClientRecord.{ClientRecord}
use Rattle.arrays.proofs.Pad.{pad_take}
use Rattle.sequence.specs.Sequence.{blank_step, blank_sequence}
use Rattle.sequence.specs.Sound.{is_of}
use Rattle.sequence.specs.Editions.{is_edition}
use Rattle.sequence.specs.{declared.Step.Step, declared.Sequence.Sequence}
use Rattle.store.specs.Below.{every_below, some_below}
use Rattle.store.specs.Blocks.{is_damaged, blocks_for, client_place, step_place}
use Rattle.store.specs.Fields.{step_right}
use Rattle.store.specs.Loaded.{client_right, client_blank, step_at, step_blank, client_slot, step_slot, client_count, step_count, edition_in, records_to, steps_to}
use Rattle.store.specs.Loaded.{counts_right, rest_blank, are_clients_right, are_steps_right, is_fill_blank, is_no_slot_twice, has_each_record, has_each_step}
use Rattle.store.specs.Loaded.{is_faulty, sequence_in, load_number, loaded_by, loaded_of}
use Rattle.store.specs.Taken.{client_taken, step_taken, records_read, steps_read}
use Rattle.store.proofs.Below.{every_both, every_same}
use Rattle.store.proofs.Fields.{counts, edition_known, client_parts, client_fit, step_parts, slot_at, step_fit}
use Rattle.store.proofs.Steps.{steps_length, step_of}
use Rattle.store.proofs.Records.{record_used}

-- ---- the loops' tests, one condition after the other

abbrev clients_blank : List ℕ → ℕ → Bool
clients_blank s c = every_below c (λ k. client_blank s (client_place k))

abbrev steps_blank : List ℕ → ℕ → ℕ → Bool
steps_blank s c n = every_below n (λ k. step_blank s (step_place c k))

abbrev rests_blank : List ℕ → ℕ → ℕ → Bool
rests_blank s c n = every_below (blocks_for c n) (rest_blank s c n)

abbrev clients_taken : List ℕ → ℕ → Bool
clients_taken s c = every_below c (client_taken s)

abbrev steps_taken : List ℕ → ℕ → ℕ → List ClientRecord → Bool
steps_taken s c n records = every_below n (λ k. step_taken s records (step_place c k))

module _ (s : List ℕ) where
  free : ℕ → Bool
  free k = not (some_below k (λ j. eqb (client_slot s j) (client_slot s k)))

  client_is : (k : ℕ) → client_taken s k ≡ (client_fit s k && free k)
  unfolding free
  client_is k = go (client_fit s k) refl
    where
      go : (b : Bool) → client_fit s k ≡ b → (b && not (is_used (get_or (records_to s k) (client_slot s k) blank_record))) ≡ (b && free k)
      go true e = ap not (record_used s k (client_slot s k) (client_parts s (client_place k) (both (client_right s (client_place k)) (client_blank s (client_place k)) e).0).0)
      go false e = refl

  -- the client records are taken where their fields are right, their fill is zero, and no slot comes twice
  clients_taken_lem : (c n : ℕ) → clients_taken s c ≡ (are_clients_right s c n && clients_blank s c && is_no_slot_twice s c n)
  unfolding free
  clients_taken_lem c n =
      every_same (client_taken s) (λ k. client_fit s k && free k) c (λ k _. client_is k)
      ∙ every_both (client_fit s) free c
      ∙ ap (λ (b : Bool). b && every_below c free) (every_both (λ k. client_right s (client_place k)) (λ k. client_blank s (client_place k)) c)

  module _ (c : ℕ) where
    recorded : ℕ → Bool
    recorded k = some_below c (λ j. eqb (client_slot s j) (step_slot s c k))

    step_is : (k : ℕ) → step_taken s (records_to s c) (step_place c k) ≡ (step_fit s (step_place c k) && recorded k)
    unfolding recorded
    step_is k = go (step_fit s (step_place c k)) refl
      where
        go : (b : Bool) → step_fit s (step_place c k) ≡ b → (b && is_used (get_or (records_to s c) (step_slot s c k) blank_record)) ≡ (b && recorded k)
        go true e =
            let x = step_at s (step_place c k) in
            let small = (step_parts x (both (step_right x) (step_blank s (step_place c k)) e).0).0 in
            record_used s c (step_slot s c k) (subst (λ (y : ℕ). y < 8) (slot_at s (step_place c k)) small)
        go false e = refl

    -- the steps are taken where their fields are right, their fill is zero, and each client of theirs has its record
    steps_taken_lem : (n : ℕ) → steps_taken s c n (records_to s c) ≡ (are_steps_right s c n && steps_blank s c n && has_each_record s c n)
    unfolding recorded
    steps_taken_lem n =
        every_same (λ k. step_taken s (records_to s c) (step_place c k)) (λ k. step_fit s (step_place c k) && recorded k) n (λ k _. step_is k)
        ∙ every_both (λ k. step_fit s (step_place c k)) recorded n
        ∙ ap (λ (b : Bool). b && every_below n recorded) (every_both (λ k. step_right (step_at s (step_place c k))) (λ k. step_blank s (step_place c k)) n)

    -- of each client there is a step
    each_step : (n : ℕ) (steps : List Step) → steps ≡ steps_to s c n → every_below c (λ k. some (is_of (client_slot s k)) steps) ≡ has_each_step s c n
    each_step n steps e =
        every_same (λ k. some (is_of (client_slot s k)) steps) (λ j. some_below n (λ k. eqb (step_slot s c k) (client_slot s j))) c (λ j _.
        rw e (step_of s c (client_slot s j) n))

-- ---- the reasons

all_of : List Bool → Bool
all_of [] = true
all_of (a ∷ l) = a && all_of l

-- there is no reason where all conditions hold
no_reason : (l : List Bool) → some (λ reason. reason) (map not l) ≡ not (all_of l)
unfolding all_of
no_reason [] = refl
no_reason (true ∷ l) = no_reason l
no_reason (false ∷ l) = refl

-- the first three conditions, of which loading asks the second last
three_fail : (a b c : Bool) (l : List Bool) → (a && c && b) ≡ false → all_of (a ∷ b ∷ c ∷ l) ≡ false
unfolding all_of
three_fail false b c l e = refl
three_fail true false c l e = refl
three_fail true true c l e = rw (sym (and-true c) ∙ e)

three_hold : (a b c : Bool) (l : List Bool) → a ≡ true → b ≡ true → c ≡ true → all_of (a ∷ b ∷ c ∷ l) ≡ all_of l
unfolding all_of
three_hold a b c l e f g = rw (e, f, g)

-- the others in the order in which loading asks them: of the client records, of the steps, of the rest
regroup :
    (r b t sr sb st rest each : Bool)
    → (r && (sr && ((b && sb && rest) && (t && (st && (each && true)))))) ≡ ((r && b && t) && (sr && sb && st) && (rest && each))
regroup false b t sr sb st rest each = refl
regroup true false t sr sb st rest each = simp and-false
regroup true true false sr sb st rest each = simp and-false
regroup true true true false sb st rest each = refl
regroup true true true true false st rest each = refl
regroup true true true true true false rest each = and-false rest
regroup true true true true true true false each = refl
regroup true true true true true true true each = and-true each

module _ (s : List ℕ) (c n : ℕ) (clients : c ≡ client_count s) (steps : n ≡ step_count s) where
  later : List Bool
  later = are_clients_right s c n ∷ are_steps_right s c n ∷ is_fill_blank s c n ∷ is_no_slot_twice s c n ∷ has_each_record s c n ∷ has_each_step s c n ∷ []

  faulty_is : is_faulty s ≡ not (all_of (counts_right c n ∷ is_edition (edition_in s) ∷ eqb (length s) (512 * blocks_for c n) ∷ later))
  unfolding is_faulty later
  faulty_is = rw (← clients, ← steps) (no_reason (counts_right c n ∷ is_edition (edition_in s) ∷ eqb (length s) (512 * blocks_for c n) ∷ later))

  -- counts out of range, blocks missing or left over, or an unknown edition
  head_wrong : (counts_right c n && eqb (length s) (512 * blocks_for c n) && is_edition (edition_in s)) ≡ false → is_faulty s ≡ true
  head_wrong e = faulty_is ∙ ap not (three_fail (counts_right c n) (is_edition (edition_in s)) (eqb (length s) (512 * blocks_for c n)) later e)

  -- where none is so, what the loops find
  loops_find :
      counts_right c n ≡ true → is_edition (edition_in s) ≡ true → length s ≡ 512 * blocks_for c n
      → is_faulty s ≡ not (clients_taken s c && steps_taken s c n (records_to s c) && (rests_blank s c n && has_each_step s c n))
  unfolding later all_of
  loops_find right known whole =
      rw (clients_taken_lem s c n, steps_taken_lem s c n)
      (faulty_is
      ∙ ap not
      (three_hold (counts_right c n) (is_edition (edition_in s)) (eqb (length s) (512 * blocks_for c n)) later right known (eq-eqb (length s) (512 * blocks_for c n) whole)
      ∙ regroup (are_clients_right s c n) (clients_blank s c) (is_no_slot_twice s c n) (are_steps_right s c n) (steps_blank s c n) (has_each_record s c n)
      (rests_blank s c n) (has_each_step s c n)))

-- ---- what is loaded

-- what an answer by a test says of the test
none_from : {X : Type 0} (b : Bool) (x : X) → then_some b x ≡ None → b ≡ false
none_from false x e = refl
none_from true x e = absurd (cc)

some_from : {X : Type 0} (b : Bool) (x y : X) → then_some b x ≡ Some y → (b ≡ true) × (x ≡ y)
some_from true x y e = (refl, cc)
some_from false x y e = absurd (cc)

made :
    (q : Sequence) (count edition : ℕ) (steps : List Step) (records : List ClientRecord)
    → q.count ≡ count → q.edition ≡ edition → q.steps ≡ steps → q.records ≡ records
    → q ≡ record { count = count; edition = edition; steps = steps; records = records }
made q count edition steps records e f g h = rw (← e, ← f, ← g, ← h)

-- 17
pub refused : (s : List ℕ) → is_faulty s ≡ true → None ≡ then_some (not (is_faulty s)) (sequence_in s)
refused s e = rw e

-- ---- of blocks as many as their counts say and of a known edition, what the loops found

-- as the edition stands in the first block
abbrev pub less_in : List ℕ → ℕ
less_in s = number_at 4 s 8

pub record Head (s : List ℕ) (c n less : ℕ) : Type 0 where
  pub clients : c ≡ client_count s
  pub steps : n ≡ step_count s
  pub read : less ≡ less_in s
  pub right : counts_right c n ≡ true
  pub whole : length s ≡ 512 * blocks_for c n
  pub known : is_edition (edition_in s) ≡ true

-- the first block as it is tested
module _ (s : List ℕ) {c n : ℕ} (clients : c ≡ client_count s) (steps : n ≡ step_count s) where
  pub counts_wrong : counts_right c n ≡ false → is_faulty s ≡ true
  counts_wrong e = head_wrong s c n clients steps (rw e)

  module _ (right : counts_right c n ≡ true) {less m : ℕ} (read : less ≡ less_in s) (all : m ≡ blocks_for c n) where
    tested : (eqb (length s) (512 * m) && ltb less 2) ≡ (eqb (length s) (512 * blocks_for c n) && is_edition (edition_in s))
    tested = rw (all, read, edition_known (less_in s))

    pub shape_wrong : (eqb (length s) (512 * m) && ltb less 2) ≡ false → is_faulty s ≡ true
    shape_wrong e = head_wrong s c n clients steps (rw right (sym tested ∙ e))

    pub head_right : (eqb (length s) (512 * m) && ltb less 2) ≡ true → Head s c n less
    head_right e =
        let parts = both (eqb (length s) (512 * blocks_for c n)) (is_edition (edition_in s)) (sym tested ∙ e) in
        record { clients = clients; steps = steps; read = read; right = right; whole = eqb-true _ _ parts.0; known = parts.1 }

module _ {s : List ℕ} {c n less : ℕ} (w : Head s c n less) where
  nothing_wrong : Bool
  nothing_wrong = clients_taken s c && steps_taken s c n (records_to s c) && (rests_blank s c n && has_each_step s c n)

  faulty_where : is_faulty s ≡ not nothing_wrong
  unfolding nothing_wrong
  faulty_where = loops_find s c n w.clients w.steps w.right w.known w.whole

  -- a client record that is not taken
  pub wrong_client : records_read s c ≡ None → is_faulty s ≡ true
  unfolding nothing_wrong
  wrong_client e = let f : clients_taken s c ≡ false = none_from (clients_taken s c) _ e in faulty_where ∙ rw f

  module _ (records : List ClientRecord) (r : records_read s c ≡ Some records) where
    taken : clients_taken s c ≡ true
    taken = (some_from (clients_taken s c) (records_to s c) records r).0

    same : steps_taken s c n (records_to s c) ≡ steps_taken s c n records
    same = ap (steps_taken s c n) (some_from (clients_taken s c) (records_to s c) records r).1

    -- a step that is not taken
    pub wrong_step : steps_read s c n records ≡ None → is_faulty s ≡ true
    unfolding nothing_wrong
    wrong_step e =
        let f : steps_taken s c n (records_to s c) ≡ false = same ∙ none_from (steps_taken s c n records) _ e in
        faulty_where ∙ rw (taken, f)

    -- every client record and every step was taken; a and b are the tests of the rest of the blocks and of a step for each record
    module _ (cells : List Step) (t : steps_read s c n records ≡ Some cells) (a b : Bool) (rest : a ≡ rests_blank s c n)
        (each : b ≡ every_below c (λ k. some (is_of (client_slot s k)) (take n cells))) where
      all_taken : steps_taken s c n (records_to s c) ≡ true
      all_taken = same ∙ (some_from (steps_taken s c n records) (pad_to blank_step 64 (steps_to s c n)) cells t).0

      cells_are : pad_to blank_step 64 (steps_to s c n) ≡ cells
      cells_are = (some_from (steps_taken s c n records) (pad_to blank_step 64 (steps_to s c n)) cells t).1

      front : take n cells ≡ steps_to s c n
      front =
          let long : length (steps_to s c n) ≡ n = steps_length s c n in
          let few : n ≤ 64 = (counts c n w.right).1 in
          ap (take n) (sym cells_are) ∙ ap (λ (m : ℕ). take m (pad_to blank_step 64 (steps_to s c n))) (sym long)
          ∙ pad_take blank_step 64 (steps_to s c n) (omega arith)

      left : is_faulty s ≡ not (a && b)
      unfolding nothing_wrong
      left =
          let last : b ≡ has_each_step s c n = each ∙ each_step s c n (take n cells) front in
          faulty_where ∙ rw (taken, all_taken, rest, last)

      -- fill that is not zero after what a block holds, or a record without a step
      pub wrong_rest : (a && b) ≡ false → is_faulty s ≡ true
      wrong_rest e = left ∙ ap not e

      -- nothing is wrong
      pub accepted :
          (a && b) ≡ true
          → Some record { count = n; edition = less + 1; steps = cells; records = records } ≡ then_some (not (is_faulty s)) (sequence_in s)
      unfolding sequence_in
      accepted e =
          let f : is_faulty s ≡ false = left ∙ ap not e in
          let counts : n ≡ step_count s = w.steps in
          let edition : less + 1 ≡ edition_in s = ap (λ (k : ℕ). k + 1) w.read in
          let all : steps_to s c n ≡ steps_to s (client_count s) (step_count s) = rw (← w.clients, ← w.steps) in
          let there : pad_to blank_step 64 (steps_to s (client_count s) (step_count s)) ≡ cells = ap (pad_to blank_step 64) (sym all) ∙ cells_are in
          let stand : records_to s (client_count s) ≡ records = rw (← w.clients) (some_from (clients_taken s c) (records_to s c) records r).1 in
          rw (f, ← there, ← stand, counts, edition)

-- ---- the answer

-- 16
pub damaged : (s : List ℕ) → is_damaged s ≡ true → loaded_by (Err CheckWrong) ≡ loaded_of s
unfolding loaded_of load_number pick
damaged s e = rw e

-- 17, or what is said
pub answered : (s : List ℕ) → is_damaged s ≡ false → loaded_by (ok_or (then_some (not (is_faulty s)) (sequence_in s)) NotStored) ≡ loaded_of s
unfolding loaded_of load_number pick
answered s e = rw e (go (is_faulty s))
  where
    go :
        (b : Bool)
        → loaded_by (ok_or (then_some (not b) (sequence_in s)) NotStored)
        ≡ record { number = pick b not_stored completed; sequence = pick (eqb (pick b not_stored completed) completed) (sequence_in s) blank_sequence }
    go true = refl
    go false = refl
