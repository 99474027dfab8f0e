-- What is kept of a recording: each step that stays is traced, and the steps are those that the log gives.
use Prim.Native.Nat.{ℕ, zero, suc, ◌+◌, ◌<◌}
use mathlib.Core.Path.{◌≡◌, refl, sym, ap, subst, ◌∙◌}
use mathlib.Core.Bool.{Bool, true, false, cond}
use mathlib.Core.List.{List, [], ◌∷◌, ◌++◌, map}
use native.Mathlib.Omega.{arith}
use lib.Dec.{eqb}
use lib.ListN.{length, get_or, drop}
use borrow.Author.Tests.{eq-eqb, eqb-true, eqb-false}
use Rattle.octets.specs.Pick.{pick}
use Rattle.message.specs.Fields.{status_number}
use Rattle.message.specs.declared.Status.{Status}
use Rattle.arrays.specs.Arrays.{some, those, pad_to}
use Rattle.arrays.specs.Every.{Every}
use Rattle.arrays.proofs.Every.{every_weaken, every_map}
use Rattle.client.specs.Records.{blank_record}
use Rattle.client.specs.declared.ClientRecord.{ClientRecord}
use Rattle.sequence.specs.Sequence.{blank_step, steps_of}
use Rattle.sequence.specs.Editions.{first_edition}
use Rattle.sequence.specs.declared.Step.{Step}
use Rattle.sequence.specs.declared.Sequence.{Sequence}
use Rattle.recording.specs.Indication.{status, held_of}
use Rattle.sequence.specs.Sound.{is_of}
use Rattle.recording.specs.Kept.{stays, step_in, stayed, record_kept, records_from, sequence_of, kept_sequence}
use Rattle.recording.specs.Promises.{Sound, start_of}
use Rattle.recording.specs.declared.Taken.{Taken}
use Rattle.recording.specs.declared.Recording.{Recording}
use Rattle.recording.proofs.Keeps.{keeps}
use Rattle.events.proofs.Choices.{either}
use Rattle.history.specs.Steps.{Entry, is_accepted, is_finish, FirstOf, beginnings, step_from, steps_by, steps_of_all, recorded_by, record_for, kept_from}
use Rattle.history.specs.Promises.{Traced}
use Rattle.history.proofs.Lists.{all_true, every_chosen}
use Rattle.history.proofs.Held.{Held, found_first, traced}
use Rattle.history.proofs.Beginnings.{start_in, First}
use Rattle.history.proofs.Told.{Told}

-- ---- each step is traced

pub kept_traced :
    (log : List Entry) (r : Recording) (old : Sequence) → Sound r → Told r log → some stays (held_of r) ≡ true
    → Every (Traced log) (steps_of (kept_sequence r old))
kept_traced log r old s h n =
    subst (Every (Traced log)) (sym ((keeps r old s).steps n))
    (every_map step_in (Traced log) (those stays (held_of r)) (every_chosen _ stays (held_of r) (every_weaken (λ t p. traced log t p) (held_of r) h.steps)))

-- ---- all that is kept

same_first : (p : Entry → Bool) (log : List Entry) (x y : Entry) → FirstOf p log x → FirstOf p log y → x ≡ y
same_first p log x y a b = ap (λ (l : List Entry). get_or l 0 x) (sym a.1 ∙ b.1)

-- a step and the message that began it
module _ (log : List Entry) (t : Taken) (k : Held log t) (b : Entry) (first : First log b) (start : start_of t ≡ start_in b) where
  pub is_its : k.began ≡ b
  is_its =
      let u = eq-eqb t.step.slot b.slot (ap (λ (y : Taken). y.step.slot) start) in
      let v = eq-eqb t.tan b.message.tan (ap (λ (y : Taken). y.tan) start) in
      same_first (is_accepted b.slot b.message.tan) log k.began b (found_first log t k b.slot b.message.tan (all_true _ _ u v)) first

  is_step : (value : ℕ) → t.step.value ≡ value → t.step ≡ step_from b value
  is_step value e =
      ap (λ (y : Taken). record {
        slot = y.step.slot;
        function = y.step.function;
        state = y.step.state;
        distance = y.step.distance;
        value = t.step.value;
        mark = y.step.mark;
      }) start
      ∙ ap (step_from b) e

  abbrev Exact : Type 0
  Exact = map step_in (cond (stays t) (t ∷ []) []) ≡ steps_by log b

  started_later : (t.status ≡ 0 → ⊥) → eqb (status b.message) 0 ≡ false
  started_later n = ap (λ (s : Status). eqb (status_number s) 0) (ap (λ (y : Entry). y.message.status) (sym is_its) ∙ k.started n)

  exact_at_once : eqb t.status 0 ≡ true → Exact
  unfolding pick
  exact_at_once y =
      let o = k.one_shot_lem (eqb-true t.status 0 y) in
      let z : eqb (status b.message) 0 ≡ true = ap (λ (s : Status). eqb (status_number s) 0) (ap (λ (x : Entry). x.message.status) (sym is_its) ∙ o.0) in
      rw (y, z) (ap (λ (u : Step). u ∷ []) (is_step b.message.value (o.1 ∙ ap (λ (x : Entry). x.message.value) is_its)))

  exact_done : eqb t.status 0 ≡ false → eqb t.status 2 ≡ true → Exact
  unfolding pick
  exact_done n y =
      let d = k.is_done (eqb-true t.status 2 y) in
      let f = subst (λ (x : Entry). FirstOf (is_finish x) log d.0) is_its d.1 in
      rw (n, y, started_later (eqb-false t.status 0 n), f.1) (ap (λ (u : Step). u ∷ []) (is_step d.0.message.value d.2))

  exact_lost : eqb t.status 0 ≡ false → eqb t.status 2 ≡ false → Exact
  unfolding pick
  exact_lost n y =
      let f = subst (λ (x : Entry). those (is_finish x) log ≡ []) is_its (k.unfinished (eqb-false t.status 2 y)) in
      rw (n, y, started_later (eqb-false t.status 0 n), f)

  exact_one : Exact
  exact_one = either (eqb t.status 0) exact_at_once (λ n. either (eqb t.status 2) (exact_done n) (exact_lost n))

stayed_more : (t : Taken) (l : List Taken) → stayed (t ∷ l) ≡ map step_in (cond (stays t) (t ∷ []) []) ++ stayed l
stayed_more t l = go (stays t)
  where
    go : (b : Bool) → map step_in (cond b (t ∷ those stays l) (those stays l)) ≡ map step_in (cond b (t ∷ []) []) ++ map step_in (those stays l)
    go true = refl
    go false = refl

exact_all :
    (log : List Entry) (ts : List Taken) (bs : List Entry) → Every (Held log) ts → Every (First log) bs → map start_of ts ≡ map start_in bs
    → stayed ts ≡ steps_of_all log bs
exact_all log [] [] h f e = refl
exact_all log [] (b ∷ bs) h f e = let z = ap length e in absurd (omega arith)
exact_all log (t ∷ ts) [] h f e = let z = ap length e in absurd (omega arith)
exact_all log (t ∷ ts) (b ∷ bs) h f e =
    let one = exact_one log t h.0 b f.0 (ap (λ (l : List Taken). get_or l 0 (start_of t)) e) in
    let others = exact_all log ts bs h.1 f.1 (ap (drop 1) e) in
    stayed_more t ts ∙ ap (λ (l : List Step). l ++ stayed ts) one ∙ ap (λ (l : List Step). steps_by log b ++ l) others

-- ---- the records

numbers : ℕ → ℕ → List ℕ
numbers k zero = []
numbers k (suc n) = k ∷ numbers (suc k) n

records_are :
    (l : List Step) (f : ℕ → ClientRecord) (k : ℕ) (records : List ClientRecord)
    → ((i : ℕ) → i < length records → record_kept l (k + i) (get_or records i blank_record) ≡ f (k + i))
    → records_from l k records ≡ map f (numbers k (length records))
unfolding numbers
records_are l f k [] h = refl
records_are l f k (c ∷ records) h =
    let z : k + 0 ≡ k = omega arith in
    let one : record_kept l k c ≡ f k = subst (λ (n : ℕ). record_kept l n c ≡ f n) z (h 0 (omega arith)) in
    let others =
    records_are l f (suc k) records
    (λ i b. let y : k + suc i ≡ suc k + i = omega arith in subst (λ (n : ℕ). record_kept l n (get_or records i blank_record) ≡ f n) y (h (suc i) (omega arith))) in
    ap (λ (x : ClientRecord). x ∷ records_from l (suc k) records) one ∙ ap (λ (rs : List ClientRecord). f k ∷ rs) others

-- ---- the sequence

module _ (log : List Entry) (r : Recording) (old : Sequence) (s : Sound r) (h : Told r log) where
  all_steps : stayed (held_of r) ≡ recorded_by log
  all_steps = exact_all log (held_of r) (beginnings [] log) h.steps h.firsts h.order

  all_records : records_from (recorded_by log) 0 r.records ≡ map (record_for log) (0 ∷ 1 ∷ 2 ∷ 3 ∷ 4 ∷ 5 ∷ 6 ∷ 7 ∷ [])
  unfolding numbers record_kept
  all_records =
      records_are (recorded_by log) (record_for log) 0 r.records
      (λ i b.
      let z : i ≡ 0 + i = omega arith in
      subst (λ (n : ℕ). record_kept (recorded_by log) n (get_or r.records i blank_record) ≡ record_for log n) z
      (ap (λ (c : ClientRecord). pick (some (is_of i) (recorded_by log)) c blank_record) (h.records i (subst (λ (n : ℕ). i < n) s.slots b))))
      ∙ ap (λ (n : ℕ). map (record_for log) (numbers 0 n)) s.slots

  pub kept_exact : kept_sequence r old ≡ kept_from log old
  unfolding kept_sequence
  kept_exact =
      ap (λ (l : List Step). pick (eqb (length l) 0) old (sequence_of l r.records)) all_steps
      ∙ ap (λ (records : List ClientRecord). pick (eqb (length (recorded_by log)) 0) old (record {
        count = length (recorded_by log);
        edition = first_edition;
        steps = pad_to blank_step 64 (recorded_by log);
        records = records;
      })) all_records
