-- The slots of a legal sequence, in any order: those of which there is a step, and each has a right record.
use Prim.Native.Nat.{ℕ, ◌≤◌, ◌<◌}
use native.Mathlib.Omega.{arith}
use mathlib.Core.Path.{◌≡◌, refl, sym, ap, ◌∙◌}
use mathlib.Core.Bool.{true, or-true}
use mathlib.Core.List.{List, [], ◌∷◌}
use lib.Dec.{eqb}
use lib.ListN.{length, get_or}
use borrow.Author.Tests.{eq-eqb, eqb-true}
use Rattle.arrays.specs.{Arrays.some, Every.Every}
use Rattle.arrays.proofs.{Fill.length_pad, Every.every_at, Every.every_weaken}
use Rattle.client.specs.{Clients.slot_count, Records.blank_record, declared.ClientRecord.ClientRecord}
use Rattle.sequence.specs.Sequence.{most_steps, blank_step, steps_of}
use Rattle.sequence.specs.Sound.{is_of}
use Rattle.sequence.specs.{declared.Step.Step, declared.Sequence.Sequence}
use Rattle.store.specs.Stored.{slots_in}
use Rattle.store.specs.Legal.{RightRecord, Legal}
use Rattle.store.specs.Whole.{Orders}
use Rattle.store.proofs.Lists.{some_at, at_some}
use Rattle.store.proofs.Slots.{slots_few, slots_once, slots_pass, slots_among}
use Rattle.store.proofs.Contents.{steps_count}

-- the record in a slot
abbrev pub record_in : Sequence → ℕ → ClientRecord
record_in q slot = get_or q.records slot blank_record

-- what is so of each slot of which there is a record
pub record Recorded (q : Sequence) (slot : ℕ) : Type 0 where
  pub within : slot < slot_count
  pub step : some (is_of slot) (steps_of q) ≡ true
  pub right : RightRecord (record_in q slot)

module _ (q : Sequence) (L : Legal q) where
  pub recorded : Every (Recorded q) (slots_in q.records)
  recorded =
      slots_pass q.records (λ slot h u.
      let t = sym (L.sound.recorded slot h) ∙ u in
      record { within = h; step = t; right = L.records slot h t })

  pub length_steps : length (steps_of q) ≡ q.count
  length_steps =
      let long : length q.steps ≡ most_steps = ap length L.sound.blank ∙ length_pad blank_step most_steps (steps_of q) in
      steps_count q long ∙ omega (arith, L.sound.few)

-- ---- an order of them

-- each element of a list stands in it
each_there : (l : List ℕ) → Every (λ x. some (eqb x) l ≡ true) l
each_there [] = tt
each_there (x ∷ l) = (rw (eq-eqb x x refl), every_weaken (λ y e. rw e (or-true (eqb y x))) l (each_there l))

-- lowest first is one order
pub itself : (records : List ClientRecord) → Orders (slots_in records) (slots_in records)
itself records =
    let all : List ℕ = slots_in records in
    record {
      as_many = refl;
      each = each_there all;
      only = each_there all;
      once = slots_once records;
    }

module _ (q : Sequence) (L : Legal q) (slots : List ℕ) (O : Orders slots (slots_in q.records)) where
  pub few_slots : length slots ≤ slot_count
  few_slots = omega (arith, O.as_many, slots_few q.records)

  -- each of the order is one of them
  pub recorded_by : Every (Recorded q) slots
  recorded_by =
      let all : List ℕ = slots_in q.records in
      every_weaken
      (λ slot e.
      let m = at_some (eqb slot) 0 all e in
      rw (eqb-true slot _ m.2) (every_at (Recorded q) all m.0 0 m.1 (recorded q L)))
      slots O.only

  pub recorded_at : (k : ℕ) → k < length slots → Recorded q (get_or slots k 0)
  recorded_at k h = every_at (Recorded q) slots k 0 h recorded_by

  -- a slot of which there is a step is among them
  pub among : (slot : ℕ) → slot < slot_count → some (is_of slot) (steps_of q) ≡ true → (j : ℕ) × (j < length slots) × (get_or slots j 0 ≡ slot)
  among slot h t =
      let a = slots_among q.records slot h (L.sound.recorded slot h ∙ t) in
      let x : ℕ = get_or (slots_in q.records) a.0 0 in
      let m = at_some (eqb x) 0 slots (every_at _ (slots_in q.records) a.0 0 a.1 O.each) in
      (m.0, m.1, sym (eqb-true x _ m.2) ∙ a.2)

  -- a step's client is among them
  pub step_among : (k : ℕ) → k < length (steps_of q) → (j : ℕ) × (j < length slots) × (get_or slots j 0 ≡ (get_or (steps_of q) k blank_step).slot)
  step_among k h =
      let t : Step = get_or (steps_of q) k blank_step in
      among t.slot (every_at (λ x. x.slot < slot_count) (steps_of q) k blank_step h L.sound.within)
      (some_at (is_of t.slot) blank_step (steps_of q) k h (eq-eqb t.slot t.slot refl))

  pub some_slot : 1 ≤ length slots
  some_slot = let m = step_among 0 (omega (arith, length_steps q L, L.some_step)) in omega (arith, m.1)
