-- What the tests of the two loops of loading say of one client record, and of one step: it is taken, or not, and what is stored of it.
use Prim.Native.Nat.{ℕ, ◌+◌, ◌<◌}
use mathlib.Core.Path.{◌≡◌, sym, ap, ◌∙◌}
use mathlib.Core.Bool.{Bool, true, false, not, ◌&&◌}
use mathlib.Core.List.{List}
use native.Mathlib.Numerals.{add-one}
use lib.Dec.{eqb}
use lib.ListN.{length, get_or, set, drop}
use borrow.Author.Tests.{eq-eqb, ne_eqb}
use Rattle.octets.proofs.Tests.{both}
use Rattle.arrays.specs.Arrays.{pad_to}
use Rattle.arrays.proofs.Fill.{pad_set}
use Rattle.arrays.proofs.Pad.{any_default}
use Rattle.client.specs.Records.{is_used, blank_record}
use Rattle.client.specs.declared.ClientRecord.{ClientRecord}
use Rattle.sequence.specs.Sequence.{blank_step}
use Rattle.sequence.specs.declared.Step.{Step}
use Rattle.store.specs.Blocks.{client_place, step_place}
use Rattle.store.specs.Fields.{step_right}
use Rattle.store.specs.Loaded.{client_at, client_right, client_blank, step_at, step_blank, client_slot, step_slot, records_to, steps_to}
use Rattle.store.specs.Taken.{client_taken, step_taken}
use Rattle.store.proofs.Parts.{client_right_in, client_blank_in, client_at_in, step_at_in, step_blank_in}
use Rattle.store.proofs.Fields.{client_parts, client_fit, step_parts, slot_at, step_fit}
use Rattle.store.proofs.Steps.{steps_length}
use Rattle.store.proofs.Records.{records_length}

-- the record of a slot, whatever is read past the last
looked :
    (records : List ClientRecord) (x y : ℕ) (d : ClientRecord) → x ≡ y → x < length records
    → is_used (get_or records y blank_record) ≡ not (eqb (get_or records x d).used 0)
looked records x y d e h = rw (← e) (ap is_used (any_default records x blank_record d h))

-- ---- client record k, where these bytes begin; r and b are the tests of its fields and of its fill

pub record ReadClient (s : List ℕ) (k : ℕ) (bytes : List ℕ) (r b : Bool) : Type 0 where
  pub at : bytes ≡ drop (client_place k) s
  pub right : r ≡ client_right bytes 0
  pub blank : b ≡ client_blank bytes 0

module _ {s : List ℕ} {k : ℕ} {bytes : List ℕ} {r b : Bool} (i : ReadClient s k bytes r b) where
  fits : client_fit s k ≡ (r && b)
  fits = rw (i.right, i.blank, i.at, client_right_in s (client_place k), client_blank_in s (client_place k))

  pub client_wrong : (r && b) ≡ false → client_taken s k ≡ false
  client_wrong t = let h : client_fit s k ≡ false = fits ∙ t in rw h

  module _ (t : (r && b) ≡ true) (slot : ℕ) (same : slot ≡ client_slot s k) where
    passed : client_fit s k ≡ true
    passed = fits ∙ t

    pub slot_small : slot < 8
    slot_small = rw same (client_parts s (client_place k) (both (client_right s (client_place k)) (client_blank s (client_place k)) passed).0).0

    module _ (records : List ClientRecord) (all : records ≡ records_to s k) where
      pub client_stored : (x : ClientRecord) → x ≡ client_at bytes 0 → set records slot x ≡ records_to s (k + 1)
      client_stored x e = rw (add-one k, e, all, same, i.at, client_at_in s (client_place k))

      module _ (d : ClientRecord) where
        seat : is_used (get_or (records_to s k) (client_slot s k) blank_record) ≡ not (eqb (get_or records slot d).used 0)
        seat =
            let h : slot < length (records_to s k) = rw (records_length s k) slot_small in
            rw all (looked (records_to s k) slot (client_slot s k) d same h)

        pub client_twice : ((get_or records slot d).used ≡ 0 → ⊥) → client_taken s k ≡ false
        client_twice u = rw (passed, seat, ne_eqb (get_or records slot d).used 0 u)

        pub client_taken_lem : (get_or records slot d).used ≡ 0 → client_taken s k ≡ true
        client_taken_lem u = rw (passed, seat, eq-eqb (get_or records slot d).used 0 u)

-- ---- x is step k of c clients, where these bytes begin; r and b are the tests of its fields and of its fill

pub record ReadStep (s : List ℕ) (c k : ℕ) (bytes : List ℕ) (x : Step) (r b : Bool) : Type 0 where
  pub at : bytes ≡ drop (step_place c k) s
  pub read : x ≡ step_at bytes 0
  pub right : r ≡ step_right x
  pub blank : b ≡ step_blank bytes 0

module _ {s : List ℕ} {c k : ℕ} {bytes : List ℕ} {x : Step} {r b : Bool} (i : ReadStep s c k bytes x r b) where
  step_is : x ≡ step_at s (step_place c k)
  step_is = i.read ∙ ap (λ (l : List ℕ). step_at l 0) i.at ∙ step_at_in s (step_place c k)

  step_fits : step_fit s (step_place c k) ≡ (r && b)
  step_fits = rw (i.right, i.blank, step_is, i.at, step_blank_in s (step_place c k))

  pub step_wrong : (records : List ClientRecord) → (r && b) ≡ false → step_taken s records (step_place c k) ≡ false
  step_wrong records t = let h : step_fit s (step_place c k) ≡ false = step_fits ∙ t in rw h

  step_same : x.slot ≡ step_slot s c k
  step_same = ap (λ (y : Step). y.slot) step_is ∙ slot_at s (step_place c k)

  pub step_stored : k < 64 → set (pad_to blank_step 64 (steps_to s c k)) k x ≡ pad_to blank_step 64 (steps_to s c (k + 1))
  step_stored h = rw (add-one k, step_is) (pad_set blank_step 64 (steps_to s c k) k (step_at s (step_place c k)) (sym (steps_length s c k)) h)

  module _ (t : (r && b) ≡ true) where
    step_passed : step_fit s (step_place c k) ≡ true
    step_passed = step_fits ∙ t

    pub step_slot_small : x.slot < 8
    step_slot_small = (step_parts x (sym i.right ∙ (both r b t).0)).0

    module _ (records : List ClientRecord) (all : length records ≡ 8) (d : ClientRecord) where
      step_seat : is_used (get_or records (step_slot s c k) blank_record) ≡ not (eqb (get_or records x.slot d).used 0)
      step_seat = let h : x.slot < length records = rw all step_slot_small in looked records x.slot (step_slot s c k) d step_same h

      pub step_alone : (get_or records x.slot d).used ≡ 0 → step_taken s records (step_place c k) ≡ false
      step_alone u = rw (step_passed, step_seat, eq-eqb (get_or records x.slot d).used 0 u)

      pub step_taken_lem : ((get_or records x.slot d).used ≡ 0 → ⊥) → step_taken s records (step_place c k) ≡ true
      step_taken_lem u = rw (step_passed, step_seat, ne_eqb (get_or records x.slot d).used 0 u)
