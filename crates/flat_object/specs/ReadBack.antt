-- Demand 2: "a legal one, once written, reads back the same", of an object as C has it. The function `read_back` of the crate ensures these statements.
use Rattle.std.specs.Prelude.{ℕ, ◌≤◌, ◌≡◌, List, length, Ok}
use Rattle.pool.specs.declared.Head.{Head}
use Rattle.objects.specs.{declared.Found.Found}
use Rattle.objects.specs.{Objects.found_at, Objects.write_answer, Objects.write_out, RoundTrip.LegalObject}
use Rattle.flat_object.specs.declared.FlatObject.{FlatObject}
use Rattle.flat_object.specs.Flat.{flat_object, kind_from, flat_kind, object_from}

pub record ReadBack : Type 0 where
  -- an object of a pool, made flat and back, is the same object
  pub back : (f : Found) (place : ℕ) (h : Head) → f.object.kind ≡ Ok h → object_from (flat_object place f) ≡ f.object
  -- what `write` wrote at a place, `object_at` reads there: each field that its kind has, and 0 in the others
  pub again :
      (f : FlatObject) (out : List ℕ) (place : ℕ) →
      LegalObject (object_from f) →
      length out ≤ 16384 →
      (write_answer (object_from f) out place).number ≡ 0 →
      flat_object place (found_at (write_out (object_from f) out place) place)
      ≡ flat_kind (kind_from f) place (record { object = object_from f; next = (write_answer (object_from f) out place).next })
