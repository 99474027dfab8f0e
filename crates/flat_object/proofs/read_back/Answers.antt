-- `flat_object::read_back` meets its contract: table by table, and by what crate objects says of its own objects.
use mathlib.Core.Path.{◌≡◌, refl, ap}
use Prim.Native.Nat.{ℕ}
use Rattle.std.specs.Prelude.{Ok}
use Rattle.octets.specs.Pick.{pick}
use Rattle.pool.specs.declared.Head.{Head}
use Rattle.pool.specs.declared.Head.TheVariants.{Base, Function, State}
use Rattle.objects.specs.{declared.Found.Found}
use Rattle.objects.proofs.Trips.{round_trip}
use Rattle.flat_object.specs.Flat.{flat_object, flat_kind, kind_from, object_from}
use Rattle.flat_object.proofs.read_back.Goals as goal

kind_back : (h : Head) (place : ℕ) (f : Found) → kind_from (flat_kind (Ok h) place f) ≡ Ok h
unfolding pick
kind_back (Base h) place f = refl
kind_back (Function h) place f = refl
kind_back (State h) place f = refl

back : (f : Found) (place : ℕ) (h : Head) → f.object.kind ≡ Ok h → object_from (flat_object place f) ≡ f.object
back f place h e = rw (e, kind_back h place f)

pub returns : goal.returns
returns c = record { back = back; again = λ f out place legal room done. ap (flat_object place) (round_trip.again (object_from f) out place legal room done) }
