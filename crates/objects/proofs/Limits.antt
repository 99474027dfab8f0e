-- What a legal object's parts are: how long at most, and how many bytes its fields have.
use Prim.Native.Nat.{ℕ, ◌+◌, ◌*◌, ◌≤◌}
use native.Mathlib.Nat.{zero-add}
use native.Mathlib.Omega.{arith}
use mathlib.Core.Path.{◌≡◌, refl, ap, ◌∙◌}
use mathlib.Core.Bool.{Bool, true, false, ◌&&◌}
use mathlib.Core.List.{List, [], ◌∷◌, ◌++◌, map}
use lib.ListN.{length, take}
use lib.Seq.{sets, length-take-le}
use lib.Dec.{leb, lit≤}
use borrow.Author.Tests.{leb-true}
use Rattle.pool.specs.declared.Head.TheVariants.{Base, Function, State}
use Rattle.pool.specs.Ranges.{label_right, head_right}
use Rattle.std.specs.Prelude.{Ok, Err}
use Rattle.objects.specs.declared.Object.{Object}
use Rattle.objects.specs.Objects.{Kind, parts_of, size_of, Field, field, head_fields, fields_of, bytes_of_fields, encode, labels_right, kind_right, blank_from, legal}
use Rattle.objects.proofs.Stores.{total, total_numbers, then_stored}

-- ---- tests that hold together
pub and_l : (a b : Bool) → (a && b) ≡ true → a ≡ true
and_l true b e = refl
and_l false b e = e

pub and_r : (a b : Bool) → (a && b) ≡ true → b ≡ true
and_r true b e = e
and_r false true e = refl
and_r false false e = e

-- ---- the labels have 63 bytes at most

pub record Short (k : Kind) : Type 0 where
  pub version : (parts_of k).version ≤ 63
  pub configuration : (parts_of k).configuration ≤ 63

label_most : (n : ℕ) → label_right n ≡ true → n ≤ 63
label_most n e = leb-true n 63 (and_r (leb 1 n) (leb n 63) e)

pub right_short : (k : Kind) → kind_right k ≡ true → Short k
right_short (Ok (Base h)) e =
    let l : labels_right (Base h) ≡ true = and_l (labels_right (Base h)) (head_right (Base h)) e in
    record { version = label_most h.n (and_l (label_right h.n) (label_right h.m) l); configuration = label_most h.m (and_r (label_right h.n) (label_right h.m) l) }
right_short (Ok (Function h)) e = record { version = lit≤ tt; configuration = lit≤ tt }
right_short (Ok (State h)) e = record { version = lit≤ tt; configuration = lit≤ tt }
right_short (Err p) e = record { version = lit≤ tt; configuration = lit≤ tt }

pub record Legal (o : Object) : Type 0 where
  pub kind : kind_right o.kind ≡ true
  pub version : blank_from (parts_of o.kind).version o.version ≡ true
  pub configuration : blank_from (parts_of o.kind).configuration o.configuration ≡ true
  pub list : blank_from (parts_of o.kind).list o.list ≡ true

pub is_legal : (o : Object) → legal o ≡ true → Legal o
unfolding legal
is_legal o e =
    let a : Bool = kind_right o.kind in
    let b : Bool = blank_from (parts_of o.kind).version o.version in
    let c : Bool = blank_from (parts_of o.kind).configuration o.configuration in
    let d : Bool = blank_from (parts_of o.kind).list o.list in
    let ec : (a && b && c) ≡ true = and_l (a && b && c) d e in
    let eb : (a && b) ≡ true = and_l (a && b) c ec in
    record { kind = and_l a b eb; version = and_r a b eb; configuration = and_r (a && b) c ec; list = and_r (a && b && c) d e }

-- ---- how many bytes the fields have

pub total_head : (k : Kind) → total (head_fields k) ≡ (parts_of k).fixed
unfolding total
total_head (Ok (Base h)) = refl
total_head (Ok (Function h)) = refl
total_head (Ok (State h)) = refl
total_head (Err p) = refl

part_total : (w n : ℕ) (l : List ℕ) → n ≤ length l → total (map (field w) (take n l)) ≡ w * n
part_total w n l h = total_numbers w (take n l) ∙ ap (λ (m : ℕ). w * m) (length-take-le n l h)

total_append : (fs gs : List Field) → total (fs ++ gs) ≡ total fs + total gs
unfolding total
total_append [] gs = omega arith
total_append (f ∷ fs) gs = omega (arith, total_append fs gs)

module _ (o : Object) (v : (parts_of o.kind).version ≤ length o.version) (c : (parts_of o.kind).configuration ≤ length o.configuration) where
  pub version_total : total (map (field 1) (take (parts_of o.kind).version o.version)) ≡ (parts_of o.kind).version
  version_total = part_total 1 (parts_of o.kind).version o.version v ∙ omega arith

  pub configuration_total : total (map (field 1) (take (parts_of o.kind).configuration o.configuration)) ≡ (parts_of o.kind).configuration
  configuration_total = part_total 1 (parts_of o.kind).configuration o.configuration c ∙ omega arith

  -- the four parts stored one after the other are the object's bytes
  pub all_stored : (out : List ℕ) → sets out 0 (encode o)
      ≡ sets (sets (sets (sets out 0 (bytes_of_fields (head_fields o.kind))) (parts_of o.kind).fixed (bytes_of_fields (map (field 1) (take (parts_of o.kind).version o.version)))) ((parts_of o.kind).fixed + (parts_of o.kind).version) (bytes_of_fields (map (field 1) (take (parts_of o.kind).configuration o.configuration)))) ((parts_of o.kind).fixed + (parts_of o.kind).version + (parts_of o.kind).configuration) (bytes_of_fields (map (field 2) (take (parts_of o.kind).list o.list)))
  unfolding encode
  all_stored out =
      then_stored out 0 _ (head_fields o.kind) _ (total_head o.kind)
      ∙ rw (zero-add (parts_of o.kind).fixed) (then_stored _ _ _ (map (field 1) (take (parts_of o.kind).version o.version)) _ version_total
      ∙ then_stored _ _ _ (map (field 1) (take (parts_of o.kind).configuration o.configuration)) (map (field 2) (take (parts_of o.kind).list o.list)) configuration_total)

  pub total_fields : (parts_of o.kind).list ≤ length o.list → total (fields_of o) ≡ size_of o.kind
  total_fields l =
      simp (total_append, total_head, version_total, configuration_total, part_total 2 (parts_of o.kind).list o.list l) (omega arith)
