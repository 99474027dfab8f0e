-- The round trips: of one object at its place, and of a whole pool.
use Prim.Native.Nat.{ℕ, zero, suc, ◌+◌, ◌-◌, ◌≤◌, ◌<◌}
use native.Mathlib.Nat.{lt_of_not-le}
use native.Mathlib.Decide.{dec_le}
use native.Mathlib.Omega.{arith}
use mathlib.Core.Path.{◌≡◌, refl, sym, ap, ◌∙◌, subst}
use mathlib.Core.List.{List, [], ◌∷◌, ◌++◌, map, append_assoc}
use mathlib.Core.Bool.{Bool, true, false, ◌&&◌}
use lib.ListN.{length, take, drop, length-append, length-drop, length-replicate, take-append-drop, drop_of_length-le}
use lib.Seq.{sets, sets-eq, drop_at, drop-drop, length-take-le, length-sets}
use lib.Dec.{ltb, lit<}
use borrow.Author.Tests.{ltb-true, ltb-false}
use Rattle.octets.specs.Pick.{pick}
use Rattle.octets.proofs.Laws.{Bytes, past}
use Rattle.octets.specs.Numbers.{too_short}
use Rattle.octets.specs.Octets.{number_at}
use Rattle.octets.specs.Label.{label_at}
use Rattle.pool.specs.Verdicts.{first, first_of}
use Rattle.pool.specs.Fields.{kind_at, head_at, fixed_of, rest_at, size_at, places_f, places_from, numbers_at}
use Rattle.pool.specs.StageOne.{code_of, faults_at, name_at, stage_one}
use Rattle.pool.specs.StageTwo.{find, is_object, object_of, id_of, is_in, first_repeat, repeat_fault, absent_fault, ids_fault, states_absent, states_alike, rules_of, stage_two}
use Rattle.pool.specs.Pool.{verdict_of}
use Rattle.pool.specs.Cases.{base, function}
use Rattle.pool.proofs.Lists.{length_numbers}
use Rattle.pool.proofs.Walk.{size_least, places_end, places_next}
use Rattle.std.specs.Prelude.{Ok}
use Rattle.objects.specs.declared.Object.{Object}
use Rattle.objects.specs.declared.Written.{Written}
use Rattle.objects.specs.Objects.{Kind, parts_of, size_of, whole_at, decode, next_at, found_at, field, head_fields, fields_of, encode, kind_right, legal, written, no_room, write_answer, write_out, decode_all, encode_all}
use Rattle.objects.specs.RoundTrip.{LegalObject, AllLegal, RoundTrip}
use Rattle.objects.proofs.Stores.{total, total_numbers, length_fields}
use Rattle.objects.proofs.Limits.{and_l, and_r, right_short, is_legal, total_head, version_total, configuration_total, total_fields}
use Rattle.objects.proofs.Cells.{take_cells, cells_blank, cells_are}
use Rattle.objects.proofs.Whole.{version_at, configuration_at, list_at, apart, whole_apart}
use Rattle.objects.proofs.Passed.{Passed, IsAt, Fine, at_is, by_kind, passed, no_fault, accepted, fine_here, fine_next}
use Rattle.objects.proofs.Fields.{Reads, fields_written, fields_read, reads_fit, reads_both, reads_first, reads_then, numbers_read, numbers_are, head_reads, kind_is, type_known, list_most, fit_first}

-- ---- an object that is read

module _ (s : List ℕ) (at : ℕ) where
  -- the two ways of saying how long an object is
  pub size_is : kind_at s at ≤ 2 → size_at s at ≡ size_of (Ok (head_at s at))
  unfolding fixed_of rest_at pick
  size_is k =
      by_kind s at (λ h. size_at s at ≡ size_of (Ok h)) k
      (λ e. rw e (omega arith))
      (λ e. rw e (omega arith))
      (λ e. rw e)

module _ (s : List ℕ) (at : ℕ) (B : Bytes s) (p : Passed s at) where
  whole_most : (parts_of (Ok (head_at s at))).list ≤ 255
  whole_most = list_most (Ok (head_at s at)) (reads_fit s (head_fields (Ok (head_at s at))) at B (head_reads s at p.kind))

  whole_fields : Reads s at (fields_of (apart s at))
  whole_fields =
      let k : Kind = Ok (head_at s at) in
      let q = parts_of k in
      let short = right_short k p.right in
      let heads = head_reads s at p.kind in
      let v : List ℕ = numbers_at 1 s (version_at s at) q.version in
      let c : List ℕ = numbers_at 1 s (configuration_at s at) q.configuration in
      let l : List ℕ = numbers_at 2 s (list_at s at) q.list in
      let nv : length v ≡ q.version = length_numbers 1 s (version_at s at) q.version in
      let nc : length c ≡ q.configuration = length_numbers 1 s (configuration_at s at) q.configuration in
      let nl : length l ≡ q.list = length_numbers 2 s (list_at s at) q.list in
      rw (take_cells 63 q.version v short.version nv, take_cells 63 q.configuration c short.configuration nc, take_cells 255 q.list l whole_most nl)
      (reads_both s (head_fields k) _ at heads
      (rw (total_head k) (reads_both s (map (field 1) v) _ (version_at s at) (numbers_read s 1 (version_at s at) q.version)
      (subst (λ (i : ℕ). Reads s i (map (field 1) c ++ map (field 2) l)) (omega (arith, total_numbers 1 v))
      (reads_both s (map (field 1) c) (map (field 2) l) (configuration_at s at) (numbers_read s 1 (configuration_at s at) q.configuration)
      (subst (λ (i : ℕ). Reads s i (map (field 2) l)) (omega (arith, total_numbers 1 c)) (numbers_read s 2 (list_at s at) q.list)))))))

  whole_total : total (fields_of (apart s at)) ≡ size_at s at
  whole_total =
      let short = right_short (Ok (head_at s at)) p.right in
      total_fields (apart s at)
      (simp (length-sets, length-replicate) short.version)
      (simp (length-sets, length-replicate) short.configuration)
      (simp (length-sets, length-replicate) whole_most)
      ∙ sym (size_is s at p.kind)

  -- an object that was read is written as the bytes that it was read from
  pub whole_written : encode (whole_at s at) ≡ take (size_at s at) (drop at s)
  unfolding encode
  whole_written =
      rw (whole_apart s at (right_short (Ok (head_at s at)) p.right))
      (fields_written s (fields_of (apart s at)) at B whole_fields (omega (arith, p.room, whole_total)) ∙ ap (λ (n : ℕ). take n (drop at s)) whole_total)

  -- and is legal
  pub whole_legal : LegalObject (whole_at s at)
  unfolding legal
  whole_legal =
      let k : Kind = Ok (head_at s at) in
      let short = right_short k p.right in
      rw (whole_apart s at short) (record {
        fields = reads_fit s (fields_of (apart s at)) at B whole_fields;
        version = simp (length-sets, length-replicate);
        configuration = simp (length-sets, length-replicate);
        list = simp (length-sets, length-replicate);
        right =
            rw (
              p.right,
              cells_blank 63 _ _ short.version (length_numbers 1 s (version_at s at) (parts_of k).version),
              cells_blank 63 _ _ short.configuration (length_numbers 1 s (configuration_at s at) (parts_of k).configuration),
              cells_blank 255 _ _ whole_most (length_numbers 2 s (list_at s at) (parts_of k).list),
            );
      })

-- ---- an object that was written

module _ (o : Object) (g : LegalObject o) where
  pub legal_kind : kind_right o.kind ≡ true
  legal_kind = (is_legal o g.right).kind

  version_fits : (parts_of o.kind).version ≤ length o.version
  version_fits = omega (arith, g.version, (right_short o.kind legal_kind).version)

  configuration_fits : (parts_of o.kind).configuration ≤ length o.configuration
  configuration_fits = omega (arith, g.configuration, (right_short o.kind legal_kind).configuration)

  list_fits : (parts_of o.kind).list ≤ length o.list
  list_fits = omega (arith, g.list, list_most o.kind (fit_first (head_fields o.kind) _ g.fields))

  length_encode : length (encode o) ≡ size_of o.kind
  unfolding encode
  length_encode = length_fields (fields_of o) ∙ total_fields o version_fits configuration_fits list_fits

module _ (s : List ℕ) (at : ℕ) (o : Object) (rest : List ℕ) (g : LegalObject o) (e : drop at s ≡ encode o ++ rest) where
  fields_here : Reads s at (fields_of o)
  unfolding encode
  fields_here = fields_read s (fields_of o) at rest e g.fields

  -- is read from the bytes that it was written as
  pub whole_is : whole_at s at ≡ o
  whole_is =
      let legal = is_legal o g.right in
      let q = parts_of o.kind in
      let short = right_short o.kind legal.kind in
      let most = list_fits o g in
      let v : List ℕ = take q.version o.version in
      let c : List ℕ = take q.configuration o.configuration in
      let l : List ℕ = take q.list o.list in
      let r1 : Reads s (at + q.fixed) (map (field 1) v ++ (map (field 1) c ++ map (field 2) l)) = rw total_head at (reads_then s (head_fields o.kind) _ at fields_here) in
      let hv = version_fits o g in
      let hc = configuration_fits o g in
      let r2 : Reads s (at + q.fixed + q.version) (map (field 1) c ++ map (field 2) l) = rw (version_total o hv hc) at (reads_then s (map (field 1) v) _ (at + q.fixed) r1) in
      let r3 : Reads s (at + q.fixed + q.version + q.configuration) (map (field 2) l) = rw (configuration_total o hv hc) at (reads_then s (map (field 1) c) _ (at + q.fixed + q.version) r2) in
      let ev : numbers_at 1 s (at + q.fixed) q.version ≡ v = rw (length-take-le q.version o.version hv) at (numbers_are s 1 (at + q.fixed) v (reads_first s (map (field 1) v) _ _ r1)) in
      let ec : numbers_at 1 s (at + q.fixed + q.version) q.configuration ≡ c = rw (length-take-le q.configuration o.configuration hc) at (numbers_are s 1 (at + q.fixed + q.version) c (reads_first s (map (field 1) c) _ _ r2)) in
      let el : numbers_at 2 s (at + q.fixed + q.version + q.configuration) q.list ≡ l = rw (length-take-le q.list o.list most) at (numbers_are s 2 (at + q.fixed + q.version + q.configuration) l r3) in
      let kind = kind_is s at o.kind legal.kind (reads_first s (head_fields o.kind) _ at fields_here) in
      whole_apart s at (rw kind short)
      ∙ rw (
        kind,
        cells_are 63 q.version _ o.version short.version g.version legal.version ev,
        cells_are 63 q.configuration _ o.configuration short.configuration g.configuration legal.configuration ec,
        cells_are 255 q.list _ o.list (omega (arith, g.list)) g.list legal.list el,
      )

  kind_same : Ok (head_at s at) ≡ o.kind
  unfolding whole_at
  kind_same = ap (λ (x : Object). x.kind) whole_is

  known_here : kind_at s at ≤ 2
  known_here = type_known s at o.kind (legal_kind o g) (reads_first s (head_fields o.kind) _ at fields_here)

  size_same : size_at s at ≡ length (encode o)
  size_same = size_is s at known_here ∙ ap size_of kind_same ∙ sym (length_encode o g)

  -- and passes stage one there
  passed_here : Passed s at
  passed_here =
      record {
        kind = known_here;
        room = omega (arith, size_same, size_least s at, length-drop at s, ap length e, length-append (encode o) rest);
        right = ap kind_right kind_same ∙ legal_kind o g;
      }

-- ---- a pool

pub decoded : (s : List ℕ) (at : ℕ) → IsAt s at → decode s at ≡ whole_at s at
unfolding decode pick
decoded s at i = rw (at_is s at i)

module _ (s : List ℕ) (B : Bytes s) where
  -- from a place on, the objects are legal, and are written as the bytes from there on
  record Rest (at : ℕ) : Type 0 where
    legal : AllLegal (map (decode s) (places_from s at))
    written : encode_all (map (decode s) (places_from s at)) ≡ drop at s

  rest_end : (at : ℕ) → length s ≤ at → Rest at
  unfolding encode_all
  rest_end at h = record { legal = rw (places_end s at h) tt; written = rw (places_end s at h) (sym (drop_of_length-le s h)) }

  rest_next : (at : ℕ) → IsAt s at → Rest (at + size_at s at) → Rest at
  unfolding encode_all
  rest_next at i later =
      let p = passed s at i.right in
      let z : ℕ = size_at s at in
      record {
        legal = rw (places_next s at i.within, decoded s at i) (whole_legal s at B p, later.legal);
        written = rw (places_next s at i.within, decoded s at i, whole_written s at B p, later.written, ← drop-drop z at s) (take-append-drop z (drop at s));
      }

  rest_of : (n at : ℕ) → length s - at ≤ n → Fine s at → Rest at
  rest_of zero at h f = rest_end at (omega arith)
  rest_of (suc n) at h f =
      elim (dec_le (length s) at) [
        | yes y ↦ rest_end at y
        | no x ↦
            let b = lt_of_not-le x in
            rest_next at (fine_here s at b f) (rest_of n (at + size_at s at) (omega (arith, size_least s at)) (fine_next s at b f))
      ]

-- legal objects that stand in s from a place on are read there
rest_read : (os : List Object) (s : List ℕ) (at : ℕ) → length s ≤ 16384 → AllLegal os → drop at s ≡ encode_all os → map (decode s) (places_from s at) ≡ os
unfolding encode_all
rest_read [] s at h g e = ap (map (decode s)) (places_end s at (omega (arith, length-drop at s, ap length e)))
rest_read (o ∷ os) s at h g e =
    let p = passed_here s at o (encode_all os) g.0 e in
    let b : at < length s = omega (arith, p.room, size_least s at) in
    let d : drop (at + size_at s at) s ≡ encode_all os = past s at (size_at s at) (encode o) (encode_all os) (sym (size_same s at o (encode_all os) g.0 e)) e in
    rw (places_next s at b, decoded s at (record { short = h; within = b; right = no_fault s at p }), whole_is s at o (encode_all os) g.0 e, rest_read os s (at + size_at s at) h g.1 d)

-- ---- one object, by the calls

has_room : (b : Bool) (at : ℕ) (w : Written) → (pick b (written too_short at) w).number ≡ 0 → b ≡ false
unfolding pick
has_room true at w e = absurd (omega arith)
has_room false at w e = refl

again : (o : Object) (out : List ℕ) (at : ℕ) → LegalObject o → length out ≤ 16384 → (write_answer o out at).number ≡ 0 → found_at (write_out o out at) at ≡ record { object = o; next = (write_answer o out at).next }
unfolding write_answer write_out next_at pick
again o out at g short e =
    let s : List ℕ = sets out at (encode o) in
    let rest : List ℕ = drop (at + length (encode o)) out in
    let free : no_room o out at ≡ false = has_room (no_room o out at) at _ e in
    let room : at + length (encode o) ≤ length out = omega (arith, ltb-false (length out) (at + size_of o.kind) free, length_encode o g) in
    let stands : drop at s ≡ encode o ++ rest =
    ap (drop at) (sets-eq (encode o) out at room ∙ append_assoc (take at out) (encode o) rest)
    ∙ drop_at (take at out) (encode o ++ rest) at (length-take-le at out (omega arith)) in
    let p = passed_here s at o rest g stands in
    let i : IsAt s at = record { short = rw (length-sets out at (encode o)) short; within = omega (arith, p.room, size_least s at); right = no_fault s at p } in
    rw (free, g.right, decoded s at i, at_is s at i, whole_is s at o rest g stands, size_same s at o rest g stands, length_encode o g)

-- ---- two pools that are accepted

all_bytes : List ℕ → Bool
all_bytes [] = true
all_bytes (x ∷ s) = ltb x 256 && all_bytes s

bytes_of : (s : List ℕ) → all_bytes s ≡ true → Bytes s
unfolding all_bytes
bytes_of [] e k = lit< tt
bytes_of (x ∷ s) e zero = ltb-true x 256 (and_l (ltb x 256) (all_bytes s) e)
bytes_of (x ∷ s) e (suc k) = bytes_of s (and_r (ltb x 256) (all_bytes s) e) k

pub round_trip : RoundTrip
unfolding decode_all all_bytes number_at pick label_at first first_of head_at fixed_of rest_at places_f places_from numbers_at code_of faults_at name_at stage_one find is_object object_of id_of is_in first_repeat repeat_fault absent_fault ids_fault states_absent states_alike rules_of stage_two verdict_of
round_trip =
    record {
      apart = λ s a. (rest_of s a.bytes (length s) 0 (omega arith) (accepted s a.success)).legal;
      written = λ s a. (rest_of s a.bytes (length s) 0 (omega arith) (accepted s a.success)).written;
      again = again;
      read = λ os g h. rest_read os (encode_all os) 0 h g refl;
      one = record { bytes = bytes_of (base 1 1 ++ function) refl; success = refl };
      other = record { bytes = bytes_of (function ++ base 63 1) refl; success = refl };
      differ = λ e. let n : ◌≡◌ {A = ℕ} 61 123 = ap length e in omega arith;
    }
