-- A client record and a step are read back from the bytes that they were written as.
use Prim.Native.Nat.{ℕ, ◌+◌, ◌-◌, ◌^◌, ◌≤◌, ◌<◌, min}
use native.Mathlib.Nat.{add-zero}
use native.Mathlib.Omega.{arith}
use mathlib.Core.Path.{◌≡◌, refl, sym, ap, ◌∙◌}
use mathlib.Core.Bool.{true}
use mathlib.Core.List.{List, [], ◌∷◌, ◌++◌, append_assoc}
use lib.Dec.{lit<}
use lib.ListN.{length, get_or, replicate, replicate-append-replicate}
use lib.Seq.{ext_get_or, get_or-take, length-take-le}
use borrow.Author.Tests.{lt-ltb}
use Rattle.octets.specs.{Octets.bytes_of, Label.bytes_at, Label.label_at, declared.label.Label.Label}
use Rattle.octets.proofs.{Cells.length_cells, Cells.cell, Tests.pick_both}
use Rattle.pool.specs.{StageTwo.label_bytes, StageTwo.character_right}
use Rattle.arrays.proofs.{Fill.length_pad, Every.every_at}
use Rattle.client.specs.{Clients.slot_count, declared.ClientRecord.ClientRecord}
use Rattle.sequence.specs.{Sequence.by_distance, declared.Step.Step}
use Rattle.store.specs.Fields.{most_mark, step_right}
use Rattle.store.specs.Stored.{client_bytes, step_bytes}
use Rattle.store.specs.Loaded.{byte_at, is_blank, client_at, client_right, client_blank, step_at, step_blank}
use Rattle.store.specs.Legal.{RightLabel, RightRecord, FitsRecord, FitsStep}
use Rattle.store.proofs.Below.{every_below_lem}
use Rattle.store.proofs.Lists.{pad_is}
use Rattle.store.proofs.Stands.{At, at_left, at_right, at_last, at_byte, at_number, at_blank}
use Rattle.store.proofs.Items.{first, named, names, version, named_length, names_length, version_length, fields, marked, valued, zeros, marked_length, valued_length}
use Rattle.store.proofs.Fields.{label_most, step_parts}

-- ---- a label of 63 cells and a zero

module _ {l : Label} (R : RightLabel l) where
  pub length_label : length l.bytes ≡ 63
  length_label = ap length R.cells ∙ length_pad 0 63 (label_bytes l)

  short : l.length ≤ 63
  short = label_most l.length R.length

  length_text : length (label_bytes l) ≡ l.length
  length_text = length-take-le l.length l.bytes (omega (arith, length_label, short))

  -- its bytes, and the cells after them
  label_cells : l.bytes ≡ label_bytes l ++ replicate (63 - l.length) 0
  label_cells = R.cells ∙ pad_is 0 63 (label_bytes l) (omega (arith, length_text, short)) ∙ rw length_text

  module _ {s : List ℕ} {i : ℕ} (a : At s i (l.bytes ++ 0 ∷ [])) where
    label_byte : (k : ℕ) → k < l.length → byte_at s (i + k) ≡ get_or (label_bytes l) k 0
    label_byte k h = at_byte k (at_left l.bytes (0 ∷ []) a) (omega (arith, length_label, short)) ∙ sym (get_or-take l.length l.bytes k 0 h)

    label_read : label_at s i l.length ≡ l
    unfolding label_at
    label_read =
        let m : min l.length 63 ≡ l.length = omega (arith, short) in
        let text : bytes_at s i l.length ≡ label_bytes l =
        ext_get_or 0 (bytes_at s i l.length) (label_bytes l) (length_cells l.length _ ∙ sym length_text) (λ k h.
        let b : k < l.length = rw (length_cells l.length _) at h in
        cell l.length _ k b ∙ label_byte k b) in
        rw (m, text, ← label_cells)

    label_blank : (j : ℕ) → j ≡ i + 64 → is_blank s (i + l.length) j ≡ true
    label_blank j e =
        let n : ℕ = 63 - l.length in
        let last : l.bytes ++ 0 ∷ [] ≡ label_bytes l ++ replicate (n + 1) 0 =
        ap (λ (m : List ℕ). m ++ 0 ∷ []) label_cells ∙ append_assoc (label_bytes l) (replicate n 0) (0 ∷ [])
        ∙ ap (λ (m : List ℕ). label_bytes l ++ m) (replicate-append-replicate {A = ℕ} n 1 0) in
        at_blank (n + 1) j (at_right (label_bytes l) (replicate (n + 1) 0) l.length length_text (rw last at a)) (omega (arith, short))

-- ---- a client record

module _ (slot : ℕ) {r : ClientRecord} (R : RightRecord r) where
  module _ {s : List ℕ} {p : ℕ} (a : At s p (client_bytes slot r)) where
    at_configuration : At s (p + 84) (r.configuration.bytes ++ 0 ∷ [])
    unfolding client_bytes
    at_configuration = at_last (version slot r) r.configuration.bytes (0 ∷ []) 84 (version_length slot r (length_label R.version)) a

    to_version : At s p (version slot r)
    unfolding client_bytes
    to_version = at_left (version slot r) r.configuration.bytes (at_left (version slot r ++ r.configuration.bytes) (0 ∷ []) a)

    at_version : At s (p + 20) (r.version.bytes ++ 0 ∷ [])
    at_version = at_last (names slot r) r.version.bytes (0 ∷ []) 20 (names_length slot r) to_version

    to_master : At s p (names slot r)
    to_master = at_left (names slot r) r.version.bytes (at_left (names slot r ++ r.version.bytes) (0 ∷ []) to_version)

    to_name : At s p (named slot r)
    to_name = at_left (named slot r) (bytes_of 8 r.master) to_master

    first_byte : (k : ℕ) → k < 4 → byte_at s (p + k) ≡ get_or (first slot r) k 0
    first_byte k h = at_byte k (at_left (first slot r) (bytes_of 8 r.name) to_name) h

    pub slot_read : byte_at s p ≡ slot
    slot_read = rw (add-zero p) at (first_byte 0 (omega arith))

    pub client_read : FitsRecord r → client_at s p ≡ r
    unfolding client_at
    client_read F =
        rw (
          at_number 8 r.name (at_right (first slot r) (bytes_of 8 r.name) 4 refl to_name) F.name,
          at_number 8 r.master (at_right (named slot r) (bytes_of 8 r.master) 12 (named_length slot r) to_master) F.master,
          first_byte 1 (omega arith),
          first_byte 2 (omega arith),
          label_read R.version at_version,
          label_read R.configuration at_configuration,
          ← R.used,
        )

    pub client_right_lem : slot < slot_count → client_right s p ≡ true
    unfolding client_right
    client_right_lem h =
        rw (slot_read, first_byte 1 (omega arith), first_byte 2 (omega arith), lt-ltb slot slot_count h, R.version.length, R.configuration.length)
        (every_below_lem _ r.version.length (λ k b.
        ap character_right (label_byte R.version at_version k b)
        ∙ every_at _ (label_bytes r.version) k 0 (omega (arith, length_text R.version)) R.characters))

    pub client_blank_lem : client_blank s p ≡ true
    unfolding client_blank
    client_blank_lem =
        rw (
          first_byte 3 (omega arith),
          first_byte 1 (omega arith),
          first_byte 2 (omega arith),
          label_blank R.version at_version (p + 84) (omega arith),
          label_blank R.configuration at_configuration (p + 148) (omega arith),
        )

-- ---- a step

mark_fits : (t : Step) → step_right t ≡ true → t.mark < 2 ^ 32
mark_fits t e =
    let fits : most_mark (by_distance t) < 2 ^ 32 = pick_both (λ m. m < 2 ^ 32) (by_distance t) (lit< tt) (lit< tt) in
    omega (arith, (step_parts t e).3)

module _ (t : Step) {s : List ℕ} {p : ℕ} (a : At s p (step_bytes t)) where
  pub step_blank_lem : step_blank s p ≡ true
  unfolding step_bytes
  step_blank_lem = at_blank 4 (p + 16) (at_right (valued t) zeros 12 (valued_length t) a) (omega arith)

  to_value : At s p (valued t)
  unfolding step_bytes
  to_value = at_left (valued t) zeros a

  to_mark : At s p (marked t)
  to_mark = at_left (marked t) (bytes_of 4 t.value) to_value

  field_byte : (k : ℕ) → k < 4 → byte_at s (p + k) ≡ get_or (fields t) k 0
  field_byte k h = at_byte k (at_left (fields t) (bytes_of 4 t.mark) to_mark) h

  pub step_read : step_right t ≡ true → FitsStep t → step_at s p ≡ t
  unfolding step_at
  step_read e F =
      rw (
        at_number 4 t.mark (at_right (fields t) (bytes_of 4 t.mark) 4 refl to_mark) (mark_fits t e),
        at_number 4 t.value (at_right (marked t) (bytes_of 4 t.value) 8 (marked_length t) to_value) F.value,
        field_byte 1 (omega arith),
        field_byte 2 (omega arith),
        field_byte 3 (omega arith),
        rw (add-zero p) at (field_byte 0 (omega arith)),
      )
