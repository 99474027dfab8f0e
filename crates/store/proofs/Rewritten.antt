-- A client record, a step and a block that are read stand there as they are written.
use Prim.Native.Nat.{ℕ, ◌+◌, ◌-◌, ◌≤◌, min}
use native.Mathlib.Nat.{add-zero, min-eq_left}
use native.Mathlib.Omega.{arith}
use mathlib.Core.Path.{◌≡◌, refl, ◌∙◌}
use mathlib.Core.Bool.{true, ◌&&◌}
use mathlib.Core.List.{List, [], ◌∷◌, ◌++◌}
use lib.Dec.{eqb}
use lib.ListN.{length, replicate, length-append, length-replicate, replicate-append-replicate}
use borrow.Author.Tests.{eqb-true}
use Rattle.octets.specs.{Octets.bytes_of, Label.bytes_at, Label.label_at}
use Rattle.octets.proofs.{Laws.Bytes, Cells.length_cells, Tests.both}
use Rattle.pool.specs.Ranges.{label_right}
use Rattle.client.specs.declared.ClientRecord.{ClientRecord}
use Rattle.store.specs.Blocks.{content_bytes, word_at, check_at}
use Rattle.store.specs.Stored.{client_bytes, step_bytes, filled, sealed}
use Rattle.store.specs.Loaded.{byte_at, is_blank, client_at, client_right, client_blank, step_at, step_blank}
use Rattle.store.proofs.Lists.{pad_is}
use Rattle.store.proofs.Checks.{check_moved}
use Rattle.store.proofs.Stands.{At, at_byte}
use Rattle.store.proofs.Items.{first, named, names, version, named_length, names_length, version_length, client_length, fields, marked, valued, zeros, marked_length, valued_length}
use Rattle.store.proofs.Fields.{label_most, client_parts}
use Rattle.store.proofs.Blocks.{length_filled}
use Rattle.store.proofs.Found.{both_there, last_there, bytes_there, number_there, zeros_there}

module _ (s : List ℕ) where
  -- ---- a label of 63 cells and a zero

  length_label : (i n : ℕ) → length (label_at s i n).bytes ≡ 63
  unfolding label_at
  length_label i n =
      let m : ℕ = min n 63 in
      length-append (bytes_at s i m) (replicate (63 - m) 0) ∙ omega (arith, length_cells m (λ k. byte_at s (i + k)), length-replicate {A = ℕ} (63 - m) 0)

  label_there : (i n j : ℕ) → label_right n ≡ true → i + 64 ≡ j → j ≤ length s → is_blank s (i + n) j ≡ true → At s i ((label_at s i n).bytes ++ 0 ∷ [])
  unfolding label_at
  label_there i n j h e fits b =
      let short : n ≤ 63 = label_most n h in
      let cells : ◌++◌ {A = ℕ} (replicate (63 - n) 0) (0 ∷ []) ≡ replicate (63 - n + 1) 0 = replicate-append-replicate {A = ℕ} (63 - n) 1 0 in
      rw (min-eq_left short)
      (last_there (bytes_at s i n) (replicate (63 - n) 0) (0 ∷ []) n (length_cells n _) (bytes_there s i n (omega arith))
      (rw cells (zeros_there s (i + n) (63 - n + 1) j (omega arith) fits b)))

  -- ---- a client record

  pub client_wide : (slot p : ℕ) → length (client_bytes slot (client_at s p)) ≡ 148
  unfolding client_at
  client_wide slot p = client_length slot (client_at s p) (length_label (p + 20) (byte_at s (p + 1))) (length_label (p + 84) (byte_at s (p + 2)))

  module _ (B : Bytes s) (p : ℕ) (fits : p + 148 ≤ length s) (right : client_right s p ≡ true) (blank : client_blank s p ≡ true) where
    abbrev r : ClientRecord
    r = client_at s p

    blanks : (byte_at s (p + 3) ≡ 0) × (is_blank s (p + 20 + byte_at s (p + 1)) (p + 84) ≡ true) × (is_blank s (p + 84 + byte_at s (p + 2)) (p + 148) ≡ true)
    unfolding client_blank
    blanks =
        let fill = eqb (byte_at s (p + 3)) 0 in
        let two = both (fill && is_blank s (p + 20 + byte_at s (p + 1)) (p + 84)) (is_blank s (p + 84 + byte_at s (p + 2)) (p + 148)) blank in
        let one = both fill (is_blank s (p + 20 + byte_at s (p + 1)) (p + 84)) two.0 in
        (eqb-true _ _ one.0, one.1, two.1)

    first_there : At s p (first (byte_at s p) r)
    unfolding client_at label_at
    first_there =
        let parts = client_parts s p right in
        rw (min-eq_left (label_most (byte_at s (p + 1)) parts.1), min-eq_left (label_most (byte_at s (p + 2)) parts.2))
        (rw (add-zero p, blanks.0) at (bytes_there s p 4 (omega arith)))

    pub client_there : At s p (client_bytes (byte_at s p) r)
    unfolding client_at client_bytes
    client_there =
        let slot : ℕ = byte_at s p in
        let parts = client_parts s p right in
        let name = number_there s B 8 (p + 4) (omega arith) in
        let master = number_there s B 8 (p + 12) (omega arith) in
        let label = label_there (p + 20) (byte_at s (p + 1)) (p + 84) parts.1 (omega arith) (omega arith) blanks.1 in
        let last = label_there (p + 84) (byte_at s (p + 2)) (p + 148) parts.2 (omega arith) fits blanks.2 in
        last_there (version slot r) r.configuration.bytes (0 ∷ []) 84 (version_length slot r (length_label (p + 20) (byte_at s (p + 1))))
        (last_there (names slot r) r.version.bytes (0 ∷ []) 20 (names_length slot r)
        (both_there (named slot r) (bytes_of 8 r.master) 12 (named_length slot r)
        (both_there (first slot r) (bytes_of 8 r.name) 4 refl first_there name) master) label) last

  -- ---- a step

  pub step_there : Bytes s → (p : ℕ) → p + 16 ≤ length s → step_blank s p ≡ true → At s p (step_bytes (step_at s p))
  unfolding step_at step_bytes
  step_there B p fits blank =
      let x = step_at s p in
      both_there (valued x) zeros 12 (valued_length x)
      (both_there (marked x) (bytes_of 4 x.value) 8 (marked_length x)
      (both_there (fields x) (bytes_of 4 x.mark) 4 refl (rw (add-zero p) at (bytes_there s p 4 (omega arith))) (number_there s B 4 (p + 4) (omega arith)))
      (number_there s B 4 (p + 8) (omega arith)))
      (zeros_there s (p + 12) 4 (p + 16) (omega arith) fits blank)

  -- ---- a block

  module _ (B : Bytes s) (p number : ℕ) (content : List ℕ) (fits : p + 512 ≤ length s) (less : length content ≤ content_bytes) (a : At s p content) where
    filled_there : is_blank s (p + length content) (p + content_bytes) ≡ true → At s p (filled content)
    filled_there blank =
        rw (pad_is 0 content_bytes content less)
        (both_there content (replicate (content_bytes - length content) 0) (length content) refl a
        (zeros_there s (p + length content) (content_bytes - length content) (p + content_bytes) (omega arith) (omega arith) blank))

    pub block_there :
        is_blank s (p + length content) (p + content_bytes) ≡ true → word_at s p 127 ≡ check_at s p number → At s p (sealed number content)
    unfolding sealed
    block_there blank e =
        let f = filled_there blank in
        let same : check_at s p number ≡ check_at (filled content) 0 number =
        check_moved s (filled content) p 0 number (λ k h.
        let z : 0 + k ≡ k = omega arith in
        rw z (at_byte k f (rw (length_filled content) h))) in
        both_there (filled content) (bytes_of 4 (check_at (filled content) 0 number)) 508 (length_filled content) f
        (rw (e, same) at (number_there s B 4 (p + 508) (omega arith)))
