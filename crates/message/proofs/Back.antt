-- A message written and read back is the same message.
use mathlib.Core.Path.{◌≡◌, refl, sym, ap, ◌∙◌}
use mathlib.Core.Bool.{Bool, true, false, and-eq-true_iff}
use mathlib.Core.List.{List, [], ◌∷◌, ◌++◌}
use Prim.Native.Nat.{ℕ, zero, suc, ◌+◌, ◌-◌, ◌*◌, ◌/◌, ◌%◌, ◌^◌, ◌≤◌, ◌<◌, min, max}
use native.Mathlib.Nat.{zero-add}
use native.Mathlib.Omega.{arith}
use lib.Dec.{ltb, leb, eqb}
use lib.ListN.{length, get_or, drop}
use lib.Seq.{ext_get_or, take_at, drop_at}
use borrow.Author.Tests.{leb-true, eq-eqb, lt-ltb, le-ltb}
use Rattle.octets.specs.Pick.{pick}
use Rattle.octets.specs.Numbers.{completed, too_short, wrong_value}
use Rattle.octets.specs.Octets as octets
use Rattle.octets.specs.Label.{row_of, bytes_at, label_at}
use Rattle.octets.specs.declared.label.Label.{Label}
use Rattle.octets.proofs.Laws.{number_of_bytes}
use Rattle.octets.proofs.Cells.{length_cells, cell, same_cells}
use Rattle.message.specs.Fields.{byte, status_from, status_of, packed}
use Rattle.message.specs.Layout.{labelled, pooled, form_of, from_client, from_master, client_side, master_side, layout_of}
use Rattle.message.specs.Messages.{read_of, octet_of, laid, message_bytes, result_of, written_as, left_as, written_of}
use Rattle.message.specs.Promises.{SentBy, same, sent_bytes, ComesBack}
use Rattle.message.specs.declared.forms.Form.{Form}
use Rattle.message.specs.declared.Status.{Status}
use Rattle.message.specs.declared.Status.TheVariants.{AtOnce, Started, Done, Failed}
use Rattle.message.specs.declared.Message.{Message}
use Rattle.message.specs.declared.Message.TheVariants.{Nothing, CapabilityRequest, CapabilityResponse, MemoryRequest, MemoryResponse, VersionRequest, VersionResponse, ConfigurationRequest, ConfigurationResponse, Transfer, TransferResponse, ActivationCommand, PoolAcknowledgement, DeleteCommand, DeleteResponse, StoreCommand, StoreResponse, LoadCommand, LoadResponse, StateCommand, ClientAbort, Indication, IndicationResponse, Command, Answer, AnswerAcknowledgement}

-- ---- fields

number_back : (w v : ℕ) (before rest : List ℕ) → v < 256 ^ w → octets.number_at w (before ++ (octets.bytes_of w v ++ rest)) (length before) ≡ v
number_back w v before rest h = number_of_bytes w v (before ++ (octets.bytes_of w v ++ rest)) (length before) rest (drop_at before (octets.bytes_of w v ++ rest) (length before) refl) h

state_back : (s : ℕ) (t : Status) → leb s 63 ≡ true → packed s t % 64 ≡ s
unfolding packed
state_back s t h = omega (arith, leb-true s 63 h)

status_back : (s : ℕ) (t : Status) → status_of (packed s t) ≡ t
unfolding packed status_from pick
status_back s AtOnce = let e : (s % 64 + 64 * 0) / 64 ≡ 0 = omega arith in rw e
status_back s Started = let e : (s % 64 + 64 * 1) / 64 ≡ 1 = omega arith in rw e
status_back s Done = let e : (s % 64 + 64 * 2) / 64 ≡ 2 = omega arith in rw e
status_back s Failed = let e : (s % 64 + 64 * 3) / 64 ≡ 3 = omega arith in rw e

bits_back : (n : ℕ) → leb n 63 ≡ true → n % 64 % 64 ≡ n
bits_back n h = omega (arith, leb-true n 63 h)

-- ---- D.3 and D.5

module _ (code error : ℕ) (l : Label) (pool : List ℕ) where
  abbrev form : Form
  form = labelled code error l.length

  abbrev s : List ℕ
  s = laid form l pool

  -- the bytes before the label, and those of the label
  at : (i : ℕ) → i < max 8 (3 + l.length) → get_or s i 0 ≡ octet_of form l pool i
  at i h = cell (max 8 (3 + l.length)) (octet_of form l pool) i h

  octet_label : (k : ℕ) → k < l.length → octet_of form l pool (3 + k) ≡ get_or l.bytes k 0
  unfolding octet_of pick
  octet_label k h =
      let low : ltb (3 + k) 3 ≡ false = le-ltb (3 + k) 3 (omega arith) in
      let place : 3 + k - 3 ≡ k = omega arith in
      let high : ltb k l.length ≡ true = lt-ltb k l.length h in
      rw (low, place, high)

  head : (byte 1 s ≡ code) × (byte 2 s ≡ error) × (byte 3 s ≡ l.length % 64)
  unfolding octet_of pick
  head = (at 0 (omega arith), at 1 (omega arith), at 2 (omega arith))

  label : label_at s 3 l.length ≡ label_at l.bytes 0 l.length
  unfolding label_at
  label =
      let e : bytes_at s 3 (min l.length 63) ≡ bytes_at l.bytes 0 (min l.length 63) =
      same_cells (min l.length 63) _ _ (λ k h. at (3 + k) (omega arith) ∙ octet_label k (omega arith) ∙ ap (λ (j : ℕ). get_or l.bytes j 0) (sym (zero-add k))) in
      rw e

  labelled_back :
      (m : Message) →
      ((n p : ℕ) → form_of m n p ≡ labelled code error n) →
      ((s : List ℕ) → byte 1 s ≡ code → byte 2 s ≡ error → layout_of master_side s ≡ m) →
      form.allowed ≡ true →
      read_of master_side s ≡ record { number = completed; message = m; label = label_at l.bytes 0 l.length }
  unfolding read_of pick label_at octet_of
  labelled_back m shape layout allowed =
      let n : byte 3 s % 64 ≡ l.length = rw head.2 (bits_back l.length ((and-eq-true_iff _ _).0 allowed).0) in
      let size : eqb (max 8 (3 + l.length)) (length s) ≡ true = eq-eqb _ _ (sym (length_cells (max 8 (3 + l.length)) (octet_of form l pool))) in
      rw (layout s head.0 head.1, shape (byte 3 s % 64) (length s - 1), n, size, allowed, label)

-- ---- D.6

module _ (l : Label) (pool : List ℕ) where
  octet_pool : (i : ℕ) → i < 1 + length pool → octet_of (pooled (length pool)) l pool i ≡ get_or (0x03 ∷ pool) i 0
  unfolding octet_of pick
  octet_pool zero h = refl
  octet_pool (suc j) h =
      let low : ltb (suc j) 1 ≡ false = le-ltb (suc j) 1 (omega arith) in
      let place : suc j - 1 ≡ j = omega arith in
      let none : ltb j 0 ≡ false = le-ltb j 0 (omega arith) in
      let high : ltb j (length pool) ≡ true = lt-ltb j (length pool) (omega arith) in
      rw (low, place, none, high)

  transfer : (pooled (length pool)).allowed ≡ true → laid (pooled (length pool)) l pool ≡ 0x03 ∷ pool
  transfer allowed =
      let most : length pool ≤ 16384 = leb-true (length pool) 16384 ((and-eq-true_iff (leb 8 (length pool)) (leb (length pool) 16384)).0 allowed).1 in
      let f : ℕ → ℕ = octet_of (pooled (length pool)) l pool in
      let n : ℕ = 1 + min (length pool) 16384 in
      let size : length (row_of n f) ≡ suc (length pool) = length_cells n f ∙ omega arith in
      ext_get_or 0 (row_of n f) (0x03 ∷ pool) size (λ i h. let j : i < suc (length pool) = rw size at h in cell n f i (omega arith) ∙ octet_pool i (omega arith))

  transfer_back : (pooled (length pool)).allowed ≡ true → read_of client_side (laid (pooled (length pool)) l pool) ≡ same Transfer l pool
  unfolding pick from_client layout_of read_of label_at
  transfer_back allowed =
      let most : length pool ≤ 16384 = leb-true (length pool) 16384 ((and-eq-true_iff (leb 8 (length pool)) (leb (length pool) 16384)).0 allowed).1 in
      let place : suc (length pool) - 1 ≡ length pool = omega arith in
      let size : eqb (1 + min (length pool) 16384) (suc (length pool)) ≡ true = eq-eqb (1 + min (length pool) 16384) (suc (length pool)) (omega arith) in
      rw (transfer allowed, place, size, allowed)

-- ---- a message

back : (side : ℕ) (m : Message) (l : Label) (pool : List ℕ) → SentBy side m → (form_of m l.length (length pool)).allowed ≡ true → read_of side (message_bytes m l pool) ≡ same m l pool
unfolding pick octets.bytes_of label_at from_client from_master layout_of read_of octet_of message_bytes
back side Nothing l pool f r = absurd f
back side (CapabilityRequest version) l pool f r = rw (f, r)
back side (CapabilityResponse c) l pool f r = rw (f.0, number_back 2 c.characters (0x90 ∷ c.version ∷ c.width ∷ c.height ∷ []) (c.colour ∷ c.size ∷ c.font ∷ c.style ∷ []) f.1, r)
back side (MemoryRequest m) l pool f r = rw (f.0, number_back 4 m (0x91 ∷ []) (255 ∷ 255 ∷ 255 ∷ []) f.1)
back side (MemoryResponse status) l pool f r = rw (f, r)
back side VersionRequest l pool f r = rw f
back side (VersionResponse error) l pool f r = rw f (labelled_back 0x01 error l pool (VersionResponse error) (λ n p. refl) (λ s a b. rw (a, b)) r)
back side ConfigurationRequest l pool f r = rw f
back side (ConfigurationResponse error) l pool f r = rw f (labelled_back 0x02 error l pool (ConfigurationResponse error) (λ n p. refl) (λ s a b. rw (a, b)) r)
back side Transfer l pool f r = rw f (transfer_back l pool r)
back side (TransferResponse error) l pool f r = rw (f, r)
back side ActivationCommand l pool f r = rw f
back side (PoolAcknowledgement code object) l pool f r = rw (f.0, number_back 2 object (0x04 ∷ code ∷ []) (255 ∷ 255 ∷ 255 ∷ 255 ∷ []) f.1, r)
back side (DeleteCommand memory) l pool f r = rw (f, r)
back side (DeleteResponse error) l pool f r = rw (f, r)
back side StoreCommand l pool f r = rw f
back side (StoreResponse error) l pool f r = rw (f, r)
back side LoadCommand l pool f r = rw f
back side (LoadResponse error) l pool f r = rw (f, r)
back side (StateCommand state reason) l pool f r = rw (f, r)
back side (ClientAbort error) l pool f r = rw (f, r)
back side (Indication x) l pool f r = rw (f.0, state_back x.state x.status r, status_back x.state x.status, number_back 4 x.value (0x32 ∷ x.function ∷ packed x.state x.status ∷ x.tan ∷ []) [] f.1, r)
back side (IndicationResponse x) l pool f r = rw (f, state_back x.state x.status ((and-eq-true_iff _ _).0 r).0, status_back x.state x.status, r)
back side (Command x) l pool f r = rw (f.0, bits_back x.state r, number_back 4 x.value (0x33 ∷ x.function ∷ x.state % 64 ∷ x.tan ∷ []) [] f.1, r)
back side (Answer x) l pool f r = rw (f, state_back x.state x.status ((and-eq-true_iff _ _).0 r).0, status_back x.state x.status, r)
back side (AnswerAcknowledgement x) l pool f r = rw (f, state_back x.state x.status r, status_back x.state x.status, r)

-- ---- what was written, where that gave 0

pub done : (f : Form) (room : ℕ) → result_of f room ≡ completed → f.allowed ≡ true
unfolding pick
done f room e = go (ltb room f.length) f.allowed e
  where
    go : (a b : Bool) → pick a too_short (pick b completed wrong_value) ≡ completed → b ≡ true
    go true b e = absurd (omega arith)
    go false true e = refl
    go false false e = absurd (omega arith)

sent_bytes_lem : (m : Message) (l : Label) (pool out : List ℕ) → (written_of m l pool (length out)).number ≡ completed → sent_bytes m l pool out ≡ message_bytes m l pool
unfolding pick written_as left_as message_bytes
sent_bytes_lem m l pool out e =
    let f : Form = form_of m l.length (length pool) in
    rw e (take_at (laid f l pool) (drop f.length out) f.length (length_cells f.length (octet_of f l pool)))

pub comes_back : ComesBack
unfolding written_as message_bytes
comes_back = record {
  message = λ side m l pool out f e. rw (sent_bytes_lem m l pool out e) (back side m l pool f (done (form_of m l.length (length pool)) (length out) e));
  pool = λ l pool out e. ap (drop 1) (sent_bytes_lem Transfer l pool out e ∙ transfer l pool (done (pooled (length pool)) (length out) e));
}
