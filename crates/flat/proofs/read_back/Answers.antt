-- `flat::read_back` meets its contract, by what holds of a message as an enum, and a look at each kind.
use Prim.Native.Nat.{ℕ, zero, suc, ◌+◌, ◌-◌, ◌≤◌, ◌<◌, min}
use native.Mathlib.Nat.{zero-add, min-eq_left}
use native.Mathlib.Omega.{arith}
use mathlib.Core.Path.{◌≡◌, refl, sym, ap, ◌∙◌}
use mathlib.Core.Bool.{Bool, true, false, true≢false, and-eq-true_iff}
use mathlib.Core.List.{List, [], ◌∷◌, ◌++◌}
use lib.Dec.{leb, eqb}
use lib.ListN.{length, get_or, take, replicate}
use lib.Seq.{ext_get_or, get_or-take, length-take-le}
use borrow.Author.Tests.{leb-true, eqb-true}
use Rattle.octets.specs.Pick.{pick}
use Rattle.octets.specs.Octets as octets
use Rattle.octets.specs.Label.{blank, bytes_at, label_at}
use Rattle.octets.specs.declared.label.Label.{Label}
use Rattle.octets.proofs.All.{All, none, ◌also◌}
use Rattle.octets.proofs.Cells.{length_cells, cell}
use Rattle.message.specs.Fields.{entry, status_number, status_from}
use Rattle.message.specs.Layout.{form_of}
use Rattle.message.specs.Messages.{octet_of, written_as, left_as, written_of}
use Rattle.message.specs.Promises.{SentBy}
use Rattle.message.specs.declared.Message.{Message}
use Rattle.message.specs.declared.Message.TheVariants.{Nothing, CapabilityRequest, CapabilityResponse, MemoryRequest, MemoryResponse, VersionRequest, VersionResponse, ConfigurationRequest, ConfigurationResponse, Transfer, TransferResponse, ActivationCommand, PoolAcknowledgement, DeleteCommand, DeleteResponse, StoreCommand, StoreResponse, LoadCommand, LoadResponse, StateCommand, ClientAbort, Indication, IndicationResponse, Command, Answer, AnswerAcknowledgement}
use Rattle.message.proofs.Back.{done, comes_back}
use Rattle.flat.specs.declared.Flat.{Flat}
use Rattle.flat.specs.Flat.{kind_of, flat_of, stated, execution_from, reply_from, receipt_from, kind_rows, message_from, reading_of}
use Rattle.flat.specs.ReadBack.{sender_of, plain, Fits, sent}
use Rattle.flat.proofs.read_back.Goals as goal

-- ---- the row of a table that a kind has

by_row : {A : Type 0} (P : A → Type 0) (code : ℕ) (rows : List (ℕ × A)) (other : A) → All (λ (row : ℕ × A). code ≡ row.0 → P row.1) rows → P other → P (entry code rows other)
unfolding pick
by_row P code [] other none o = o
by_row P code (row ∷ rows) other (r also rs) o = go (eqb code row.0) refl (by_row P code rows other rs o)
  where
    go : (b : Bool) → eqb code row.0 ≡ b → P (entry code rows other) → P (pick b row.1 (entry code rows other))
    go true e later = r (eqb-true code row.0 e)
    go false e later = later

-- ---- fields

status_same : (n : ℕ) → leb n 3 ≡ true → status_number (status_from n) ≡ n
unfolding status_from pick
status_same zero e = refl
status_same (suc zero) e = refl
status_same (suc (suc zero)) e = refl
status_same (suc (suc (suc zero))) e = refl
status_same (suc (suc (suc (suc n)))) e = absurd (omega (arith, leb-true (suc (suc (suc (suc n)))) 3 e))

-- the first n bytes of a list that has as many
bytes_take : (s : List ℕ) (n : ℕ) → n ≤ length s → bytes_at s 0 n ≡ take n s
bytes_take s n h =
    ext_get_or 0 (bytes_at s 0 n) (take n s) (length_cells n _ ∙ sym (length-take-le n s h)) (λ k l.
    let b : k < n = rw (length_cells n (λ (j : ℕ). get_or s (0 + j) 0)) at l in
    cell n (λ (j : ℕ). get_or s (0 + j) 0) k b ∙ ap (λ (j : ℕ). get_or s j 0) (zero-add k) ∙ sym (get_or-take n s k 0 b))

label_take : (l : Label) → length l.bytes ≡ 63 → leb l.length 63 ≡ true → label_at l.bytes 0 l.length ≡ record { length = l.length; bytes = take l.length l.bytes ++ replicate (63 - l.length) 0 }
unfolding label_at
label_take l c e =
    let n : ℕ = l.length in
    let h : n ≤ 63 = leb-true n 63 e in
    let m : min n 63 ≡ n = min-eq_left h in
    rw (m, bytes_take l.bytes n (omega arith))

-- ---- a message of each kind

module _ (f : Flat) (fits : Fits f) where
  -- made flat again, it is f with 0 in the fields that it lacks
  abbrev Again : Message → Type 0
  Again m = flat_of m (label_at f.label.bytes 0 (form_of m f.label.length 0).label) ≡ plain f

  record Sent (m : Message) : Type 0 where
    side : SentBy (sender_of f.kind) m
    again : Again m

  abbrev Allowed : Message → Type 0
  Allowed m = (form_of m f.label.length 0).allowed ≡ true

  abbrev Goes : Message → Type 0
  Goes m = Allowed m → Sent m

  none_goes : Goes Nothing
  none_goes a = absurd (true≢false (sym a))

  module _ (m : Message) (side : f.kind ≡ kind_of m → SentBy (sender_of f.kind) m) where
    row : (f.kind ≡ kind_of m → Allowed m → Again m) → f.kind ≡ kind_of m → Goes m
    row again e a = record { side = side e; again = again e a }

    stated_row : (leb f.step.status 3 ≡ true → f.kind ≡ kind_of m → Again m) → f.kind ≡ kind_of m → Goes (stated f.step.status m)
    unfolding pick
    stated_row again e = go (leb f.step.status 3) refl
      where
        go : (b : Bool) → leb f.step.status 3 ≡ b → Goes (pick b m Nothing)
        go true t a = record { side = side e; again = again t e }
        go false t a = none_goes a

  rows_go : All (λ (row : ℕ × Message). f.kind ≡ row.0 → Goes row.1) (kind_rows f)
  unfolding pick label_at
  rows_go =
      row (CapabilityRequest f.code) (λ e. rw e) (λ e a. rw e)
      also row (CapabilityResponse f.capability) (λ e. (rw e, fits.characters)) (λ e a. rw e)
      also row (MemoryRequest f.memory) (λ e. (rw e, fits.memory)) (λ e a. rw e)
      also row (MemoryResponse f.code) (λ e. rw e) (λ e a. rw e)
      also row VersionRequest (λ e. rw e) (λ e a. rw e)
      also row (VersionResponse f.code) (λ e. rw e) (λ e a. rw (e, label_take f.label fits.cells ((and-eq-true_iff _ _).0 a).0))
      also row ConfigurationRequest (λ e. rw e) (λ e a. rw e)
      also row (ConfigurationResponse f.code) (λ e. rw e) (λ e a. rw (e, label_take f.label fits.cells ((and-eq-true_iff _ _).0 a).0))
      also row Transfer (λ e. rw e) (λ e a. rw e)
      also row (TransferResponse f.code) (λ e. rw e) (λ e a. rw e)
      also row ActivationCommand (λ e. rw e) (λ e a. rw e)
      also row (PoolAcknowledgement f.code f.object) (λ e. (rw e, fits.object)) (λ e a. rw e)
      also row (DeleteCommand f.code) (λ e. rw e) (λ e a. rw e)
      also row (DeleteResponse f.code) (λ e. rw e) (λ e a. rw e)
      also row StoreCommand (λ e. rw e) (λ e a. rw e)
      also row (StoreResponse f.code) (λ e. rw e) (λ e a. rw e)
      also row LoadCommand (λ e. rw e) (λ e a. rw e)
      also row (LoadResponse f.code) (λ e. rw e) (λ e a. rw e)
      also row (StateCommand f.code f.reason) (λ e. rw e) (λ e a. rw e)
      also row (ClientAbort f.code) (λ e. rw e) (λ e a. rw e)
      also stated_row (Indication (execution_from f.step)) (λ e. (rw e, fits.value)) (λ t e. rw (e, status_same f.step.status t))
      also stated_row (IndicationResponse (reply_from f.step)) (λ e. rw e) (λ t e. rw (e, status_same f.step.status t))
      also row (Command (record { function = f.step.function; state = f.step.state; tan = f.step.tan; value = f.step.value })) (λ e. (rw e, fits.value)) (λ e a. rw e)
      also stated_row (Answer (reply_from f.step)) (λ e. rw e) (λ t e. rw (e, status_same f.step.status t))
      also stated_row (AnswerAcknowledgement (receipt_from f.step)) (λ e. rw e) (λ t e. rw (e, status_same f.step.status t))
      also none

  goes : Goes (message_from f)
  unfolding message_from
  goes = by_row Goes f.kind (kind_rows f) Nothing rows_go none_goes

-- ---- what was written

back : (f : Flat) (out : List ℕ) → Fits f → (written_of (message_from f) f.label [] (length out)).number ≡ 0 → reading_of (sender_of f.kind) (sent f out) ≡ record { number = 0; message = plain f }
unfolding reading_of written_as
back f out fits e =
    let g = goes f fits (done (form_of (message_from f) f.label.length 0) (length out) e) in
    rw (comes_back.message (sender_of f.kind) (message_from f) f.label [] out g.side e)
    (ap (λ (x : Flat). record { number = 0; message = x }) g.again)

pub returns : goal.returns
unfolding pick octets.bytes_of octet_of written_as left_as message_from reading_of
returns c =
    record {
      message = back;
      labelled = refl;
      commanded = refl;
      same = λ f out fits p e. rw p at (back f out fits e);
      transfer = λ pool out e. rw (comes_back.message 0 Transfer blank pool out refl e);
      kind = λ pool out e. rw (comes_back.message 0 Transfer blank pool out refl e);
      pool = λ pool out e. comes_back.pool blank pool out e;
    }
