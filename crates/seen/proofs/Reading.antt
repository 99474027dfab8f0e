-- What is read of an E.4 and of an E.7 that is taken: its bytes; and that byte 3 is packed again as it was.
use Prim.Native.Nat.{ℕ, zero, suc, ◌+◌, ◌-◌, ◌*◌, ◌/◌, ◌%◌, ◌≤◌, ◌<◌}
use mathlib.Core.Path.{◌≡◌, refl, sym, ap, ◌∙◌}
use mathlib.Core.Bool.{true, false, ◌&&◌, true≢false}
use mathlib.Core.Logic.{◌↔◌}
use mathlib.Core.List.{List, [], ◌∷◌}
use native.Mathlib.Omega.{arith}
use lib.Dec.{eqb}
use lib.ListN.{length, get_or}
use borrow.Author.Tests.{eq-eqb, ne_eqb, eqb-true}
use Rattle.octets.specs.Pick.{pick}
use Rattle.octets.specs.declared.label.Label.{Label}
use Rattle.octets.proofs.Tests.{pick_true}
use Rattle.arrays.specs.Every.{Every}
use Rattle.message.specs.Fields.{byte, entry, status_number, status_from, status_of, packed}
use Rattle.message.specs.Layout.{form_of, client_rows, as_execution, as_reply, from_client, layout_of}
use Rattle.message.specs.Messages.{judged_by, read_of}
use Rattle.message.specs.declared.forms.Form.{Form}
use Rattle.message.specs.declared.Status.{Status}
use Rattle.message.specs.declared.Status.TheVariants.{Failed}
use Rattle.message.specs.declared.Message.{Message}
use Rattle.message.specs.declared.Message.TheVariants.{Nothing}
use Rattle.message.specs.Messages.{Reading}
use Rattle.flat.specs.Flat.{flat_of, execution_step, reply_step, execution_from, reply_from, reading_of}
use Rattle.flat.specs.declared.MessageStep.{MessageStep}
use Rattle.master.specs.Messages.{kind_in, execution_in, reply_in, is_indication, is_answer}
use Rattle.events.proofs.Choices.{chosen_by}
use Rattle.seen.specs.Words.{Bytes}

-- what holds of the row that has the code holds of what a table gives
entry_by :
    {A : Type 0} (P : A → Type 0) (code : ℕ) (rows : List (ℕ × A)) (none : A) → Every (λ row. code ≡ row.0 → P row.1) rows → P none
    → P (entry code rows none)
entry_by P code [] none h k = k
entry_by P code (row ∷ rows) none h k = chosen_by P (eqb code row.0) _ _ (λ e. h.0 (eqb-true _ _ e)) (λ _. entry_by P code rows none h.1 k)

module _ (s : List ℕ) where
  -- it has the length and the values of this message
  unfoldable pub Fits : Message → Type 0
  Fits m = let f : Form = form_of m (byte 3 s % 64) (length s - 1) in (eqb f.length (length s) && f.allowed) ≡ true

  -- a message of this kind that fits has this
  abbrev pub Has : ℕ → (MessageStep → Type 0) → Message → Type 0
  Has kind P m = (l : Label) → eqb (flat_of m l).kind kind ≡ true → Fits m → P (flat_of m l).step

  -- a message of another kind
  pub no : {C F X : Type 0} → C → Label → false ≡ true → F → X
  no c l e f = absurd (true≢false (sym e))

  pub read_as :
      (kind : ℕ) (P : MessageStep → Type 0) → eqb 0 kind ≡ false → Every (λ row. byte 1 s ≡ row.0 → Has kind P row.1) (client_rows s)
      → eqb (kind_in s) kind ≡ true → P (reading_of 0 s).message.step
  unfolding pick read_of reading_of layout_of from_client Fits
  read_as kind P none rows =
      chosen_by (λ (r : Reading). eqb (flat_of r.message r.label).kind kind ≡ true → P (flat_of r.message r.label).step) _ _ _
      (λ t e. entry_by (Has kind P) (byte 1 s) (client_rows s) Nothing rows (λ l q. absurd (true≢false (sym q ∙ none))) _ e t)
      (λ _ e. absurd (true≢false (sym e ∙ none)))

  -- the message that its code names is read where it fits
  pub kind_read : (code : ℕ) (m : Message) (kind : ℕ) → byte 1 s ≡ code → entry code (client_rows s) Nothing ≡ m → Fits m → ((l : Label) → (flat_of m l).kind ≡ kind)
      → eqb (kind_in s) kind ≡ true
  unfolding pick read_of reading_of layout_of from_client Fits
  kind_read code m kind c e f k =
      let judged : Message → Reading = λ x. judged_by s x (form_of x (byte 3 s % 64) (length s - 1)) in
      let named : from_client (byte 1 s) s ≡ m = ap (λ (n : ℕ). entry n (client_rows s) Nothing) c ∙ e in
      let read : read_of 0 s ≡ _ = ap judged named ∙ pick_true _ _ _ f in
      eq-eqb _ _ (ap (λ (r : Reading). (flat_of r.message r.label).kind) read ∙ k _)

  indication_step : eqb (kind_in s) 21 ≡ true → (reading_of 0 s).message.step ≡ execution_step (as_execution s)
  indication_step =
      read_as 21 (λ x. x ≡ execution_step (as_execution s)) refl (no, (no, (no, (no, (no, (no, (no, (no, (λ c l q f. refl, (no, (no, (no, tt))))))))))))

  answer_step : eqb (kind_in s) 24 ≡ true → (reading_of 0 s).message.step ≡ reply_step (as_reply s)
  answer_step = read_as 24 (λ x. x ≡ reply_step (as_reply s)) refl (no, (no, (no, (no, (no, (no, (no, (no, (no, (λ c l q f. refl, (no, (no, tt))))))))))))

  pub indication_is : is_indication s ≡ true → execution_in s ≡ execution_from (execution_step (as_execution s))
  indication_is h = ap execution_from (indication_step h)

  pub answer_is : is_answer s ≡ true → reply_in s ≡ reply_from (reply_step (as_reply s))
  answer_is h = ap reply_from (answer_step h)

-- ---- byte 3, bits 1 to 6 the state, bits 7 and 8 the status

-- the status of a message that was made flat
abbrev pub status_again : ℕ → Status
status_again octet = status_from (status_number (status_of octet))

pub packed_again : (octet : ℕ) → octet < 256 → packed (octet % 64) (status_again octet) ≡ octet
unfolding pick status_from packed
packed_again octet h = go (octet / 64) refl
  where
    go : (q : ℕ) → octet / 64 ≡ q → octet % 64 % 64 + 64 * status_number (status_from (status_number (status_from q))) ≡ octet
    go zero e = omega arith
    go (suc zero) e = omega arith
    go (suc (suc zero)) e = omega arith
    go (suc (suc (suc zero))) e = omega arith
    go (suc (suc (suc (suc q)))) e = absurd (omega arith)

pub byte_below : (s : List ℕ) (i : ℕ) → Bytes s → get_or s i 0 < 256
byte_below [] i h = omega arith
byte_below (x ∷ s) zero h = h.0
byte_below (x ∷ s) (suc i) h = byte_below s i h.1

failed : (n : ℕ) → 3 ≤ n → status_from n ≡ Failed
unfolding pick status_from
failed n h = rw (ne_eqb n 0 (λ e. omega arith), ne_eqb n 1 (λ e. omega arith), ne_eqb n 2 (λ e. omega arith))

-- status 11
pub failed_again : (octet : ℕ) → (status_number (status_again octet) ≡ 3) ↔ (3 ≤ octet / 64)
unfolding pick status_from
failed_again octet = go (octet / 64)
  where
    go : (q : ℕ) → (status_number (status_from (status_number (status_from q))) ≡ 3) ↔ (3 ≤ q)
    go zero = (λ e. absurd (omega arith), λ h. absurd (omega arith))
    go (suc zero) = (λ e. absurd (omega arith), λ h. absurd (omega arith))
    go (suc (suc zero)) = (λ e. absurd (omega arith), λ h. absurd (omega arith))
    go (suc (suc (suc q))) = (λ e. omega arith, λ h. let f = failed (suc (suc (suc q))) (omega arith) in rw f)

-- status 10 or 11
pub ends_again : (octet : ℕ) → (2 ≤ status_number (status_again octet)) ↔ (2 ≤ octet / 64)
unfolding pick status_from
ends_again octet = go (octet / 64)
  where
    go : (q : ℕ) → (2 ≤ status_number (status_from (status_number (status_from q)))) ↔ (2 ≤ q)
    go zero = (λ h. h, λ h. h)
    go (suc zero) = (λ h. h, λ h. h)
    go (suc (suc zero)) = (λ h. h, λ h. h)
    go (suc (suc (suc q))) = (λ h. omega arith, λ h. let f = failed (suc (suc (suc q))) (omega arith) in rw f (omega arith))
