-- The records by slot as they are read from the blocks: which slots have one, which one that is, and how many they are.
use Prim.Native.Nat.{ℕ, zero, suc, ◌<◌}
use mathlib.Core.Path.{◌≡◌, refl, sym, ap, ◌∙◌}
use mathlib.Core.Bool.{Bool, true, false, ◌||◌, true≢false}
use mathlib.Core.List.{List}
use native.Mathlib.Omega.{arith}
use lib.Dec.{eqb}
use lib.ListN.{length, get_or, length-set, get_or-replicate}
use lib.Seq.{get_or-set_same, get_or-set_other}
use borrow.Author.Tests.{eqb-true, eqb-false}
use Rattle.arrays.proofs.Every.{neither}
use Rattle.client.specs.Records.{is_used, blank_record}
use Rattle.client.specs.declared.ClientRecord.{ClientRecord}
use Rattle.store.specs.Below.{some_below}
use Rattle.store.specs.Blocks.{client_place}
use Rattle.store.specs.Stored.{slots_in}
use Rattle.store.specs.Loaded.{client_at, client_slot, records_to}
use Rattle.store.proofs.Below.{some_suc}
use Rattle.store.proofs.Slots.{slots_one_more}

blank_unused : is_used blank_record ≡ false
unfolding blank_record
blank_unused = refl

client_used : (s : List ℕ) (p : ℕ) → is_used (client_at s p) ≡ true
unfolding client_at
client_used s p = refl

module _ (s : List ℕ) where
  -- one of the first k client records has slot x
  abbrev pub has_slot : ℕ → ℕ → Bool
  has_slot k x = some_below k (λ j. eqb (client_slot s j) x)

  one_more : (k x : ℕ) → has_slot (suc k) x ≡ (has_slot k x || eqb (client_slot s k) x)
  one_more k x = some_suc (λ j. eqb (client_slot s j) x) k

  abbrev pub record_to : ℕ → ℕ → ClientRecord
  record_to k x = get_or (records_to s k) x blank_record

  pub records_length : (k : ℕ) → length (records_to s k) ≡ 8
  records_length zero = refl
  records_length (suc k) = length-set (records_to s k) (client_slot s k) (client_at s (client_place k)) ∙ records_length k

  -- ---- which record a slot has

  -- the slot of the last client record, and any other slot
  record_here : (k x : ℕ) → x < 8 → client_slot s k ≡ x → record_to (suc k) x ≡ client_at s (client_place k)
  record_here k x h e =
      let n : length (records_to s k) ≡ 8 = records_length k in
      rw e (get_or-set_same (records_to s k) x (client_at s (client_place k)) blank_record (omega arith))

  record_other : (k x : ℕ) → (client_slot s k ≡ x → ⊥) → record_to (suc k) x ≡ record_to k x
  record_other k x d = get_or-set_other (records_to s k) (client_slot s k) x (client_at s (client_place k)) blank_record (λ e. d (sym e))

  pub record_none : (k x : ℕ) → x < 8 → has_slot k x ≡ false → record_to k x ≡ blank_record
  record_none zero x h e = get_or-replicate 8 x blank_record blank_record h
  record_none (suc k) x h e =
      let n = neither (has_slot k x) (eqb (client_slot s k) x) (sym (one_more k x) ∙ e) in
      record_other k x (eqb-false _ _ n.1) ∙ record_none k x h n.0

  -- client record j has slot x, and is the one that stands there
  abbrev Holds : ℕ → ℕ → ℕ → Type 0
  Holds k x j = (client_slot s j ≡ x) × (record_to k x ≡ client_at s (client_place j))

  pub record_some : (k x : ℕ) → x < 8 → has_slot k x ≡ true → (j : ℕ) × (j < k) × Holds k x j
  record_some zero x h e = absurd (true≢false (sym e))
  record_some (suc k) x h e = go (eqb (client_slot s k) x) refl (has_slot k x) refl (record_some k x h) (sym (one_more k x) ∙ e)
    where
      go :
          (b : Bool) → eqb (client_slot s k) x ≡ b → (a : Bool) → has_slot k x ≡ a → (has_slot k x ≡ true → (j : ℕ) × (j < k) × Holds k x j)
          → (a || b) ≡ true → (j : ℕ) × (j < suc k) × Holds (suc k) x j
      go true q a r f t = let z = eqb-true (client_slot s k) x q in (k, omega arith, (z, record_here k x h z))
      go false q true r f t = let y = f r in (y.0, let l = y.1 in omega arith, (y.2.0, record_other k x (eqb-false _ _ q) ∙ y.2.1))
      go false q false r f t = absurd (true≢false (sym t))

  pub record_used : (k x : ℕ) → x < 8 → is_used (record_to k x) ≡ has_slot k x
  record_used k x h = go (has_slot k x) refl
    where
      go : (b : Bool) → has_slot k x ≡ b → is_used (record_to k x) ≡ b
      go true e = let y = record_some k x h e in rw y.2.1 (client_used s (client_place y.0))
      go false e = rw (record_none k x h e) blank_unused

  -- ---- how many they are

  records_none : length (slots_in (records_to s 0)) ≡ 0
  unfolding slots_in blank_record
  records_none = refl

  records_more :
      (k : ℕ) → client_slot s k < 8 → has_slot k (client_slot s k) ≡ false
      → length (slots_in (records_to s (suc k))) ≡ suc (length (slots_in (records_to s k)))
  records_more k h e =
      let x : ℕ = client_slot s k in
      slots_one_more (records_to s k) (records_to s (suc k)) x h (λ y d. ap is_used (record_other k y d))
      (record_used k x h ∙ e) (ap is_used (record_here k x h refl) ∙ client_used s (client_place k))

  -- records of which none has the slot of another are as many as the slots that have one
  pub records_count :
      (k : ℕ) → ((j : ℕ) → j < k → client_slot s j < 8) → ((j : ℕ) → j < k → has_slot j (client_slot s j) ≡ false)
      → length (slots_in (records_to s k)) ≡ k
  records_count zero h e = records_none
  records_count (suc k) h e =
      records_more k (h k (omega arith)) (e k (omega arith)) ∙ ap suc (records_count k (λ j l. h j (omega arith)) (λ j l. e j (omega arith)))
