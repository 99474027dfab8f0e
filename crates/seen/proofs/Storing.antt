-- Whether fewer bytes are lent than a sequence has in its blocks: what the test of a store says in words.
use Prim.Native.Nat.{ℕ, ◌+◌, ◌*◌, ◌<◌}
use mathlib.Core.Path.{◌≡◌, refl, sym, ◌∙◌}
use mathlib.Core.Bool.{Bool, true, false, cond}
use mathlib.Core.List.{List, [], ◌∷◌}
use native.Mathlib.Omega.{arith}
use lib.Dec.{eqb, ltb}
use lib.ListN.{length}
use borrow.Author.Tests.{eqb-true, eqb-false, ltb-true, lt-ltb}
use Rattle.octets.specs.Pick.{pick}
use Rattle.arrays.specs.Arrays.{those}
use Rattle.client.specs.Records.{is_used}
use Rattle.sequence.specs.Sequence.{length_of}
use Rattle.store.specs.Stored.{slots_in, store_bytes}
use Rattle.master.specs.declared.Master.{Master}
use Rattle.events.specs.Events.{Given, record_at}
use Rattle.events.proofs.Choices.{chosen_by}
use Rattle.events.proofs.Regular.{given_regular}
use Rattle.seen.specs.Numbers.{Not, clients_among, block_count, TooFew}
use Rattle.seen.proofs.Says.{Says, equal, same_words}

-- a number that is 0 without a sequence
none_short : (count lent bytes : ℕ) → Says (ltb lent (pick (eqb count 0) 0 bytes)) (Not (count ≡ 0) × (lent < bytes))
none_short count lent bytes =
    chosen_by (λ (k : ℕ). Says (ltb lent k) (Not (count ≡ 0) × (lent < bytes))) (eqb count 0) 0 bytes
    (λ t. (λ e. absurd (omega (arith, ltb-true lent 0 e)), λ (h, _). absurd (h (eqb-true count 0 t))))
    (λ f. (λ e. (eqb-false count 0 f, ltb-true lent bytes e), λ (_, l). lt-ltb lent bytes l))

module _ (m : Master) where
  -- the slots that have a record, and their count
  counted : (l : List ℕ) → length (those (λ slot. is_used (record_at m slot)) l) ≡ clients_among m l
  unfolding pick
  counted [] = refl
  counted (slot ∷ l) = go (is_used (record_at m slot)) _ (counted l)
    where
      go : (b : Bool) (k : List ℕ) → length k ≡ clients_among m l → length (cond b (slot ∷ k) k) ≡ pick b 1 0 + clients_among m l
      go true k e = omega (arith, e)
      go false k e = omega (arith, e)

  clients : length (slots_in m.sequence.records) ≡ clients_among m (0 ∷ 1 ∷ 2 ∷ 3 ∷ 4 ∷ 5 ∷ 6 ∷ 7 ∷ [])
  unfolding slots_in
  clients = counted (0 ∷ 1 ∷ 2 ∷ 3 ∷ 4 ∷ 5 ∷ 6 ∷ 7 ∷ [])

  module _ (g : Given m) where
    -- all steps count
    steps : length_of m.sequence ≡ m.sequence.count
    steps = omega (arith, (given_regular m g).sequence.few)

    bytes : store_bytes m.sequence ≡ pick (eqb m.sequence.count 0) 0 (512 * block_count m)
    unfolding store_bytes
    bytes = rw (steps, clients)

    pub short_says : (out : List ℕ) → Says (ltb (length out) (store_bytes m.sequence)) (TooFew m out)
    short_says out = rw bytes (none_short m.sequence.count (length out) (512 * block_count m))

    pub none_says : Says (eqb (length_of m.sequence) 0) (m.sequence.count ≡ 0)
    none_says = same_words (equal _ 0) (λ e. sym steps ∙ e, λ e. steps ∙ e)
