-- What a store leaves is what the sequence's blocks are, and a load of them gives it back.
use Prim.Native.Nat.{ℕ, ◌*◌, ◌/◌, ◌≤◌, ◌<◌}
use native.Mathlib.Omega.{arith}
use mathlib.Core.Path.{◌≡◌, sym, ap, subst, ◌∙◌}
use mathlib.Core.List.{List}
use lib.ListN.{length}
use borrow.Author.Tests.{ltb-false, eq-eqb}
use Rattle.octets.specs.Pick.{pick}
use Rattle.octets.specs.Numbers.{check_wrong}
use Rattle.sequence.specs.Sequence.{length_of}
use Rattle.sequence.specs.declared.Sequence.{Sequence}
use Rattle.store.specs.Blocks.{blocks_for}
use Rattle.store.specs.Stored.{slots_in, stored_of, stored_in, store_bytes}
use Rattle.store.specs.Loaded.{loaded_of}
use Rattle.store.specs.{Legal.Legal, Promises.Altered, Loaded.Loaded}
use Rattle.store.proofs.Sets.{stands}
use Rattle.store.proofs.Contents.{stores_some}
use Rattle.store.proofs.Again as store_again
use Rattle.store.proofs.Altered as store_altered
use Rattle.store.proofs.Octets as store_octets
use Rattle.master.specs.declared.Master.{Master}
use Rattle.master.specs.States as state
use Rattle.master.specs.States.{with_sequence}
use Rattle.master.specs.Call.{refusal}
use Rattle.master.specs.Storing.{store_call, load_call}
use Rattle.master.proofs.Calls.{passed}
use Rattle.master.proofs.Stores.{some_step}
use Rattle.events.specs.Events.{store, load, call_of, apply}
use Rattle.events.proofs.Calls.{number_is, after_is, count_is, written_is}
use Rattle.history.specs.Stored.{blocks_from, Stores, Stored}
use Rattle.history.proofs.Storable.{legal}

-- ---- a load

module _ (n : Master) (blocks : List ℕ) (r : n.state ≡ state.ready) where
  number_read : (apply n (load blocks)).number ≡ (loaded_of blocks).number
  unfolding pick refusal load_call loaded_of
  number_read = number_is n (call_of n (load blocks)) ∙ rw (eq-eqb n.state state.ready r)

  master_read : (apply n (load blocks)).number ≡ 0 → (apply n (load blocks)).master ≡ with_sequence n (loaded_of blocks).sequence
  unfolding load_call
  master_read z = after_is n (call_of n (load blocks)) z

-- ---- a store

module _ (m : Master) (out : List ℕ) (s : Stores m out) where
  abbrev q : Sequence
  q = m.sequence

  allowed : (1 ≤ length_of q) × (store_bytes q ≤ length out)
  unfolding store_call
  allowed =
      let p = passed _ _ _ _ _ (sym (number_is m (call_of m (store out))) ∙ s.accepted) in
      (some_step q p.goes, ltb-false _ _ p.fits)

  is_legal : Legal q
  is_legal = let l = allowed.0 in legal m s.given (omega (arith, l))

  -- the blocks of the sequence, and nothing else
  blocks_are : blocks_from m out ≡ stored_of q
  unfolding store_call stored_in
  blocks_are =
      let e = store_again.length_stored q is_legal in
      rw (count_is m (call_of m (store out)) s.accepted, written_is m (call_of m (store out)) s.accepted)
      (stands out 0 (store_bytes q) (stored_of q) e (omega (arith, allowed.1)))

  read_back : loaded_of (blocks_from m out) ≡ record { number = 0; sequence = q }
  read_back = ap loaded_of blocks_are ∙ store_again.again q is_legal s.fits

  -- so many whole blocks
  whole : (k : ℕ) × (length (blocks_from m out) ≡ 512 * k)
  whole = (
    blocks_for (length (slots_in q.records)) (length_of q),
    ap length blocks_are ∙ store_again.length_stored q is_legal ∙ sym (stores_some q (λ z. let l = allowed.0 in omega (arith, l, z))),
  )

again :
    (m n : Master) (out : List ℕ) → Stores m out → n.state ≡ state.ready
    → ((apply n (load (blocks_from m out))).number ≡ 0) × ((apply n (load (blocks_from m out))).master ≡ with_sequence n m.sequence)
again m n out s r =
    let e = read_back m out s in
    let z : (apply n (load (blocks_from m out))).number ≡ 0 = number_read n (blocks_from m out) r ∙ ap (λ (x : Loaded). x.number) e in
    (z, master_read n (blocks_from m out) r z ∙ ap (λ (x : Loaded). with_sequence n x.sequence) e)

found :
    (m n : Master) (out t : List ℕ) (i : ℕ) → Stores m out → n.state ≡ state.ready → 4 * i < length (blocks_from m out)
    → Altered (blocks_from m out) t i → (apply n (load t)).number ≡ check_wrong
found m n out t i s r l a =
    let e = blocks_are m out s in
    let k = whole m out s in
    let within : 4 * i / 512 < length (stored_of m.sequence) / 512 = subst (λ (b : List ℕ). 4 * i / 512 < length b / 512) e (omega (arith, l, k.1)) in
    number_read n t r
    ∙ store_altered.altered (stored_of m.sequence) t i (store_octets.stored_bytes m.sequence (is_legal m out s) s.fits)
    (λ z. omega (arith, sym (ap (λ (x : Loaded). x.number) (store_again.again m.sequence (is_legal m out s) s.fits)) ∙ z))
    within (subst (λ (b : List ℕ). Altered b t i) e a)

differ : (m n : Master) (out out' : List ℕ) → Stores m out → Stores n out' → blocks_from m out ≡ blocks_from n out' → m.sequence ≡ n.sequence
differ m n out out' s t e =
    store_again.differ m.sequence n.sequence (is_legal m out s) s.fits (is_legal n out' t) t.fits (sym (blocks_are m out s) ∙ e ∙ blocks_are n out' t)

pub stored : Stored
stored = record { legal = legal; again = again; found = found; differ = differ }
