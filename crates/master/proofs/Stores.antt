-- How many bytes a sequence's blocks are at most, and that there is a step where a store is not refused by 7.
use Prim.Native.Nat.{ℕ, ◌≤◌}
use native.Mathlib.Omega.{arith}
use mathlib.Core.Path.{◌≡◌, refl}
use mathlib.Core.Bool.{Bool, true, false}
use mathlib.Core.List.{[], ◌∷◌}
use lib.Dec.{eqb}
use lib.ListN.{get_or}
use borrow.Author.Tests.{eqb-false}
use Rattle.octets.specs.Pick.{pick}
use Rattle.octets.specs.Numbers.{no_step}
use Rattle.octets.proofs.Tests.{pick_both}
use Rattle.arrays.proofs.Fill.{those_short}
use Rattle.client.specs.Records.{is_used, blank_record}
use Rattle.sequence.specs.Sequence.{length_of}
use Rattle.sequence.specs.declared.Sequence.{Sequence}
use Rattle.store.specs.Stored.{slots_in, store_bytes}
use Rattle.master.specs.Storing.{unstored}

module _ (q : Sequence) where
  pub few_bytes : (n : ℕ) → n ≡ store_bytes q → n ≤ 3584
  unfolding store_bytes slots_in
  few_bytes n e =
      let few = those_short (λ slot. is_used (get_or q.records slot blank_record)) (0 ∷ 1 ∷ 2 ∷ 3 ∷ 4 ∷ 5 ∷ 6 ∷ 7 ∷ []) in
      rw e (pick_both (λ (n : ℕ). n ≤ 3584) (eqb (length_of q) 0) (omega arith) (omega (arith, few)))

  pub some_step : unstored q ≡ 0 → 1 ≤ length_of q
  unfolding unstored pick
  some_step e = go (eqb (length_of q) 0) refl e
    where
      go : (b : Bool) → eqb (length_of q) 0 ≡ b → pick {X = ℕ} b no_step 0 ≡ 0 → 1 ≤ length_of q
      go true t z = absurd (omega (arith, z))
      go false t z = let n = eqb-false (length_of q) 0 t in omega arith
