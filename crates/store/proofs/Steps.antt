-- The steps as they are read from the blocks: how many, each of them, and the slots of which there is one.
use Prim.Native.Nat.{ℕ, zero, suc, ◌<◌}
use mathlib.Core.Path.{◌≡◌, refl, sym, ◌∙◌}
use mathlib.Core.Bool.{Bool}
use mathlib.Core.List.{List, [], ◌∷◌}
use native.Mathlib.Numerals.{add-one}
use native.Mathlib.Omega.{arith}
use lib.Dec.{eqb}
use lib.ListN.{length, length-append}
use Rattle.arrays.specs.{Arrays.some, Every.Every}
use Rattle.arrays.proofs.Every.{every_more, some_more}
use Rattle.sequence.specs.Sound.{is_of}
use Rattle.sequence.specs.declared.Step.{Step}
use Rattle.store.specs.Below.{some_below}
use Rattle.store.specs.Blocks.{step_place}
use Rattle.store.specs.Loaded.{step_at, step_slot, steps_to}
use Rattle.store.proofs.Below.{some_suc}

-- the first n steps, of c clients
module _ (s : List ℕ) (c : ℕ) where
  pub steps_length : (n : ℕ) → length (steps_to s c n) ≡ n
  steps_length zero = refl
  steps_length (suc n) = length-append (steps_to s c n) (step_at s (step_place c n) ∷ []) ∙ rw (steps_length n, add-one)

  pub every_step : (P : Step → Type 0) (n : ℕ) → ((k : ℕ) → k < n → P (step_at s (step_place c k))) → Every P (steps_to s c n)
  every_step P zero h = tt
  every_step P (suc n) h = every_more P (steps_to s c n) (step_at s (step_place c n)) (every_step P n (λ k l. h k (omega arith))) (h n (omega arith))

  pub some_step : (p : Step → Bool) (n : ℕ) → some p (steps_to s c n) ≡ some_below n (λ k. p (step_at s (step_place c k)))
  some_step p zero = refl
  some_step p (suc n) = some_more p (steps_to s c n) (step_at s (step_place c n)) ∙ rw (some_step p n) (sym (some_suc (λ k. p (step_at s (step_place c k))) n))

  -- one of the first n steps is of the client in slot x
  pub step_of : (x n : ℕ) → some (is_of x) (steps_to s c n) ≡ some_below n (λ k. eqb (step_slot s c k) x)
  unfolding step_at
  step_of x n = some_step (is_of x) n
