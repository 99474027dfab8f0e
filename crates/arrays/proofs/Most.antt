-- A loop that ends at `at_most(count, room)` looks at the first count cells.
use Prim.Native.Nat.{ℕ, ◌≤◌, min}
use mathlib.Core.Path.{◌≡◌, refl, sym, ◌∙◌}
use mathlib.Core.Bool.{Bool, true, false}
use mathlib.Core.List.{List}
use native.Mathlib.Nat.{min-eq_left, min-eq_right, le_of_lt}
use native.Mathlib.Omega.{arith}
use lib.Dec.{leb}
use lib.ListN.{take, length}
use lib.Seq.{take_all}
use borrow.Author.Tests.{leb-true, leb-false}
use Rattle.arrays.proofs.Walk.{rest, start}

module _ {X : Type 0} (l : List X) (count room end : ℕ) (e : length l ≡ room) (m : end ≡ min count room) where
  pub most : take count l ≡ take end l
  most = go (leb count room) refl
    where
      go : (b : Bool) → leb count room ≡ b → take count l ≡ take end l
      go true t = let h : count ≤ room = leb-true count room t in rw (m, min-eq_left h)
      go false t =
          let h : room ≤ count = le_of_lt (leb-false count room t) in
          rw (m, min-eq_right h) (take_all count l (omega arith) ∙ sym (take_all room l (omega arith)))

  pub most_start : take count l ≡ rest l end 0
  most_start = most ∙ sym (start l end)
