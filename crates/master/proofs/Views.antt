-- What is read at a place among the items that are used, and past the last of them.
use Prim.Native.Nat.{ℕ, ◌<◌}
use mathlib.Core.Path.{◌≡◌, refl, ap}
use mathlib.Core.Bool.{Bool, true, false}
use mathlib.Core.List.{List}
use native.Mathlib.Omega.{arith}
use lib.Dec.{leb}
use lib.ListN.{get_or, length}
use borrow.Author.Tests.{leb-false, leb-true}
use Rattle.std.proofs.lemmas.List.{get_or_past}
use Rattle.octets.specs.Pick.{pick}

-- a view of a number and an item: past the last of the items blank
pub viewed :
    {X V : Type 0} (P : ℕ → X → V) (ys : List X) (n i : ℕ) {blank : X} (none v : X) {number : ℕ} {item : X} → length ys ≡ n → blank ≡ none
    → number ≡ pick (leb (length ys) i) 3 0 → item ≡ get_or ys i blank → (i < n → get_or ys i none ≡ v) → P number item ≡ pick (leb n i) (P 3 none) (P 0 v)
unfolding pick
viewed P ys n i none v len is_none is_number is_item reads = rw (is_number, is_item, is_none, len) (go (leb n i) refl)
  where
    go : (b : Bool) → leb n i ≡ b → P (pick {X = ℕ} b 3 0) (get_or ys i none) ≡ pick b (P 3 none) (P 0 v)
    go true t = ap (P 3) (get_or_past ys i none (omega (arith, leb-true n i t, len)))
    go false t = ap (P 0) (reads (leb-false n i t))
