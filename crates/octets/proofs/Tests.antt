-- What the tests that led to a return say of a choice, and `tests`, by which `search` puts them to use.
use mathlib.Core.Path.{◌≡◌, refl, sym, ◌∙◌, ap}
use mathlib.Core.Bool.{Bool, true, false, not, ◌&&◌, true≢false}
use borrow.Author.Tests.{eq-eqb, ne_eqb, le-leb, lt-leb, le-ltb, lt-ltb, not-true, not-false}
use Rattle.octets.specs.Pick.{pick}

module _ {X : Type 0} (b : Bool) (x y : X) where
  pub pick_true : b ≡ true → pick b x y ≡ x
  unfolding pick
  pick_true e = rw e

  pub pick_false : b ≡ false → pick b x y ≡ y
  unfolding pick
  pick_false e = rw e

-- what holds of both choices holds of the one made
pub pick_both : {X : Type 0} (P : X → Type 0) (b : Bool) {x y : X} → P x → P y → P (pick b x y)
unfolding pick
pick_both P true p q = p
pick_both P false p q = q

-- two tests that both hold
pub both : (a b : Bool) → (a && b) ≡ true → (a ≡ true) × (b ≡ true)
both true b e = (refl, e)
both false b e = absurd (true≢false (sym e))

-- a test is what the function that was called ensures of it
pub said : (r b v : Bool) → r ≡ b → r ≡ v → b ≡ v
said r b v e t = sym e ∙ t

pub said_not : (r b v : Bool) → r ≡ b → not r ≡ v → not b ≡ v
said_not r b v e t = ap not (sym e) ∙ t

-- the same after `if !f(..)`
pub denied : (r b : Bool) → r ≡ b → not r ≡ true → b ≡ false
denied r b e t = sym e ∙ not-true r t

pub granted : (r b : Bool) → r ≡ b → not r ≡ false → b ≡ true
granted r b e t = sym e ∙ not-false r t

pub ruleset tests = (pick_true, pick_false, said, said_not, eq-eqb, ne_eqb, le-leb, lt-leb, le-ltb, lt-ltb)
