-- A sequence that is another one but for its edition has the steps of that one.
use Prim.Native.Nat.{ℕ}
use mathlib.Core.Path.{◌≡◌, refl, sym, ap, subst, ◌∙◌}
use Rattle.sequence.specs.Sequence.{steps_of}
use Rattle.sequence.specs.Editions.{with_edition}
use Rattle.sequence.specs.declared.Sequence.{Sequence}

abbrev pub SameButEdition : Sequence → Sequence → Type 0
SameButEdition q old = q ≡ with_edition old q.edition

pub in_edition : (q old : Sequence) (n : ℕ) → q ≡ with_edition old n → SameButEdition q old
in_edition q old n e = subst (λ (x : Sequence). SameButEdition x old) (sym e) refl

pub through : (q between old : Sequence) → SameButEdition q between → SameButEdition between old → SameButEdition q old
through q between old c d = c ∙ ap (λ (x : Sequence). with_edition x q.edition) d

pub same_steps : (q old : Sequence) → SameButEdition q old → steps_of q ≡ steps_of old
unfolding steps_of
same_steps q old e = ap steps_of e
