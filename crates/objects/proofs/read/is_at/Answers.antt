-- `objects::read::is_at` meets its contract: the tests that led to a return say which case of the definition holds.
use Prim.Native.Nat.{ℕ}
use mathlib.Core.Path.{ap, ◌∙◌}
use lib.Dec.{eqb}
use borrow.Author.Tests.{lt-ltb, le-ltb}
use Rattle.pool.proofs.Faults.{is_right}
use Rattle.objects.specs.Objects.{is_at}
use Rattle.objects.proofs.read.is_at.Goals as goal

pub returns-then-s-gt16384 : goal.returns-then-s-gt16384
unfolding is_at
returns-then-s-gt16384 c = simp (lt-ltb _ _ c.if-s-gt16384.true)

pub returns-then-s-at : goal.returns-then-s-at
unfolding is_at
returns-then-s-at c = simp (le-ltb _ _ c.if-s-gt16384.false, le-ltb _ _ c.if-s-at.true)

pub returns : goal.returns
unfolding is_at
returns c = simp (le-ltb _ _ c.if-s-gt16384.false, lt-ltb _ _ c.if-s-at.false) (c.is_ok.ensures.value ∙ is_right c.code_at.result ∙ ap (λ (x : ℕ). eqb x 0x00) c.code_at.ensures)
