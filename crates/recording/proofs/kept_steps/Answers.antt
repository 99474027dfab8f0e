-- `recording::kept_steps` meets its contract: of the steps up to here those that stay are copied, and the cells after them are blank.
use Prim.Native.Nat.{ℕ, ◌+◌}
use mathlib.Core.Path.{refl, sym, ap, ◌∙◌}
use native.Mathlib.Omega.{arith}
use Rattle.arrays.proofs.Fill.{pad_none}
use Rattle.sequence.specs.Sequence.{blank_step, blank_sequence}
use Rattle.recording.proofs.Stayed.{skips, counts, stores}
use Rattle.recording.proofs.kept_steps.Goals.{then-does_stay, else-does_stay}
use Rattle.recording.proofs.kept_steps.Goals as goal

pub loop-t-init : goal.loop-t-init
unfolding blank_sequence
loop-t-init c = rw c.blank_sequence-kept.ensures (record { few = omega arith; number = refl; out = pad_none blank_step 64 })

pub loop-t-preserved : goal.loop-t-preserved
loop-t-preserved c =
    let v = c.loop-t.invariant in
    let h = c.loop-t-test.true in
    elim c.if-does_stay.branch [
      | then-does_stay w ↦
          let e = sym c.does_stay.ensures ∙ w.if-does_stay.true in
          rw w.kept-is (record {
            few = omega arith;
            number = ap (λ (k : ℕ). k + 1) v.number ∙ counts _ _ _ h e;
            out = rw v.out (stores _ _ _ h _ v.number (omega arith) e);
          })
      | else-does_stay w ↦
          let e = skips _ _ _ h (sym c.does_stay.ensures ∙ w.if-does_stay.false) in
          rw (w.kept-is, e) (record { few = omega arith; number = v.number; out = v.out })
    ]
