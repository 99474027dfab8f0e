-- `recording::drop_records` meets its contract: the records before this slot are done, the others still to do.
use mathlib.Core.Path.{sym, ◌∙◌}
use native.Mathlib.Omega.{arith}
use borrow.Author.Rules.{rules}
use lib.ListN.{length-set}
use Rattle.recording.proofs.Records.{at_start, at_end, drops, stays_on}
use Rattle.recording.proofs.drop_records.Goals.{then-not-has_step, else-not-has_step}
use Rattle.recording.proofs.drop_records.Goals as goal

pub loop-slot-init : goal.loop-slot-init
loop-slot-init c = record { long = search rules; halfway = at_start _ _ }

pub loop-slot-preserved : goal.loop-slot-preserved
loop-slot-preserved c =
    let v = c.loop-slot.invariant in
    elim c.if-not-has_step.branch [
      | then-not-has_step w ↦
          rw (w.records-is, w.blank_record.ensures) (record { long = length-set _ _ _ ∙ v.long; halfway = v.halfway ∙ drops _ _ _ (omega arith) (sym c.has_step.ensures ∙ w.if-not-has_step.true) })
      | else-not-has_step w ↦ rw w.records-is (record { long = length-set _ _ _ ∙ v.long; halfway = v.halfway ∙ stays_on _ _ _ _ (omega arith) (sym c.has_step.ensures ∙ w.if-not-has_step.false) })
    ]

pub returns : goal.returns
returns c = let v = c.loop-slot.invariant in sym (v.halfway ∙ at_end _ _ _ (omega arith))
