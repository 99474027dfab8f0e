-- `pool::stage_two::label_fault` meets its contract: a byte that is not right is the fault of the label.
use native.Mathlib.Omega.{arith}
use mathlib.Core.Path.{sym, ap, ◌∙◌}
use Rattle.std.specs.List.{list_all}
use Rattle.octets.proofs.Tests.{pick_true, pick_false}
use Rattle.octets.specs.Label.{label_at}
use Rattle.octets.specs.declared.label.Label.{Label}
use Rattle.pool.specs.Fields.{version_label}
use Rattle.pool.specs.StageTwo.{label_bytes, character_right}
use Rattle.pool.proofs.Faults.{characters}
use Rattle.pool.proofs.stage_two.label_fault.Goals as goal

pub shared_ref_as_front-characters_right : goal.shared_ref_as_front-characters_right
unfolding label_at
shared_ref_as_front-characters_right c = omega (arith, ap (λ (l : Label). l.length) c.version_label-label.ensures)

pub returns-then-not-characters_right : goal.returns-then-not-characters_right
returns-then-not-characters_right c =
    let all = ap (λ (l : Label). list_all character_right (label_bytes l)) (sym c.version_label-label.ensures) in
    sym (characters (label_bytes (version_label c.args.s.now c.args.b)) ∙ pick_false _ _ _ (all ∙ sym c.characters_right.ensures ∙ c.if-not-characters_right.true))

pub returns : goal.returns
returns c =
    let all = ap (λ (l : Label). list_all character_right (label_bytes l)) (sym c.version_label-label.ensures) in
    sym (characters (label_bytes (version_label c.args.s.now c.args.b)) ∙ pick_true _ _ _ (all ∙ sym c.characters_right.ensures ∙ c.if-not-characters_right.false))
