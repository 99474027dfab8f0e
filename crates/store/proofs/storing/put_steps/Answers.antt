-- `store::storing::put_steps` meets its contract.
use Rattle.std.proofs.Common.{ℕ, ◌*◌, ◌<◌, List, [], ◌∷◌, length, map, refl, ap, ◌∙◌, arith}
use Rattle.std.proofs.lemmas.List.{get_or-map, length-map}
use Rattle.sequence.specs.declared.Step.{Step}
use Rattle.store.specs.Stored.{step_bytes}
use Rattle.store.proofs.Items.{step_length}
use Rattle.store.proofs.Groups.{Wide, length_joined, item_put}
use Rattle.store.proofs.storing.put_steps.Goals as goal

wide : (l : List Step) → Wide 16 (map step_bytes l)
wide [] = tt
wide (s ∷ l) = (step_length s, wide l)

pub returns-clause-width : goal.returns-clause-width
returns-clause-width c = length_joined 16 (map step_bytes c.args.steps.now) (wide c.args.steps.now) ∙ ap (λ (n : ℕ). 16 * n) (length-map c.args.steps.now step_bytes)

pub loop-j-preserved : goal.loop-j-preserved
loop-j-preserved c =
    let l = c.loop-j in
    let a = c.args in
    let steps = a.steps.now in
    let items = map step_bytes steps in
    let less : l.j < length items = omega (arith, length-map steps step_bytes) in
    let here = get_or-map step_bytes steps l.j _ [] (omega arith) in
    item_put 16 items l.j _ _ l.block _ _ less here (step_length _) refl (omega arith) l.invariant c.put_step.ensures
