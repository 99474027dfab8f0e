-- `store::storing::seal` meets its contract: the zeros and the check, over what stands there.
use Rattle.std.proofs.Common.{◌≡◌, ℕ, ◌-◌, drop, replicate, ap, ◌∙◌, arith, length-drop}
use Rattle.std.proofs.lemmas.List.{length-take-le}
use Rattle.store.proofs.Blocks.{sealed_stored}
use Rattle.store.proofs.storing.seal.Goals as goal

pub returns : goal.returns
returns c =
    let a = c.args in
    let zeros : c.fill.new.self ≡ replicate (508 - a.used) 0 =
    c.fill.ensures.after (λ y e. e) ∙ ap (λ (n : ℕ). replicate n 0) (length-take-le (508 - a.used) (drop a.used a.block.now) (omega (arith, length-drop a.used a.block.now))) in
    c.put_u32.ensures ∙ sealed_stored a.block.now a.used a.number c.requires.0 c.requires.1 c.fill.new.self zeros c.check_of-check.result c.check_of-check.ensures
