-- `store::loading::load` meets its contract: 16, or what the blocks say.
use Rattle.std.proofs.Common.{◌≡◌, false, Option, ap, ◌∙◌}
use Rattle.std.specs.Option.{ok_or}
use Rattle.octets.specs.declared.numbers.Refusal.TheVariants.{NotStored}
use Rattle.sequence.specs.declared.Sequence.{Sequence}
use Rattle.store.specs.Blocks.{is_damaged}
use Rattle.store.specs.Loaded.{loaded_by}
use Rattle.store.proofs.Reasons.{damaged, answered}
use Rattle.octets.proofs.Tests.{said}
use Rattle.store.proofs.loading.load.Goals as goal

pub returns-then-is_damaged : goal.returns-then-is_damaged
returns-then-is_damaged c = damaged c.args.blocks.now (said _ _ _ c.is_damaged.ensures c.if-is_damaged.true)

pub returns : goal.returns
returns c =
    let s = c.args.blocks.now in
    let intact : is_damaged s ≡ false = said _ _ _ c.is_damaged.ensures c.if-is_damaged.false in
    ap loaded_by (c.ok_or.ensures.value ∙ ap (λ (x : Option Sequence). ok_or x NotStored) c.judged.ensures) ∙ answered s intact
