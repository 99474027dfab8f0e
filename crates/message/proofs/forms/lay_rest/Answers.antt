-- `message::forms::lay_rest` meets its contract: the body is copied, and what is left after it laid byte by byte. The loop's invariant: the bytes before
-- i are laid.
use mathlib.Core.Path.{◌≡◌, ap, ◌∙◌}
use mathlib.Core.List.{◌++◌}
use Prim.Native.Nat.{ℕ, ◌-◌, ◌≤◌}
use native.Mathlib.Omega.{arith}
use lib.ListN.{length, take, drop}
use Rattle.octets.specs.Label.{row_of}
use Rattle.octets.proofs.Cells.{next_in}
use Rattle.message.specs.Messages.{octet_of}
use Rattle.message.proofs.Laid.{filled, short, body_belongs}
use Rattle.message.proofs.forms.lay_rest.Goals as goal

pub loop-i-init : goal.loop-i-init
loop-i-init c =
    let a = c.args in
    let f = a.form.now in
    let body = c.part-body.result.now in
    let is = c.part-body.ensures ∙ ap (take (f.length - a.from)) c.body_at.ensures in
    let fits : length body ≤ f.length - a.from = short (f.length - a.from) _ body is in
    c.put_bytes.ensures ∙ filled a.out.now (octet_of f a.label.now a.pool.now) a.from body (omega arith) c.requires.out_value (body_belongs f a.label.now a.pool.now (f.length - a.from) a.from body is)

pub loop-i-preserved : goal.loop-i-preserved
loop-i-preserved c =
    let a = c.args in
    rw (c.loop-i.invariant, c.octet_of.ensures) (next_in a.out.now (octet_of a.form.now a.label.now a.pool.now) c.loop-i.i (omega arith))

pub returns : goal.returns
returns c =
    let a = c.args in
    let f = a.form.now in
    let body = c.part-body.result.now in
    let fits : length body ≤ f.length - a.from = short (f.length - a.from) _ body c.part-body.ensures in
    let end : c.loop-i.i ≡ f.length = omega arith in
    c.loop-i.invariant ∙ ap (λ (j : ℕ). row_of j (octet_of f a.label.now a.pool.now) ++ drop j a.out.now) end
