-- `store::storing::store_bytes` meets its contract.
use Rattle.std.proofs.Common.{◌≡◌, length, sym, ap, ◌∙◌, arith, rules}
use Rattle.std.proofs.lemmas.List.{length-take-le}
use Rattle.store.specs.Stored.{slots_in}
use Rattle.store.proofs.Contents.{stores_none, stores_some}
use Rattle.store.proofs.storing.store_bytes.Goals as goal

pub returns-then-len-eq0 : goal.returns-then-len-eq0
returns-then-len-eq0 c = stores_none c.args.q.now (sym c.len.ensures ∙ c.if-len-eq0.true)

pub returns : goal.returns
returns c =
    let u = c.new.result in
    let long : length u.cells ≡ 8 = search rules in
    let few = u.few in
    let clients : length (slots_in c.args.q.now.records) ≡ u.count = sym (ap length c.new.ensures) ∙ length-take-le u.count u.cells (omega arith) in
    rw (c.blocks-2.ensures, ← clients, c.len-2.ensures) (stores_some c.args.q.now (λ z. c.if-len-eq0.false (c.len.ensures ∙ z)))
