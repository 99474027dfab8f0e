-- `store::storing::put_clients` meets its contract.
use Rattle.std.proofs.Common.{◌≡◌, ℕ, ◌*◌, ◌<◌, ◌≤◌, List, [], length, get_or, refl, sym, ap, ◌∙◌, arith}
use Rattle.std.proofs.lemmas.List.{get_or-map, length-map, take_all}
use Rattle.arrays.proofs.Every.{every_at}
use Rattle.arrays.proofs.Pad.{any_default}
use Rattle.client.specs.Records.{blank_record}
use Rattle.store.specs.Stored.{client_bytes, clients_at, joined}
use Rattle.store.proofs.Groups.{item_put, item_more, item_end}
use Rattle.store.proofs.storing.put_clients.Goals as goal

pub loop-j-preserved : goal.loop-j-preserved
loop-j-preserved c =
    let l = c.loop-j in
    let a = c.args in
    let slots = a.slots.now in
    let records = a.records.now in
    let items = clients_at slots records in
    let small : get_or slots l.j 0 < 8 = every_at (λ x. x < 8) slots l.j 0 (omega arith) c.requires.within in
    let less : l.j < length items = omega (arith, length-map slots (λ (slot : ℕ). client_bytes slot (get_or records slot blank_record))) in
    let here =
    get_or-map (λ (slot : ℕ). client_bytes slot (get_or records slot blank_record)) slots l.j 0 [] (omega arith)
    ∙ ap (client_bytes (get_or slots l.j 0)) (any_default records (get_or slots l.j 0) blank_record _ (omega arith) ∙ ap (λ (k : ℕ). get_or records k _) (sym c.from.ensures)) in
    let k = c.put_client.ensures in (
      item_put 148 items l.j _ _ l.block _ _ less here k.width refl (omega arith) l.invariant.0 k.stored,
      item_more 148 items l.j l.block _ less here k.width l.invariant.1,
    )

pub returns-clause-stored : goal.returns-clause-stored
returns-clause-stored c =
    let l = c.loop-j in
    let items = clients_at c.args.slots.now c.args.records.now in
    sym (l.invariant.0 ∙ item_end 148 items l.j l.block (omega (arith, length-map c.args.slots.now (λ (slot : ℕ). client_bytes slot (get_or c.args.records.now slot blank_record)))))

pub returns-clause-width : goal.returns-clause-width
returns-clause-width c =
    let l = c.loop-j in
    let items = clients_at c.args.slots.now c.args.records.now in
    let long : length items ≤ l.j = omega (arith, length-map c.args.slots.now (λ (slot : ℕ). client_bytes slot (get_or c.args.records.now slot blank_record))) in
    let e : l.j ≡ length c.args.slots.now = omega arith in
    sym (ap (λ (k : List (List ℕ)). length (joined k)) (take_all l.j items long)) ∙ l.invariant.1 ∙ ap (λ (k : ℕ). 148 * k) e
