-- `store::loading::Blocks::records` meets its contract.
use Rattle.std.proofs.Common.{◌≡◌, ℕ, Bool, List, drop, ◌∙◌, arith}
use Rattle.store.specs.Blocks.{client_place}
use Rattle.store.specs.Loaded.{client_right, client_blank}
use Rattle.store.specs.Taken.{client_taken}
use Rattle.store.proofs.Below.{every_next, every_fails}
use Rattle.store.proofs.Taking.{ReadClient, client_wrong, slot_small, client_twice, client_taken_lem, client_stored}
use Rattle.store.proofs.loading.Blocks.records.Goals as goal

-- the client record that the loop looks at, once its fields and its fill are tested
found :
    (s : List ℕ) (k : ℕ) (bytes : List ℕ) (r b : Bool) → bytes ≡ drop (client_place k) s → r ≡ client_right bytes 0 → b ≡ client_blank bytes 0
    → ReadClient s k bytes r b
found s k bytes r b e f g = record { at = e; right = f; blank = g }

pub returns-then-not-client_right-client_blank : goal.returns-then-not-client_right-client_blank
returns-then-not-client_right-client_blank c =
    let b = c.args.self.now in
    let i = found b.bytes.now c.loop-k.k _ _ _ c.client-record.ensures c.client_right.ensures c.client_blank.ensures in
    rw (every_fails (client_taken b.bytes.now) b.counts.clients c.loop-k.k (omega arith) (client_wrong i c.if-not-client_right-client_blank.true))

pub bounds-records-slot : goal.bounds-records-slot
bounds-records-slot c =
    let i = found c.args.self.now.bytes.now c.loop-k.k _ _ _ c.client-record.ensures c.client_right.ensures c.client_blank.ensures in
    slot_small i c.if-not-client_right-client_blank.false _ (c.from-slot.ensures ∙ c.client_slot.ensures)

pub returns-then-records-slot-ne0 : goal.returns-then-records-slot-ne0
returns-then-records-slot-ne0 c =
    let b = c.args.self.now in
    let i = found b.bytes.now c.loop-k.k _ _ _ c.client-record.ensures c.client_right.ensures c.client_blank.ensures in
    let twice = client_twice i c.if-not-client_right-client_blank.false _ (c.from-slot.ensures ∙ c.client_slot.ensures) _ c.loop-k.invariant.1 _ c.if-records-slot-ne0.true in
    rw (every_fails (client_taken b.bytes.now) b.counts.clients c.loop-k.k (omega arith) twice)

pub bounds-records-slot-in-loop-k : goal.bounds-records-slot-in-loop-k
bounds-records-slot-in-loop-k c =
    let i = found c.args.self.now.bytes.now c.loop-k.k _ _ _ c.client-record.ensures c.client_right.ensures c.client_blank.ensures in
    slot_small i c.if-not-client_right-client_blank.false _ (c.from-slot.ensures ∙ c.client_slot.ensures)

pub loop-k-preserved : goal.loop-k-preserved
loop-k-preserved c =
    let s = c.args.self.now.bytes.now in
    let i = found s c.loop-k.k _ _ _ c.client-record.ensures c.client_right.ensures c.client_blank.ensures in
    let v = c.loop-k.invariant in
    let t = c.if-not-client_right-client_blank.false in
    let same = c.from-slot.ensures ∙ c.client_slot.ensures in
    let e = client_taken_lem i t _ same _ v.1 _ c.if-records-slot-ne0.false in
    (every_next (client_taken s) c.loop-k.k v.0 e, client_stored i t _ same _ v.1 _ c.client_at.ensures)
