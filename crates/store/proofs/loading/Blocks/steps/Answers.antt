-- `store::loading::Blocks::steps` meets its contract.
use Rattle.std.proofs.Common.{◌≡◌, ℕ, Bool, List, length, drop, arith, rules}
use Rattle.client.specs.declared.ClientRecord.{ClientRecord}
use Rattle.sequence.specs.declared.Step.{Step}
use Rattle.store.specs.Blocks.{step_place}
use Rattle.store.specs.Fields.{step_right}
use Rattle.store.specs.Loaded.{step_at, step_blank}
use Rattle.store.specs.Taken.{step_taken}
use Rattle.store.proofs.Below.{every_next, every_fails}
use Rattle.store.proofs.Taking.{ReadStep, step_wrong, step_alone, step_taken_lem, step_stored}
use Rattle.store.proofs.loading.Blocks.steps.Goals as goal

-- the step that the loop looks at, once its fields and its fill are tested
found :
    (s : List ℕ) (c k : ℕ) (bytes : List ℕ) (x : Step) (r b : Bool) → bytes ≡ drop (step_place c k) s → x ≡ step_at bytes 0 → r ≡ step_right x → b ≡ step_blank bytes 0
    → ReadStep s c k bytes x r b
found s c k bytes x r b e f g h = record { at = e; read = f; right = g; blank = h }

abbrev taken : List ℕ → List ClientRecord → ℕ → ℕ → Bool
taken s records c j = step_taken s records (step_place c j)

pub returns-then-not-step_right-is_blank : goal.returns-then-not-step_right-is_blank
returns-then-not-step_right-is_blank c =
    let b = c.args.self.now in
    let records = c.args.records.now in
    let i = found b.bytes.now b.counts.clients c.loop-k.k _ _ _ _ c.step-bytes.ensures c.step_at-step.ensures c.step_right.ensures c.is_blank.ensures in
    rw (every_fails (taken b.bytes.now records b.counts.clients) b.counts.steps c.loop-k.k (omega arith) (step_wrong i records c.if-not-step_right-is_blank.true))

pub returns-then-records-from-eq0 : goal.returns-then-records-from-eq0
returns-then-records-from-eq0 c =
    let b = c.args.self.now in
    let records = c.args.records.now in
    let long : length records ≡ 8 = search rules in
    let i = found b.bytes.now b.counts.clients c.loop-k.k _ _ _ _ c.step-bytes.ensures c.step_at-step.ensures c.step_right.ensures c.is_blank.ensures in
    let alone = step_alone i c.if-not-step_right-is_blank.false records long _ (rw c.from.ensures at c.if-records-from-eq0.true) in
    rw (every_fails (taken b.bytes.now records b.counts.clients) b.counts.steps c.loop-k.k (omega arith) alone)

pub loop-k-preserved : goal.loop-k-preserved
loop-k-preserved c =
    let b = c.args.self.now in
    let records = c.args.records.now in
    let long : length records ≡ 8 = search rules in
    let i = found b.bytes.now b.counts.clients c.loop-k.k _ _ _ _ c.step-bytes.ensures c.step_at-step.ensures c.step_right.ensures c.is_blank.ensures in
    let v = c.loop-k.invariant in
    let e = step_taken_lem i c.if-not-step_right-is_blank.false records long _ (rw c.from.ensures at c.if-records-from-eq0.false) in
    (every_next (taken b.bytes.now records b.counts.clients) c.loop-k.k v.0 e, rw v.1 (step_stored i (omega arith)))
