-- `store::loading::judged` meets its contract: what a test or a loop found is a reason for 17, or none of them found anything.
use Rattle.std.proofs.Common.{◌≡◌, ℕ, true, List, sym, ◌∙◌}
use Rattle.octets.specs.Octets.{number_at}
use Rattle.store.specs.Loaded.{counts_right}
use Rattle.store.proofs.Reasons.{less_in, refused, counts_wrong, shape_wrong, head_right, wrong_client, wrong_step, wrong_rest, accepted}
use Rattle.store.proofs.loading.judged.Goals as goal

-- as it is read
read : (s : List ℕ) (less : ℕ) → less ≡ number_at 4 s 8 → less ≡ less_in s
read s less e = e

-- the counts that are taken
right : (a b c n : ℕ) → true ≡ counts_right a b → (c ≡ a) × (n ≡ b) → counts_right c n ≡ true
right a b c n e f = rw (f.0, f.1) (sym e)

pub returns-in_err-counts : goal.returns-in_err-counts
returns-in_err-counts c =
    c.from_residual.ensures ∙ refused c.args.bytes.now (counts_wrong _ c.u32_at.ensures c.u32_at-2.ensures (sym c.in_err-counts.ensures.right))

pub returns-then-not-bytes-blocks : goal.returns-then-not-bytes-blocks
returns-then-not-bytes-blocks c =
    let k = c.in_ok-counts.ensures in
    refused c.args.bytes.now
    (shape_wrong _ (k.value.0 ∙ c.u32_at.ensures) (k.value.1 ∙ c.u32_at-2.ensures) (right _ _ _ _ k.right k.value) (read _ _ c.u32_at-less.ensures) c.blocks-2.ensures c.if-not-bytes-blocks.true)

pub returns-in_err-records : goal.returns-in_err-records
returns-in_err-records c =
    let k = c.in_ok-counts.ensures in
    let head = head_right c.args.bytes.now (k.value.0 ∙ c.u32_at.ensures) (k.value.1 ∙ c.u32_at-2.ensures) (right _ _ _ _ k.right k.value) (read _ _ c.u32_at-less.ensures) c.blocks-2.ensures c.if-not-bytes-blocks.false in
    c.from_residual-in_err-records.ensures ∙ refused c.args.bytes.now (wrong_client head (sym c.in_err-records.ensures))

pub returns-in_err-steps : goal.returns-in_err-steps
returns-in_err-steps c =
    let k = c.in_ok-counts.ensures in
    let head = head_right c.args.bytes.now (k.value.0 ∙ c.u32_at.ensures) (k.value.1 ∙ c.u32_at-2.ensures) (right _ _ _ _ k.right k.value) (read _ _ c.u32_at-less.ensures) c.blocks-2.ensures c.if-not-bytes-blocks.false in
    c.from_residual-in_err-steps.ensures ∙ refused c.args.bytes.now (wrong_step head _ (sym c.in_ok-records.ensures) (sym c.in_err-steps.ensures))

pub returns-then-not-rest_blank-has_each_step : goal.returns-then-not-rest_blank-has_each_step
returns-then-not-rest_blank-has_each_step c =
    let k = c.in_ok-counts.ensures in
    let head = head_right c.args.bytes.now (k.value.0 ∙ c.u32_at.ensures) (k.value.1 ∙ c.u32_at-2.ensures) (right _ _ _ _ k.right k.value) (read _ _ c.u32_at-less.ensures) c.blocks-2.ensures c.if-not-bytes-blocks.false in
    refused c.args.bytes.now
    (wrong_rest head _ (sym c.in_ok-records.ensures) _ (sym c.in_ok-steps.ensures) _ _ c.rest_blank.ensures c.has_each_step.ensures c.if-not-rest_blank-has_each_step.true)

pub returns : goal.returns
returns c =
    let k = c.in_ok-counts.ensures in
    let head = head_right c.args.bytes.now (k.value.0 ∙ c.u32_at.ensures) (k.value.1 ∙ c.u32_at-2.ensures) (right _ _ _ _ k.right k.value) (read _ _ c.u32_at-less.ensures) c.blocks-2.ensures c.if-not-bytes-blocks.false in
    accepted head _ (sym c.in_ok-records.ensures) _ (sym c.in_ok-steps.ensures) _ _ c.rest_blank.ensures c.has_each_step.ensures c.if-not-rest_blank-has_each_step.false
