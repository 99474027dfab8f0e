-- `message::forms::lay_bytes` meets its contract: the first bytes are laid, and the rest after them.
use mathlib.Core.Path.{◌≡◌, ap, ◌∙◌}
use mathlib.Core.List.{List, ◌++◌}
use Prim.Native.Nat.{ℕ}
use native.Mathlib.Omega.{arith}
use lib.ListN.{length, take, drop}
use lib.Seq.{take_at}
use Rattle.octets.specs.Label.{row_of}
use Rattle.octets.proofs.Cells.{length_cells}
use Rattle.message.specs.Messages.{octet_of}
use Rattle.message.proofs.Laid.{past_cells, first_fits, first_laid}
use Rattle.message.proofs.forms.lay_bytes.Goals as goal

pub lay_rest-requires-clause-out_value : goal.lay_rest-requires-clause-out_value
lay_rest-requires-clause-out_value c =
    let a = c.args in
    let f = a.form.now in
    let octet = octet_of f a.label.now a.pool.now in
    let first = c.part-first.result.now in
    let is = c.part-first.ensures ∙ ap (λ (n : ℕ). take n f.bytes) c.min.ensures in
    ap (take (length first)) (first_laid f a.label.now a.pool.now a.out.now first is c.put_bytes.new.out c.requires c.put_bytes.ensures)
    ∙ take_at (row_of (length first) octet) (drop (length first) a.out.now) (length first) (length_cells (length first) octet)

pub returns-then-first-form : goal.returns-then-first-form
returns-then-first-form c =
    let a = c.args in
    let f = a.form.now in
    let octet = octet_of f a.label.now a.pool.now in
    let first = c.part-first.result.now in
    let is = c.part-first.ensures ∙ ap (λ (n : ℕ). take n f.bytes) c.min.ensures in
    let laid = first_laid f a.label.now a.pool.now a.out.now first is c.put_bytes.new.out c.requires c.put_bytes.ensures in
    let past = past_cells a.out.now octet (length first) f.length (first_fits f a.label.now a.pool.now a.out.now first is) in
    c.lay_rest.ensures ∙ ap (λ (l : List ℕ). row_of f.length octet ++ l) (ap (drop f.length) laid ∙ past)

pub returns-else-first-form : goal.returns-else-first-form
returns-else-first-form c =
    let a = c.args in
    let f = a.form.now in
    let first = c.part-first.result.now in
    let is = c.part-first.ensures ∙ ap (λ (n : ℕ). take n f.bytes) c.min.ensures in
    let fits = first_fits f a.label.now a.pool.now a.out.now first is in
    let all : length first ≡ f.length = omega arith in
    first_laid f a.label.now a.pool.now a.out.now first is c.put_bytes.new.out c.requires c.put_bytes.ensures ∙ rw all
