-- `objects::rewrite_object` meets its contract: its fixed part and what follows it, stored one after the other, are the object's bytes.
use mathlib.Core.Path.{ap, ◌∙◌}
use lib.ListN.{length}
use lib.Seq.{length-sets}
use Rattle.octets.proofs.Laws.{Bytes}
use Rattle.objects.specs.declared.parts.Parts.{Parts}
use Rattle.std.specs.Prelude.{Ok}
use Rattle.objects.specs.Objects.{head_fields, bytes_of_fields}
use Rattle.objects.proofs.Stores.{part_stored}
use Rattle.objects.proofs.Passed.{is_at_lem}
use Rattle.objects.proofs.Again.{taken, next_taken, out_taken}
use native.Mathlib.Omega.{arith}
use Rattle.objects.proofs.rewrite_object.Goals as goal

pub head_at-head-requires : goal.head_at-head-requires
head_at-head-requires c =
    let i = is_at_lem _ _ c.requires.0 in
    omega arith

pub overflow_add-rest : goal.overflow_add-rest
overflow_add-rest c =
    let i = is_at_lem _ _ c.requires.0 in
    omega arith

pub overflow_add-next : goal.overflow_add-next
overflow_add-next c =
    let i = is_at_lem _ _ c.requires.0 in
    omega arith

pub slice_bounds-put_head-count : goal.slice_bounds-put_head-count
slice_bounds-put_head-count c =
    let i = is_at_lem _ _ c.requires.0 in
    omega arith

pub slice_bounds-put_head-start : goal.slice_bounds-put_head-start
slice_bounds-put_head-start c = slice_bounds-put_head-count c

pub slice_bounds-put_bytes-count : goal.slice_bounds-put_bytes-count
slice_bounds-put_bytes-count c =
    omega (arith, c.size_of.ensures.value, ap (λ (p : Parts). p.fixed) c.head_parts-parts.ensures)

pub slice_bounds-put_bytes-start : goal.slice_bounds-put_bytes-start
slice_bounds-put_bytes-start c = slice_bounds-put_bytes-count c

pub slice_bounds-put_bytes-end : goal.slice_bounds-put_bytes-end
slice_bounds-put_bytes-end c =
    let t = taken _ _ _ _ _ c.requires.0 c.head_at-head.ensures c.head_parts-parts.ensures c.size_of.ensures.value in
    omega (arith, t.first, t.room)

pub put_bytes-requires : goal.put_bytes-requires
put_bytes-requires c =
    let t = taken _ _ _ _ _ c.requires.0 c.head_at-head.ensures c.head_parts-parts.ensures c.size_of.ensures.value in
    let i = is_at_lem _ _ c.requires.0 in
    let stored = part_stored c.args.at c.args.out.now c.put_head.new.out (bytes_of_fields (head_fields (Ok c.head_at-head.result))) (omega arith) c.put_head.ensures in
    omega (arith, t.first, t.room, c.requires.1, simp length-sets at (ap length stored))

pub returns : goal.returns
returns c =
    let bytes : Bytes c.args.pool.now = λ k. (c.type_inv.pool k).fits in
    let t = taken _ _ _ _ _ c.requires.0 c.head_at-head.ensures c.head_parts-parts.ensures c.size_of.ensures.value in
    let i = is_at_lem _ _ c.requires.0 in
    let stored = part_stored c.args.at c.args.out.now c.put_head.new.out (bytes_of_fields (head_fields (Ok c.head_at-head.result))) (omega arith) c.put_head.ensures in
    record { value = next_taken _ _ _ _ t; out_after = c.put_bytes.ensures ∙ rw (stored, c.head_at-head.ensures) (out_taken _ _ _ _ t bytes c.args.out.now c.requires.1) }
