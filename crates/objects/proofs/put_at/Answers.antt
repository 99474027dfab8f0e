-- `objects::put_at` meets its contract: the tests that led to a return say which case of the definition holds.
use mathlib.Core.Path.{◌≡◌, sym, ◌∙◌}
use mathlib.Core.Bool.{true, false}
use borrow.Author.Tests.{ltb-false}
use Rattle.octets.specs.Pick.{pick}
use Rattle.objects.specs.Objects.{encode, no_room, legal, write_answer, write_out}
use Rattle.objects.proofs.Stores.{part_stored}
use Rattle.objects.proofs.Limits.{right_short, is_legal}
use native.Mathlib.Omega.{arith}
use Rattle.objects.proofs.put_at.Goals as goal

pub returns-then-no_room : goal.returns-then-no_room
unfolding write_answer write_out pick
returns-then-no_room c =
    let full = sym c.no_room.ensures ∙ c.if-no_room.true in
    record { value = rw full; out_after = rw full }

pub returns-then-not-is_legal : goal.returns-then-not-is_legal
unfolding write_answer write_out pick
returns-then-not-is_legal c =
    let room = sym c.no_room.ensures ∙ c.if-no_room.false in
    let illegal = sym c.is_legal.ensures ∙ c.if-not-is_legal.true in
    record { value = rw (room, illegal); out_after = rw (room, illegal) }

pub slice_bounds-put_object-count : goal.slice_bounds-put_object-count
slice_bounds-put_object-count c =
    let room = sym c.no_room.ensures ∙ c.if-no_room.false in
    omega (arith, ltb-false)

pub slice_bounds-put_object-start : goal.slice_bounds-put_object-start
slice_bounds-put_object-start c = slice_bounds-put_object-count c

pub put_object-requires : goal.put_object-requires
put_object-requires c =
    let o = c.args.object.now in
    let s = right_short o.kind (is_legal o (sym c.is_legal.ensures ∙ c.if-not-is_legal.false)).kind in
    let room = sym c.no_room.ensures ∙ c.if-no_room.false in
    record { labels = (s.version, s.configuration); room = omega (arith, ltb-false) }

pub overflow_add-result : goal.overflow_add-result
overflow_add-result c =
    let room = sym c.no_room.ensures ∙ c.if-no_room.false in
    omega (arith, ltb-false)

pub returns : goal.returns
unfolding write_answer write_out pick
returns c =
    let a = c.args in
    let room : no_room a.object.now a.out.now a.at ≡ false = sym c.no_room.ensures ∙ c.if-no_room.false in
    let right : legal a.object.now ≡ true = sym c.is_legal.ensures ∙ c.if-not-is_legal.false in
    record { value = rw (room, right, c.size_of.ensures.value); out_after = rw (room, right) (part_stored a.at a.out.now c.put_object.new.out (encode a.object.now) (omega (arith, ltb-false)) c.put_object.ensures) }
