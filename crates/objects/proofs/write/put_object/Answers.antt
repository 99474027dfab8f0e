-- `objects::write::put_object` meets its contract: the four parts, one after the other, are the object's bytes.
use mathlib.Core.Path.{◌≡◌, sym}
use lib.ListN.{length}
use lib.Seq.{length-take-le}
use Rattle.objects.specs.Objects.{parts_of}
use Rattle.objects.proofs.Limits.{all_stored}
use borrow.Author.Rules.{rules}
use native.Mathlib.Omega.{arith}
use Rattle.objects.proofs.write.put_object.Goals as goal

pub returns : goal.returns
returns c =
    let o = c.args.object.now in
    let v : length o.version ≡ 63 = search rules in
    let w : length o.configuration ≡ 63 = search rules in
    let n = length-take-le (parts_of o.kind).version o.version (omega (arith, c.requires.labels.0, v)) in
    let m = length-take-le (parts_of o.kind).configuration o.configuration (omega (arith, c.requires.labels.1, w)) in
    rw (c.put_list.ensures, c.put_label-2.ensures, c.put_label.ensures, c.put_fixed.ensures, c.parts_of-parts.ensures, n, m)
    (sym (all_stored o (omega (arith, c.requires.labels.0, v)) (omega (arith, c.requires.labels.1, w)) c.args.out.now))
