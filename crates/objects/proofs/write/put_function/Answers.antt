-- `objects::write::put_function` meets its contract: the stores, one after the other, are the fields' bytes.
use mathlib.Core.Path.{ap, ◌∙◌}
use lib.ListN.{length}
use lib.Seq.{length-sets}
use Rattle.pool.specs.declared.Head.TheVariants.{Function}
use Rattle.std.specs.Prelude.{Ok}
use Rattle.objects.specs.Objects.{head_fields}
use Rattle.objects.proofs.Stores.{stored_all}
use Rattle.objects.proofs.write.put_function.Goals as goal

pub returns : goal.returns
returns c =
    let a = c.args in
    rw (c.put_u8-6.ensures, c.put_u16-4.ensures, c.put_u16-3.ensures, c.put_u16-2.ensures, c.put_u8-5.ensures, c.put_u32-4.ensures, c.put_u32-3.ensures, c.put_u32-2.ensures, c.put_u32.ensures, c.put_u8-4.ensures, c.put_u8-3.ensures, c.put_u8-2.ensures, c.put_u8.ensures, c.put_u16.ensures) (stored_all a.out.now 0 (head_fields (Ok (Function a.h))))

pub shape_of-out : goal.shape_of-out
shape_of-out c = ap length (returns c) ∙ simp length-sets
