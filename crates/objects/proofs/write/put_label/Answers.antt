-- `objects::write::put_label` meets its contract: the bytes of a label are its fields.
use Rattle.objects.proofs.Stores.{bytes_are_fields}
use Rattle.objects.proofs.write.put_label.Goals as goal

pub returns : goal.returns
returns c = rw (bytes_are_fields c.args.label.now (λ k. (c.type_inv.label k).fits)) c.put_bytes.ensures
