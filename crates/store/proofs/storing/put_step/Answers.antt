-- `store::storing::put_step` meets its contract: the stores, one after the other, are the step's bytes.
use Rattle.store.proofs.Items.{step_stored}
use Rattle.store.proofs.storing.put_step.Goals as goal

pub returns : goal.returns
returns c =
    let a = c.args in
    rw (c.put_bytes-2.ensures, c.put_u32-2.ensures, c.put_u32.ensures, c.put_bytes.ensures) (step_stored a.step.now a.bytes.now)
