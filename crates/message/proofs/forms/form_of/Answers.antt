-- `message::forms::form_of` meets its contract: the library's bytes of a number are the definition's.
use mathlib.Core.Path.{◌∙◌}
use Rattle.octets.proofs.Laws.{bytes_of_two, bytes_of_four}
use Rattle.message.proofs.forms.form_of.Goals as goal

pub returns-in-MemoryRequest : goal.returns-in-MemoryRequest
returns-in-MemoryRequest c =
    let m = c.in-MemoryRequest in
    rw (m.is, bytes_of_four m.m) (c.of_eight-in-MemoryRequest.ensures ∙ rw c.to_le_bytes.ensures)

pub returns-in-PoolAcknowledgement : goal.returns-in-PoolAcknowledgement
returns-in-PoolAcknowledgement c =
    let m = c.in-PoolAcknowledgement in
    rw (m.is, bytes_of_two m.object) (c.of_eight-in-PoolAcknowledgement.ensures ∙ rw (c.to_le_bytes-in-PoolAcknowledgement.ensures, c.is_pool_code.ensures))
