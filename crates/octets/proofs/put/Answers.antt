-- `octets::put` meets its contract: the bytes past the end are not stored.
use mathlib.Core.Path.{sym, ◌∙◌}
use native.Mathlib.Omega.{arith}
use Rattle.octets.specs.Octets.{bytes_of}
use Rattle.octets.proofs.Laws.{sets_past, put_cut}
use Rattle.octets.proofs.put.Goals as goal

pub returns-then-i-out : goal.returns-then-i-out
returns-then-i-out c =
    let a = c.args in
    c.put_in-then-i-out.ensures ∙ put_cut a.out.now a.i a.width _ a.v (omega arith) (omega arith)

pub returns-else-i-out : goal.returns-else-i-out
returns-else-i-out c =
    let a = c.args in
    sym (sets_past a.out.now a.i (bytes_of a.width a.v) c.if-i-out.false)
