-- `objects::read::whole_at` meets its contract: its result is what the definition makes of what the callees return.
use mathlib.Core.Path.{sym}
use Rattle.objects.proofs.Whole.{whole_read}
use Rattle.objects.proofs.read.whole_at.Goals as goal

pub returns : goal.returns
returns c =
    let a = c.args in
    rw (c.list_at-list.ensures, c.label_at-second.ensures, c.label_at-first.ensures, c.head_parts-parts.ensures, c.head_at-head.ensures)
    (sym (whole_read a.s.now a.at))
