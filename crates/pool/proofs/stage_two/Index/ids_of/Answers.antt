-- `pool::stage_two::Index::ids_of` meets its contract. The loop's invariant: the IDs of the numbers passed stand at the front.
use native.Mathlib.Omega.{arith}
use mathlib.Core.Path.{◌≡◌, ◌∙◌}
use lib.ListN.{get_or, length-set}
use Rattle.pool.specs.Types.{type_number}
use Rattle.pool.specs.Fields.{numbers_at}
use Rattle.pool.specs.StageTwo.{id_of}
use Rattle.pool.proofs.Lists.{length_numbers, gather, gathered, blank_after}
use Rattle.pool.proofs.stage_two.Index.ids_of.Goals as goal

pub loop-k-preserved : goal.loop-k-preserved
unfolding id_of
loop-k-preserved c =
    let i = c.loop-k in
    let a = c.args in
    let s = a.self.now.pool.now in
    let ps = a.self.now.places.now in
    let l = numbers_at 2 s a.list.at a.list.count in
    let v : c.id_at.result ≡ id_of s ps (type_number a.kind) (get_or l i.k 0) = c.id_at.ensures ∙ rw (c.place_of-p.ensures.place, c.number.ensures) in
    record {
      front = gather (id_of s ps (type_number a.kind)) l i.ids i.k c.id_at.result (omega arith) (omega (arith, length_numbers 2 s a.list.at a.list.count)) i.invariant.front v;
      long = simp length-set i.invariant.long;
      blank = blank_after i.ids i.k c.id_at.result 255 (omega arith) i.invariant.blank;
    }

pub returns : goal.returns
returns c =
    let i = c.loop-k in
    let a = c.args in
    let s = a.self.now.pool.now in
    let ps = a.self.now.places.now in
    let l = numbers_at 2 s a.list.at a.list.count in
    let same : a.list.count ≡ i.k = omega arith in
    (gathered (id_of s ps (type_number a.kind)) l i.ids i.k a.list.count (omega arith) (omega arith) (length_numbers 2 s a.list.at a.list.count) i.invariant.front, rw same i.invariant.blank)
