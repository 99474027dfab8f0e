-- `rewrite::rewrite_all` meets its contract. The loop's invariant is Turn; the measure is what is left of the pool.
use mathlib.Core.Path.{◌∙◌}
use Rattle.octets.proofs.Laws.{Bytes}
use Rattle.pool.proofs.Walk.{size_least}
use Rattle.objects.proofs.Passed.{at_is, accepted, fine_here}
use Rattle.objects.proofs.Again.{next_is}
use Rattle.objects.proofs.Trips.{round_trip}
use Rattle.rewrite.proofs.Turn.{start, turned, ended}
use native.Mathlib.Omega.{arith}
use Rattle.rewrite.proofs.rewrite_all.Goals as goal

pub loop-at-init : goal.loop-at-init
loop-at-init c =
    start c.args.pool.now c.args.out.now (accepted c.args.pool.now c.requires.0)

pub rewrite_object-at-requires : goal.rewrite_object-at-requires
rewrite_object-at-requires c =
    let pool = c.args.pool.now in
    (at_is pool c.loop-at.at (fine_here pool c.loop-at.at c.loop-at-test.true c.loop-at.invariant.fine), omega (arith, c.requires.1, c.loop-at.invariant.long))

pub loop-at-smaller : goal.loop-at-smaller
loop-at-smaller c =
    let pool = c.args.pool.now in
    let next = c.rewrite_object-at.ensures.value ∙ next_is pool c.loop-at.at (fine_here pool c.loop-at.at c.loop-at-test.true c.loop-at.invariant.fine) in
    omega (arith, size_least pool c.loop-at.at)

pub loop-at-preserved : goal.loop-at-preserved
loop-at-preserved c =
    let pool = c.args.pool.now in
    let bytes : Bytes pool = λ k. (c.type_inv.pool k).fits in
    rw c.rewrite_object-at.ensures.value
    (turned pool c.args.out.now c.loop-at.out c.loop-at.at bytes c.requires.1 c.loop-at.invariant c.loop-at-test.true _ c.rewrite_object-at.ensures.out_after)

pub returns : goal.returns
returns c =
    let l = c.loop-at in
    let pool = c.args.pool.now in
    let bytes : Bytes pool = λ k. (c.type_inv.pool k).fits in
    rw (round_trip.written pool (record { bytes = bytes; success = c.requires.0 }))
    (ended pool c.args.out.now l.out l.at c.requires.1 c.loop-at-test.false l.invariant)

pub shape_of-out : goal.shape_of-out
shape_of-out c = c.loop-at.invariant.long
