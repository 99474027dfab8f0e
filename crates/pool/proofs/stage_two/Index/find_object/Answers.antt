-- `pool::stage_two::Index::find_object` meets its contract. The loop's invariant: the first such object is the first from here, and here is in its
-- number's chain.
use native.Mathlib.Omega.{arith}
use mathlib.Core.Path.{◌≡◌, sym, ◌∙◌}
use mathlib.Core.Bool.{true, false}
use lib.ListN.{length, get_or}
use Rattle.pool.specs.StageTwo.{is_object, object_of}
use Rattle.pool.proofs.Lists.{find_end, find_here}
use Rattle.pool.proofs.Index.{chain_start, chain_later, chain_next}
use Rattle.pool.proofs.stage_two.Index.find_object.Goals as goal

pub loop-i-init : goal.loop-i-init
loop-i-init c =
    let x = c.args.self.now in
    let o = chain_start x.pool.now x.places.now x.chain.now x.indexed c.args.kind c.args.n in
    (o.same, o.holds)

-- at the place stand 8 bytes at least
pub u16_in-number-requires : goal.u16_in-number-requires
u16_in-number-requires c =
    omega (arith, c.args.self.now.indexed.within c.loop-i.i (omega arith))

pub bounds-self-p : goal.bounds-self-p
bounds-self-p c =
    omega (arith, c.args.self.now.indexed.within c.loop-i.i (omega arith))

pub returns-then-number-n : goal.returns-then-number-n
unfolding is_object object_of
returns-then-number-n c =
    let i = c.loop-i in
    let a = c.args in
    let x = a.self.now in
    let e : is_object x.pool.now a.kind a.n (get_or x.places.now i.i 0) ≡ true =
    simp (← c.u16_in-number.ensures) c.if-number-n.true in
    record {
      place = sym (i.invariant.0 ∙ find_here (is_object x.pool.now a.kind a.n) x.places.now (length x.pool.now) i.i (omega arith) e);
      within = omega (arith, x.indexed.within i.i (omega arith));
    }

pub loop-i-smaller : goal.loop-i-smaller
loop-i-smaller c =
    let i = c.loop-i in
    let a = c.args in
    let x = a.self.now in
    omega (arith, chain_later x.pool.now x.places.now x.chain.now x.indexed a.kind a.n i.i (omega arith) (record { same = i.invariant.0; holds = i.invariant.1 }))

pub loop-i-preserved : goal.loop-i-preserved
unfolding is_object
loop-i-preserved c =
    let i = c.loop-i in
    let a = c.args in
    let x = a.self.now in
    let e : is_object x.pool.now a.kind a.n (get_or x.places.now i.i 0) ≡ false =
    simp (← c.u16_in-number.ensures) c.if-number-n.false in
    let o = chain_next x.pool.now x.places.now x.chain.now x.indexed a.kind a.n i.i (omega arith) (record { same = i.invariant.0; holds = i.invariant.1 }) e in
    (o.same, o.holds)

pub returns-clause-place : goal.returns-clause-place
unfolding object_of
returns-clause-place c =
    let i = c.loop-i in
    let a = c.args in
    let x = a.self.now in
    sym (i.invariant.0 ∙ find_end (is_object x.pool.now a.kind a.n) x.places.now (length x.pool.now) i.i (omega arith))
