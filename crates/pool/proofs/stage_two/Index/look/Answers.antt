-- `pool::stage_two::Index::look` meets its contract. The loop's invariant: of the states from here on none is absent and no two are alike, and the set
-- is theirs.
use Prim.Native.Nat.{ℕ, ◌+◌, ◌-◌, ◌<◌}
use native.Mathlib.Omega.{arith}
use mathlib.Core.Path.{◌≡◌, refl, sym, ap, subst, ◌∙◌}
use lib.ListN.{length, get_or}
use Rattle.pool.specs.Fields.{state_type, id_at, numbers_at}
use Rattle.pool.specs.StageTwo.{object_of}
use Rattle.pool.proofs.Lists.{length_numbers}
use Rattle.pool.proofs.Looks.{RightFrom, right_end, right_next, right_whole}
use Rattle.pool.proofs.stage_two.Index.look.Goals as goal

pub loop-k-init : goal.loop-k-init
loop-k-init c =
    let a = c.args in
    let s = a.self.now.pool.now in
    right_end s a.self.now.places.now (numbers_at 2 s a.list.at a.list.count) a.list.count (omega (arith, length_numbers 2 s a.list.at a.list.count))

pub loop-k-preserved : goal.loop-k-preserved
loop-k-preserved c =
    let i = c.loop-k in
    let a = c.args in
    let s = a.self.now.pool.now in
    let ps = a.self.now.places.now in
    let l = numbers_at 2 s a.list.at a.list.count in
    let k : ℕ = i.k - 1 in
    let e : i.k ≡ k + 1 = omega arith in
    let h : k < length l = omega (arith, length_numbers 2 s a.list.at a.list.count) in
    let p = c.in_ok-p.p in
    let is : p ≡ object_of s ps state_type (get_or l k 0) = c.in_ok-p.ensures.place ∙ ap (object_of s ps state_type) c.number.ensures in
    let there : p < length s = omega (arith, c.in_ok-p.ensures.within) in
    let later : RightFrom s ps l (k + 1) i.ids = subst (λ (j : ℕ). RightFrom s ps l j i.ids) e i.invariant in
    let new = sym c.has_bit.ensures ∙ c.if-has_bit.false in
    rw c.with_bit-ids.ensures (right_next s ps l k i.ids (id_at s p) p h later is there refl (omega arith) new)

pub returns : goal.returns
returns c =
    let i = c.loop-k in
    let a = c.args in
    let s = a.self.now.pool.now in
    let ps = a.self.now.places.now in
    let l = numbers_at 2 s a.list.at a.list.count in
    let e : i.k ≡ 0 = omega arith in
    right_whole s ps l i.ids (subst (λ (j : ℕ). RightFrom s ps l j i.ids) e i.invariant)
