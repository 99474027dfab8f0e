-- `pool::stage_two::chain_of` meets its contract. The loop's invariant: the chains of the objects from place k on are built.
use Prim.Native.Nat.{ℕ, ◌+◌, ◌-◌}
use native.Mathlib.Omega.{arith}
use mathlib.Core.Path.{◌≡◌, subst, ap}
use lib.ListN.{length, length-set}
use Rattle.pool.specs.Search.Index.{Heads, Links}
use Rattle.pool.proofs.Index.{heads_none, heads_grown, links_grown, unused_none, unused_grown}
use Rattle.pool.proofs.stage_two.chain_of.Goals as goal

pub loop-k-init : goal.loop-k-init
loop-k-init c =
    let a = c.args in
    let e = c.requires.3 in
    record {
      heads = rw e (heads_none a.s.now a.ps.now);
      links = λ j h l. let z : ⊥ = omega arith in elim z [ ];
      long = ap length e;
      unused = rw e (unused_none a.ps.now);
    }

-- at the place stand 8 bytes at least
pub u16_in-requires : goal.u16_in-requires
u16_in-requires c =
    omega (arith, c.requires.2 (c.loop-k.k - 1) (omega arith))

pub loop-k-preserved : goal.loop-k-preserved
loop-k-preserved c =
    let i = c.loop-k in
    let a = c.args in
    let s = a.s.now in
    let ps = a.ps.now in
    let k : ℕ = i.k - 1 in
    let e : i.k ≡ k + 1 = omega arith in
    let heads : Heads s ps i.chain (k + 1) = subst (λ (j : ℕ). Heads s ps i.chain j) e i.invariant.heads in
    let links : Links s ps i.chain (k + 1) = subst (λ (j : ℕ). Links s ps i.chain j) e i.invariant.links in
    record {
      heads = rw c.u16_in.ensures (heads_grown s ps i.chain k i.invariant.long (omega arith) (omega arith) heads);
      links = rw c.u16_in.ensures (links_grown s ps i.chain k i.invariant.long (omega arith) (omega arith) heads links);
      long = simp length-set i.invariant.long;
      unused = rw c.u16_in.ensures (unused_grown s ps i.chain k i.invariant.long (omega arith) (omega arith) heads i.invariant.unused);
    }
