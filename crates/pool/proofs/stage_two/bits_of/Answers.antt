-- `pool::stage_two::bits_of` meets its contract. The loop's invariant: the bits are the set of the IDs from here on.
use Prim.Native.Nat.{ℕ, ◌+◌, ◌-◌, ◌≤◌, ◌<◌}
use native.Mathlib.Omega.{arith}
use mathlib.Core.Path.{◌≡◌, sym, ◌∙◌}
use mathlib.Core.List.{List}
use lib.ListN.{length, get_or, drop}
use lib.Dec.{ltb}
use borrow.Author.Tests.{lt-ltb, le-ltb}
use Rattle.octets.specs.Pick.{pick}
use Rattle.octets.specs.Bits.{with_bit, bits_of}
use Rattle.octets.proofs.BitLaws.{bits_end, bits_next}
use Rattle.pool.proofs.stage_two.bits_of.Goals as goal

-- the IDs from the last but one on
step : (ids : List ℕ) (k : ℕ) → 0 < k → k ≤ length ids → bits_of (drop (k - 1) ids) ≡ pick (ltb (get_or ids (k - 1) 0) 64) (with_bit (bits_of (drop k ids)) (get_or ids (k - 1) 0)) (bits_of (drop k ids))
step ids k h0 hk =
    let e : k ≡ k - 1 + 1 = omega arith in
    bits_next ids (k - 1) (omega arith) ∙ rw (← e)

pub loop-k-init : goal.loop-k-init
loop-k-init c = sym (bits_end c.args.ids.now (length c.args.ids.now) (omega arith))

pub loop-k-preserved-then-id-lt64 : goal.loop-k-preserved-then-id-lt64
unfolding pick
loop-k-preserved-then-id-lt64 c =
    let i = c.loop-k in
    c.with_bit-bits.ensures ∙ sym (step c.args.ids.now i.k (omega arith) (omega arith) ∙ rw (lt-ltb _ _ c.if-id-lt64.true, ← i.invariant))

pub loop-k-preserved : goal.loop-k-preserved
unfolding pick
loop-k-preserved c =
    let i = c.loop-k in
    i.invariant ∙ sym (step c.args.ids.now i.k (omega arith) (omega arith) ∙ rw (le-ltb _ _ c.if-id-lt64.false))
