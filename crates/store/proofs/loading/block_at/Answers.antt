-- `store::loading::block_at` meets its contract: the part is 512 bytes wide.
use Rattle.std.proofs.Common.{◌≡◌, ℕ, ◌+◌, ◌-◌, ◌*◌, take, drop, ap, arith}
use Rattle.store.proofs.loading.block_at.Goals as goal

pub returns : goal.returns
returns c =
    let a = c.args in
    let width : 512 * (a.b + 1) - 512 * a.b ≡ 512 = omega arith in
    ap (λ (n : ℕ). take n (drop (512 * a.b) a.blocks.now)) width
