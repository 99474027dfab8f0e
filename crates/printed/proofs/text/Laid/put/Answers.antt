-- `printed::text::Laid::put` meets its contract: the sign, the digits before the point and the part behind it, each where the one before it ends.
use mathlib.Core.Path.{sym}
use borrow.Author.Rules.{rules}
use Prim.Native.Nat.{◌+◌, ◌/◌, ◌^◌, ◌≤◌}
use native.Mathlib.Omega.{arith}
use Rattle.printed.specs.Text.{part_of}
use Rattle.printed.specs.Steps.{number_in, sign_bytes}
use Rattle.printed.proofs.Texts.{sets_text, sign_most}
use Rattle.printed.proofs.text.Laid.put.Goals as goal

pub put_digits-requires : goal.put_digits-requires
put_digits-requires c =
    let most = sign_most c.args.self.now.below in
    (omega arith, search rules)

pub overflow_add-sign : goal.overflow_add-sign
overflow_add-sign c =
    let room : c.args.self.now.places + c.args.self.now.decimals ≤ 56 = search rules in
    omega (arith, sign_most c.args.self.now.below, room)

pub put_part-requires : goal.put_part-requires
put_part-requires c =
    let most = sign_most c.args.self.now.below in
    let room : c.args.self.now.places + c.args.self.now.decimals ≤ 56 = search rules in
    omega (arith, room)

pub returns : goal.returns
returns c =
    let a = c.args in
    let n = number_in a.self.now.digits in
    rw (c.put_part.ensures, c.put_digits.ensures, c.put_sign.ensures, c.sign_length-sign.ensures)
    (sym (sets_text a.out.now (sign_bytes a.self.now.below) (part_of a.self.now.decimals n) a.self.now.places (n / 10 ^ a.self.now.decimals)))
