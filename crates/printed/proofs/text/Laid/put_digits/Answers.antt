-- `printed::text::Laid::put_digits` meets its contract. The loop's invariant: what is to be stored from the start is what is to be stored from here.
use mathlib.Core.Path.{◌≡◌, sym, ap, ◌∙◌}
use Prim.Native.Nat.{ℕ, ◌+◌, ◌-◌, ◌/◌, ◌^◌}
use native.Mathlib.Nat.{add-zero, sub-zero}
use native.Mathlib.Omega.{arith}
use borrow.Author.Rules.{rules}
use lib.ListN.{length}
use lib.Seq.{sets, length-sets}
use Rattle.printed.specs.Text.{last_digits}
use Rattle.printed.specs.Steps.{low_digits, number_in}
use Rattle.printed.proofs.Texts.{byte_of_digit, digits_step}
use Rattle.printed.proofs.text.Laid.put_digits.Goals as goal

pub loop-k-init : goal.loop-k-init
loop-k-init c = (rw (add-zero, sub-zero), omega arith)

pub loop-k-preserved : goal.loop-k-preserved
loop-k-preserved c =
    let l = c.loop-k in
    let a = c.args in
    let n = number_in a.self.now.digits in
    let j = a.count - 1 - l.k in
    let are : a.self.now.digits ≡ low_digits 56 (number_in a.self.now.digits) = search rules in
    let byte = byte_of_digit 56 n a.from j a.self.now.digits are (omega arith) in
    (rw (c.put_byte.ensures, byte) (l.invariant.0 ∙ digits_step l.out a.place a.count l.k (n / 10 ^ a.from) (omega arith)), omega arith)

pub returns : goal.returns
unfolding last_digits
returns c =
    let l = c.loop-k in
    let a = c.args in
    let e : a.count - l.k ≡ 0 = omega arith in
    sym (l.invariant.0 ∙ ap (λ (m : ℕ). sets l.out (a.place + l.k) (last_digits m (number_in a.self.now.digits / 10 ^ a.from))) e)

pub shape_of-out : goal.shape_of-out
shape_of-out c = ap length (returns c) ∙ simp length-sets
