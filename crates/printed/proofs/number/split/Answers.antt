-- `printed::number::split` meets its contract. A pair of ones is 2 ^ (shift + 1) where 64 bits hold it. Else size is below 2 ^ 63 and below a pair, and nothing is
-- taken off.
use mathlib.Core.Path.{◌≡◌, refl, ◌∙◌}
use Prim.Native.Nat.{ℕ, ◌+◌, ◌*◌, ◌/◌, ◌%◌, ◌^◌, ◌≤◌, ◌<◌}
use native.Mathlib.Nat.{mul-le-mul_left, mul-le-mul_right, mod-lt, div-add-mod', div-le_of_le-mul}
use native.Mathlib.Omega.{arith}
use lib.Pow.{pow_pos, pow-add, pow_mono}
use lib.Ieee.Nearest.{closest}
use Rattle.printed.proofs.Rounding.{closest_at_most, closest_widened, without_pairs}
use Rattle.printed.proofs.number.split.Goals as goal
use Rattle.printed.proofs.number.split.Goals.{then-shift-lt62, else-shift-lt62, then-shift-lt30, else-shift-lt30}

-- what is known of the pair: it may be taken off, and how much is left
record Pair (size shift tens pair : ℕ) : Type 0 where
  off : closest (size * tens) (2 ^ shift) ≡ size / pair * tens * 2 + closest (size % pair * tens) (2 ^ shift)
  rest : size % pair ≤ 2 * 2 ^ shift
  few : shift < 30 → size % pair < 2 ^ 30
  four : 4 ≤ pair

module _ (size shift tens : ℕ) where
  a_pair : 1 ≤ shift → Pair size shift tens (2 ^ (shift + 1))
  a_pair h =
      let e : 2 ^ (shift + 1) ≡ 2 ^ shift * 2 = pow-add 2 shift 1 in
      let l : size % 2 ^ (shift + 1) < 2 ^ (shift + 1) = mod-lt size (pow_pos (shift + 1)) in
      record {
        off = rw e (without_pairs size tens (2 ^ shift) (pow_pos shift));
        rest = omega arith;
        few = λ f. omega (arith, pow_mono {i = shift + 1} {j = 30} (omega arith));
        four = pow_mono {i = 2} {j = shift + 1} (omega arith);
      }

  no_pair : size < 2 ^ 57 → 62 ≤ shift → Pair size shift tens (2 ^ 63)
  no_pair s h =
      let d : size / 2 ^ 63 ≡ 0 = omega arith in
      let m : size % 2 ^ 63 ≡ size = omega arith in
      record {
        off = rw (d, m) (omega arith);
        rest = omega (arith, pow_mono {i = 62} {j = shift} h);
        few = λ f. omega arith;
        four = omega arith;
      }

-- the number in two parts is the fraction's, and the one before the point is small
module _ (size shift tens pair : ℕ) (p : Pair size shift tens pair) (part : ℕ) (is : part ≡ closest (size % pair * tens) (2 ^ shift)) where
  sum : (2 * (size / pair) + part / tens) * tens + part % tens ≡ closest (size * tens) (2 ^ shift)
  sum =
      let d : part / tens * tens + part % tens ≡ part = div-add-mod' part tens in
      let o = p.off in
      omega arith

  fits : size < 2 ^ 57 → 2 * (size / pair) + part / tens < 2 ^ 57
  fits s =
      let l : size % pair * tens ≤ 2 * 2 ^ shift * tens = mul-le-mul_right tens p.rest in
      let m : part ≤ tens * 2 = rw is (closest_at_most (size % pair * tens) (tens * 2) (2 ^ shift) (pow_pos shift) (omega arith)) in
      let q : part / tens ≤ 2 = div-le_of_le-mul tens m in
      let f : size / pair * 4 ≤ size / pair * pair = mul-le-mul_left (size / pair) p.four in
      let d : size / pair * pair + size % pair ≡ size = div-add-mod' size pair in
      omega arith

pub nearest_part-part-requires : goal.nearest_part-part-requires
nearest_part-part-requires c =
    let a = c.args in
    let pair = c.two_to-pair.result in
    let p : Pair a.size a.shift a.tens pair =
    rw c.two_to-pair.ensures
    (elim c.if-shift-lt62.branch [
      | then-shift-lt62 w ↦ rw w.two_to-is (a_pair a.size a.shift a.tens c.requires.1)
      | else-shift-lt62 w ↦ rw w.two_to-is (no_pair a.size a.shift a.tens c.requires.0 w.if-shift-lt62.false)
    ])
    in
    omega (arith, p.few c.if-shift-lt30.true)

pub overflow_add-result : goal.overflow_add-result
overflow_add-result c =
    let a = c.args in
    let pair = c.two_to-pair.result in
    let part = c.if-shift-lt30.part in
    let p : Pair a.size a.shift a.tens pair =
    rw c.two_to-pair.ensures
    (elim c.if-shift-lt62.branch [
      | then-shift-lt62 w ↦ rw w.two_to-is (a_pair a.size a.shift a.tens c.requires.1)
      | else-shift-lt62 w ↦ rw w.two_to-is (no_pair a.size a.shift a.tens c.requires.0 w.if-shift-lt62.false)
    ])
    in
    let q : part ≡ closest (a.size % pair * a.tens) (2 ^ a.shift) =
    elim c.if-shift-lt30.branch [
      | then-shift-lt30 w ↦ w.part-is ∙ w.nearest_part-part.ensures ∙ closest_widened (a.size % pair) a.tens a.shift 30
      | else-shift-lt30 w ↦ w.part-is ∙ w.nearest_part-part-else-shift-lt30.ensures
    ]
    in
    omega (arith, fits a.size a.shift a.tens pair p part q c.requires.0)

pub returns : goal.returns
returns c =
    let a = c.args in
    let pair = c.two_to-pair.result in
    let part = c.if-shift-lt30.part in
    let p : Pair a.size a.shift a.tens pair =
    rw c.two_to-pair.ensures
    (elim c.if-shift-lt62.branch [
      | then-shift-lt62 w ↦ rw w.two_to-is (a_pair a.size a.shift a.tens c.requires.1)
      | else-shift-lt62 w ↦ rw w.two_to-is (no_pair a.size a.shift a.tens c.requires.0 w.if-shift-lt62.false)
    ])
    in
    let q : part ≡ closest (a.size % pair * a.tens) (2 ^ a.shift) =
    elim c.if-shift-lt30.branch [
      | then-shift-lt30 w ↦ w.part-is ∙ w.nearest_part-part.ensures ∙ closest_widened (a.size % pair) a.tens a.shift 30
      | else-shift-lt30 w ↦ w.part-is ∙ w.nearest_part-part-else-shift-lt30.ensures
    ]
    in
    record {
      is = sum a.size a.shift a.tens pair p part q;
      part_below = mod-lt part c.requires.3;
      whole_below = fits a.size a.shift a.tens pair p part q c.requires.0;
      no_power = refl;
    }
