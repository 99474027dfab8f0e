-- `octets::number_in` meets its contract: its bytes are a part of the list.
use Prim.Native.Nat.{◌+◌, ◌-◌}
use native.Mathlib.Omega.{arith}
use mathlib.Core.Path.{◌≡◌, ◌∙◌}
use Rattle.octets.specs.Octets.{number_at}
use Rattle.octets.proofs.Laws.{number_of_part, number_fits}
use Rattle.octets.proofs.number_in.Goals as goal

pub returns : goal.returns
returns g c =
    let a = c.args in
    let w = g.row.W in
    let e : a.i + w - a.i ≡ w = omega arith in
    let v : c.number_of.result ≡ number_at w a.s.now a.i = c.number_of.ensures ∙ rw e (number_of_part 8 w a.s.now a.i c.requires.width) in
    record { value = v; fits = rw v (number_fits w a.s.now a.i (λ k. omega (arith, c.type_inv.s k))) }
