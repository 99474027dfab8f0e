-- `octets::number_near_end` meets its contract: its bytes are a part of the list, with 0 for those past the end.
use native.Mathlib.Omega.{arith}
use mathlib.Core.Path.{◌≡◌, ◌∙◌}
use Rattle.octets.specs.Octets.{number_at}
use Rattle.octets.proofs.Laws.{number_of_part, number_fits}
use Rattle.octets.proofs.number_near_end.Goals as goal

pub returns : goal.returns
returns c =
    let a = c.args in
    let w = a.width in
    let v : c.number_of.result ≡ number_at w a.s.now a.i = c.number_of.ensures ∙ rw c.part.ensures (number_of_part 8 w a.s.now a.i c.requires) in
    record { value = v; fits = rw v (number_fits w a.s.now a.i (λ k. omega (arith, c.type_inv.s k))) }
