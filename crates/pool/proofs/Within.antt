-- Of a pool in which stage one finds no fault, at each place stand 8 bytes at least.
use Prim.Native.Nat.{ℕ, zero, suc}
use native.Mathlib.Omega.{arith}
use mathlib.Core.Path.{◌≡◌}
use mathlib.Core.List.{List, [], ◌∷◌}
use Rattle.octets.proofs.All.{All, none, ◌also◌}
use Rattle.pool.specs.Fields.{places_from}
use Rattle.pool.specs.StageOne.{code_at, fault_at, stage_one}
use Rattle.pool.specs.Search.Index.{Within}
use Rattle.pool.proofs.Walk.{size_least}
use Rattle.pool.proofs.Labels.{all_fine, code_fine}

within : (s ps : List ℕ) → All (λ p. code_at s p ≡ 0) ps → Within s ps
within s [] none j h = omega arith
within s (p ∷ ps) (e also es) zero h = omega (arith, (code_fine s p e).whole, size_least s p)
within s (p ∷ ps) (e also es) (suc j) h = within s ps es j (omega arith)

pub within_places : (s : List ℕ) → (stage_one s).code ≡ 0 → Within s (places_from s 0)
unfolding stage_one
within_places s e = within s (places_from s 0) (all_fine (fault_at s) (places_from s 0) e)
