-- Checks that all hold: of a list made of others, and what those of a start say of its clients and steps.
use Prim.Native.Nat.{◌<◌}
use mathlib.Core.Bool.{◌&&◌}
use mathlib.Core.List.{List, [], ◌∷◌, ◌++◌, flat_map}
use lib.Dec.{ltb}
use borrow.Author.Tests.{ltb-true}
use Rattle.arrays.specs.Every.{Every}
use Rattle.client.specs.declared.Client.{Client}
use Rattle.client.specs.declared.ClientRecord.{ClientRecord}
use Rattle.sequence.specs.Sequence.{steps_of}
use Rattle.sequence.specs.declared.Step.{Step}
use Rattle.sequence.specs.declared.Sequence.{Sequence}
use Rattle.playback.specs.Pairs.{pairs}
use Rattle.playback.specs.Verification.{Check, Rule, is_listed, is_in_pool, client_checks, step_checks, ready_checks, checks_by}
use Rattle.playback.specs.Promises.{EveryHolds}
use Rattle.playback.proofs.Agrees.{both}

holds_split : (a b : List Check) → EveryHolds (a ++ b) → EveryHolds a × EveryHolds b
holds_split [] b h = (tt, h)
holds_split (c ∷ a) b h = let k = holds_split a b h.1 in ((h.0, k.0), k.1)

holds_each : {X : Type 0} (f : X → List Check) (l : List X) → EveryHolds (flat_map f l) → Every (λ x. EveryHolds (f x)) l
unfolding flat_map
holds_each f [] h = tt
holds_each f (x ∷ l) h = let k = holds_split (f x) (flat_map f l) h in (k.0, holds_each f l k.1)

-- "11 function or state not in the loaded pool": where it holds, the slot is one of the eight, and the state at most 63
pub step_listed : (slots : List Client) (s : Step) → EveryHolds (step_checks slots s) → (s.slot < 8) × (s.state < 64)
unfolding step_checks is_in_pool is_listed
step_listed slots s h =
    let a = both (ltb s.slot 8) _ h.0 in
    let b = both (ltb s.state 64 && _) _ a.1 in
    (ltb-true _ _ a.0, ltb-true _ _ (both (ltb s.state 64) _ b.0).0)

-- ---- of a start

module _ (agree : Rule) (slots : List Client) (q : Sequence) (h : EveryHolds (checks_by agree slots q)) where
  parts : EveryHolds (flat_map (client_checks agree) (pairs slots q.records)) × EveryHolds (flat_map (step_checks slots) (steps_of q) ++ flat_map ready_checks (pairs slots q.records))
  unfolding checks_by
  parts = holds_split (flat_map (client_checks agree) (pairs slots q.records)) _ h.1

  pub clients_hold : Every (λ (x : Client × ClientRecord). EveryHolds (client_checks agree x)) (pairs slots q.records)
  clients_hold = holds_each (client_checks agree) (pairs slots q.records) parts.0

  pub steps_hold : Every (λ (s : Step). EveryHolds (step_checks slots s)) (steps_of q)
  steps_hold = holds_each (step_checks slots) (steps_of q) (holds_split (flat_map (step_checks slots) (steps_of q)) _ parts.1).0
