-- Verification gives 0 exactly when every check holds, and else the number of the first that does not.
use Prim.Native.Nat.{◌<◌}
use mathlib.Core.Path.{◌≡◌, refl, sym, ap}
use mathlib.Core.Bool.{true, false, true≢false}
use mathlib.Core.List.{List, [], ◌∷◌}
use native.Mathlib.Omega.{arith}
use lib.ListN.{get_or}
use borrow.Author.Tests.{lt-ltb}
use Rattle.octets.specs.Pick.{pick}
use Rattle.client.specs.Clients.{blank_slot}
use Rattle.client.specs.declared.Client.{Client}
use Rattle.sequence.specs.declared.Step.{Step}
use Rattle.playback.specs.Verification.{Check, first_failing, rule_of, is_listed, is_in_pool, checks_of, verify_by}
use Rattle.playback.specs.Promises.{EveryHolds, FirstFails, Verifies}
use Rattle.playback.proofs.Failing.{Numbered, within_first, checks_numbered}

starts : (l : List Check) → EveryHolds l → first_failing l ≡ 0
unfolding pick first_failing
starts [] h = refl
starts ((true, n) ∷ l) h = starts l h.1
starts ((false, n) ∷ l) h = absurd (true≢false (sym h.0))

only : (l : List Check) → Numbered l → first_failing l ≡ 0 → EveryHolds l
unfolding pick first_failing
only [] k e = tt
only ((true, n) ∷ l) k e = (refl, only l k.1 e)
only ((false, n) ∷ l) k e = absurd (omega (arith, k.0.0))

names : (l : List Check) → (first_failing l ≡ 0 → ⊥) → FirstFails l (first_failing l)
unfolding pick first_failing
names [] h = absurd (h refl)
names ((true, n) ∷ l) h =
    let r = names l h in
    record { earlier = (true, n) ∷ r.earlier; later = r.later; all = ap (λ (x : List Check). (true, n) ∷ x) r.all; hold = (refl, r.hold) }
names ((false, n) ∷ l) h = record { earlier = []; later = l; all = refl; hold = tt }

bound : (slots : List Client) (s : Step) → s.slot < 8 → is_in_pool slots s ≡ is_listed (get_or slots s.slot blank_slot).profile s.function s.state
unfolding is_in_pool
bound slots s h = rw (lt-ltb _ _ h)

pub verifies : Verifies
unfolding verify_by
verifies = record {
  starts = λ edition slots q h. starts (checks_of edition slots q) h;
  only = λ edition slots q e. only (checks_of edition slots q) (checks_numbered (rule_of edition) slots q) e;
  names = λ edition slots q h. names (checks_of edition slots q) h;
  numbers = λ edition slots q. within_first 7 12 (checks_of edition slots q) (checks_numbered (rule_of edition) slots q);
  bound = bound;
}
