-- How the verdict on a pool comes together: from stage one and the rules that need no list, and then from those on lists.
use Prim.Native.Nat.{ℕ, ◌≤◌, ◌<◌}
use mathlib.Core.Path.{◌≡◌, refl, sym, ap, ◌∙◌}
use mathlib.Core.List.{List}
use lib.ListN.{length, take, drop}
use borrow.Author.Tests.{le-ltb, lt-ltb}
use Rattle.octets.specs.Pick.{pick}
use Rattle.pool.specs.declared.Verdict.{Verdict}
use Rattle.pool.specs.Verdicts.{verdict, fine, first, first_of}
use Rattle.pool.specs.StageOne.{stage_one}
use Rattle.pool.specs.StageTwo.{rules_of, stage_two}
use Rattle.pool.specs.Search.Walk.{Walks, rules}
use Rattle.pool.specs.Pool.{verdict_of}
use Rattle.pool.proofs.Faults.{first_fault_lem, first_fine, first_both, first_split}

-- after a walk in which stage one has found no fault, the rules are the pool's
pub walked_rules : (s places : List ℕ) (n b : ℕ) → Walks s places n b → rules_of s (take n places) b ≡ rules s
walked_rules s places n b w = rw (w.listed, w.base)

module _ (s : List ℕ) (short : length s ≤ 16384) (early : Verdict) (e : early ≡ first (stage_one s) (first_of (take 4 (rules s)))) where
  whole : verdict_of s ≡ first early (first_of (drop 4 (rules s)))
  unfolding verdict_of stage_two pick
  whole =
      rw (le-ltb 16384 (length s) short)
      (ap (first (stage_one s)) (first_split 4 (rules s)) ∙ sym (first_both (stage_one s) (first_of (take 4 (rules s))) (first_of (drop 4 (rules s)))) ∙ rw (← e))

  pub verdict_early : (early.code ≡ 0 → ⊥) → early ≡ verdict_of s
  verdict_early n = sym (whole ∙ first_fault_lem early _ n)

  pub verdict_lists : early.code ≡ 0 → first_of (drop 4 (rules s)) ≡ verdict_of s
  verdict_lists z = sym (whole ∙ first_fine early _ z)

-- what is found in the lists is the verdict on the pool, where no fault has been found before them
pub verdict_listed :
    (s places : List ℕ) (n b : ℕ) (found : Verdict)
    → length s ≤ 16384 → Walks s places n b → fine ≡ first (stage_one s) (first_of (take 4 (rules s)))
    → found ≡ first_of (drop 4 (rules_of s (take n places) b)) → found ≡ verdict_of s
verdict_listed s places n b found short w early f =
    f ∙ ap (λ (vs : List Verdict). first_of (drop 4 vs)) (walked_rules s places n b w) ∙ verdict_lists s short fine early refl

pub verdict_long : (s : List ℕ) → 16384 < length s → verdict 0xFF 0xFFFF ≡ verdict_of s
unfolding verdict_of pick
verdict_long s h = rw (lt-ltb _ _ h)
