-- 01, "The pool": the check of a pool, whole.
use Rattle.std.specs.Prelude.{ℕ, List, length, ltb}
use Rattle.octets.specs.Pick.{pick}
use Rattle.pool.specs.{declared.Verdict.Verdict, Verdicts.verdict, Verdicts.first, StageOne.stage_one, StageTwo.stage_two}

-- "At most 16,384 bytes; more gives FF, object FFFF."
unfoldable pub verdict_of : List ℕ → Verdict
verdict_of s = pick (ltb 16384 (length s)) (verdict 0xFF 0xFFFF) (first (stage_one s) (stage_two s))
