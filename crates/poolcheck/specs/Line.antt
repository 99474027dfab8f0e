-- 01, "The job": a program "writes its code as two upper-case hex digits, a space, the object number as four, and a newline."
use Rattle.std.specs.Prelude.{ℕ, ◌+◌, ◌/◌, ◌%◌, List, [], ◌∷◌, ltb}
use Rattle.octets.specs.Pick.{pick}
use Rattle.pool.specs.declared.Verdict.{Verdict}

-- '0' is 48 and 'A' is 65
unfoldable pub digit_of : ℕ → ℕ
digit_of n = pick (ltb n 10) (48 + n) (55 + n)

unfoldable pub line_of : Verdict → List ℕ
line_of v =
    digit_of (v.code / 16)
    ∷ digit_of (v.code % 16)
    ∷ 32
    ∷ digit_of (v.object / 4096)
    ∷ digit_of (v.object / 256 % 16)
    ∷ digit_of (v.object / 16 % 16)
    ∷ digit_of (v.object % 16)
    ∷ 10
    ∷ []
