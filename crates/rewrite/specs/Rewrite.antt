-- A pool taken apart object by object and written again. 01, "Numbers a call gives back": "1 .. lent output too short"; "6 .. pool refused, with
-- the D.9 code and object number"; "Where several apply: 1, 4, 3, 2, then the rest".
use Rattle.std.specs.Prelude.{ℕ, List, ◌++◌, length, drop, ltb, eqb, Result, Ok, Err}
use Rattle.octets.specs.Pick.{pick}
use Rattle.octets.specs.Numbers.{completed, too_short, pool_refused}
use Rattle.pool.specs.Pool.{verdict_of}
use Rattle.objects.specs.Objects.{decode_all, encode_all}
use Rattle.rewrite.specs.{declared.Rewritten.Rewritten, declared.Refused.Refused}
use Rattle.rewrite.specs.declared.Refused.TheVariants.{TooShort, Pool}

abbrev pub rewritten : ℕ → ℕ → ℕ → Rewritten
rewritten n c o = record { number = n; code = c; object = o }

-- what is told of an outcome: of a pool that is refused the code and the object
abbrev pub rewritten_as : {T : Type 0} → Result T Refused → Rewritten
rewritten_as (Ok _) = rewritten completed 0 0
rewritten_as (Err TooShort) = rewritten too_short 0 0
rewritten_as (Err (Pool why)) = rewritten pool_refused why.code why.object

unfoldable pub rewrite_answer : List ℕ → List ℕ → Rewritten
rewrite_answer s out =
    pick (ltb (length out) (length s)) (rewritten too_short 0 0)
    (pick (eqb (verdict_of s).code 0x00) (rewritten completed 0 0) (rewritten pool_refused (verdict_of s).code (verdict_of s).object))

-- the bytes of the pool's objects, and after them what stood there
abbrev pub again : List ℕ → List ℕ → List ℕ
again s out = encode_all (decode_all s) ++ drop (length (encode_all (decode_all s))) out

-- "Every number but 0 leaves the state and all lent memory unchanged."
unfoldable pub rewrite_out : List ℕ → List ℕ → List ℕ
rewrite_out s out = pick (ltb (length out) (length s)) out (pick (eqb (verdict_of s).code 0x00) (again s out) out)
