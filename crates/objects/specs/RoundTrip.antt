-- A pool taken apart and written again, and objects written and taken apart again: each gives back what it was given. 01, "How far each promise
-- goes": "Shut out are: refusing everything (by the pool definition ..); a fixed reply (round trip over differing pools)". The function
-- `round_trip` of the crate ensures these statements.
use Rattle.std.specs.Prelude.{ℕ, ◌≤◌, ◌<◌, ◌^◌, ◌≡◌, true, List, [], ◌∷◌, ◌++◌, length, get_or}
use Rattle.pool.specs.{Pool.verdict_of, Cases.base, Cases.function}
use Rattle.objects.specs.declared.Object.{Object}
use Rattle.objects.specs.Objects.{found_at, Field, fields_of, legal, write_answer, write_out, decode_all, encode_all}

-- an accepted pool: bytes on which the check's verdict is "Success .. 00"
pub record Accepted (s : List ℕ) : Type 0 where
  pub bytes : (k : ℕ) → get_or s k 0 < 256
  pub success : (verdict_of s).code ≡ 0

-- each number has room in its field
abbrev pub Fit : List Field → Type 0
Fit [] = Unit {0}
Fit (f ∷ fs) = (f.value < 256 ^ f.width) × Fit fs

-- what the type `Object` says, and that the object is legal by the ranges of 01
pub record LegalObject (o : Object) : Type 0 where
  pub fields : Fit (fields_of o)
  pub version : length o.version ≡ 63
  pub configuration : length o.configuration ≡ 63
  pub list : length o.list ≡ 255
  pub right : legal o ≡ true

abbrev pub AllLegal : List Object → Type 0
AllLegal [] = Unit {0}
AllLegal (o ∷ os) = LegalObject o × AllLegal os

pub record RoundTrip : Type 0 where
  -- the objects of every accepted pool are legal, and are written as the pool's bytes
  pub apart : (s : List ℕ) → Accepted s → AllLegal (decode_all s)
  pub written : (s : List ℕ) → Accepted s → encode_all (decode_all s) ≡ s
  -- "a legal one, once written, reads back the same": legal objects of "At most 16,384 bytes", whether or not they make a pool that stage two accepts
  pub read : (os : List Object) → AllLegal os → length (encode_all os) ≤ 16384 → decode_all (encode_all os) ≡ os
  -- the same of one object, over the calls: what `write_object` wrote at a place, `object_at` reads there
  pub again :
      (o : Object) (out : List ℕ) (at : ℕ) →
      LegalObject o →
      length out ≤ 16384 →
      (write_answer o out at).number ≡ 0 →
      found_at (write_out o out at) at ≡ record { object = o; next = (write_answer o out at).next }
  -- two accepted pools that differ
  pub one : Accepted (base 1 1 ++ function)
  pub other : Accepted (function ++ base 63 1)
  pub differ : base 1 1 ++ function ≡ function ++ base 63 1 → ⊥
