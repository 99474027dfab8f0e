-- What the walk of stage one leaves, where it finds no fault: the places of the pool's objects at the front of the lent cells, and that of its base;
-- and how the verdict comes together.
use Rattle.std.specs.Prelude.{ℕ, ◌≤◌, ◌≡◌, List, ◌&&◌, eqb, length, take}
use Rattle.octets.specs.Pick.{pick}
use Rattle.pool.specs.Fields.{base_type, places_from}
use Rattle.pool.specs.StageTwo.{is_object, object_of, rules_of}
use Rattle.pool.specs.declared.Verdict.{Verdict}
use Rattle.pool.specs.Search.Index.{Within}

pub record Walks (s places : List ℕ) (n b : ℕ) : Type 0 where
  pub few : n ≤ 2048
  pub listed : take n places ≡ places_from s 0
  pub within : Within s (take n places)
  pub base : b ≡ object_of s (places_from s 0) base_type 0
  pub reached : b ≤ length s

-- the rules of stage two, for the pool's places and its base; of these the first four need no list
abbrev pub rules : List ℕ → List Verdict
rules s = rules_of s (places_from s 0) (object_of s (places_from s 0) base_type 0)

-- where the base stands that is met first: the pool's length until one is met
abbrev pub base_from : List ℕ → ℕ → ℕ → ℕ
base_from s at b = pick (eqb b (length s) && is_object s base_type 0 at) at b
