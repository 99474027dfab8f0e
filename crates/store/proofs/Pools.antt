-- What a sequence keeps of a client whose pool was accepted is a record that blocks may say.
use Prim.Native.Nat.{ℕ, ◌+◌}
use mathlib.Core.Path.{◌≡◌, refl}
use mathlib.Core.List.{List, [], ◌∷◌}
use Rattle.octets.proofs.All.{All, none, ◌also◌}
use Rattle.pool.specs.{Fields.base_at, Fields.base_fixed, Fields.places_from, Fields.base_type, StageTwo.object_of, Pool.verdict_of}
use Rattle.pool.proofs.Labels.{RightBase, accepted_base}
use Rattle.profile.specs.Profile.{kept_at, kept_of_pool}
use Rattle.arrays.specs.Every.{Every}
use Rattle.client.specs.Clients.{attached}
use Rattle.client.specs.Records.{record_of}
use Rattle.store.specs.Legal.{RightRecord}
use Rattle.store.proofs.Accepted.{right_label}

every : {P : ℕ → Type 0} (l : List ℕ) → All P l → Every P l
every [] none = tt
every (x ∷ l) (h also hs) = (h, every l hs)

module _ (s : List ℕ) (name : ℕ) (e : (verdict_of s).code ≡ 0) where
  abbrev b : ℕ
  b = object_of s (places_from s 0) base_type 0

  pub right_record : RightRecord (record_of (attached name (kept_of_pool s)))
  unfolding record_of kept_of_pool kept_at
  right_record =
      let a : RightBase s b = accepted_base s e in
      record {
        used = refl;
        version = right_label s (b + base_fixed) (base_at s b).n a.version;
        configuration = right_label s (b + base_fixed + (base_at s b).n) (base_at s b).m a.configuration;
        characters = every _ a.characters;
      }
