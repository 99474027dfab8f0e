-- What holds of the definition that the contract of `profile_of` cites: 01, "The job": "Of an accepted pool the master keeps what its rules need". The
-- function `says` of the crate ensures these statements.
use Rattle.std.specs.Prelude.{ℕ, ◌≡◌, List, ◌∷◌, set, replicate}
use Rattle.pool.specs.{Pool.verdict_of, Sample.sample}
use Rattle.profile.specs.Profile.{profile_of, Says}
use Rattle.profile.specs.declared.Profile.{Profile}

-- of each function ID the trigger and the states that an accepted pool's lists say
abbrev pub SaysOf : Type 0
SaysOf = (s : List ℕ) → (verdict_of s).code ≡ 0x00 → Says s (profile_of s)

-- what is kept of a pool in which no two fields of an object are alike: master NAME, mask, the labels ABC and DEFG, and of function 51 the trigger and
-- the states 0, 9 and 63
abbrev pub sample_kept : Profile
sample_kept =
    record {
      master = 0x1817161514131211;
      mask = 0x2827262524232221;
      version = record { length = 3; bytes = 0x41 ∷ 0x42 ∷ 0x43 ∷ replicate 60 0 };
      configuration = record { length = 4; bytes = 0x44 ∷ 0x45 ∷ 0x46 ∷ 0x47 ∷ replicate 59 0 };
      trigger = set (replicate 256 0) 0x51 255;
      states = set (replicate 256 0) 0x51 0x8000000000000201;
    }

abbrev pub KeptOf : Type 0
KeptOf = profile_of sample ≡ sample_kept
