-- The version of the library, of which `SCM_VERSION` in include/scm.h is the other saying: major · 1,000,000 + minor · 1,000 + patch.
use Rattle.std.specs.Prelude.{ℕ, ◌+◌, ◌*◌}

-- 2.1.1
abbrev pub version : ℕ
version = 2 * 1000000 + 1 * 1000 + 1
