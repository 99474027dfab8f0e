-- The parts of an object that is read, by where each begins: what its type says of them is what its fixed part says.
use Prim.Native.Nat.{ℕ, ◌+◌}
use native.Mathlib.Nat.{add-zero}
use mathlib.Core.Path.{◌≡◌, refl, ◌∙◌}
use mathlib.Core.Bool.{Bool, true, false}
use mathlib.Core.List.{List}
use lib.Dec.{eqb}
use Rattle.octets.specs.Pick.{pick}
use Rattle.octets.specs.Label.{label_at}
use Rattle.pool.specs.Fields.{kind_at, base_type, function_type, head_at, function_fixed, numbers_at}
use Rattle.std.specs.Prelude.{Ok}
use Rattle.objects.specs.declared.Object.{Object}
use Rattle.objects.specs.Objects.{parts_of, cells, whole_at}
use Rattle.objects.proofs.Limits.{Short}
use Rattle.objects.proofs.Cells.{label_cells}

-- where each part begins
abbrev pub version_at : List ℕ → ℕ → ℕ
version_at s at = at + (parts_of (Ok (head_at s at))).fixed

abbrev pub configuration_at : List ℕ → ℕ → ℕ
configuration_at s at = version_at s at + (parts_of (Ok (head_at s at))).version

abbrev pub list_at : List ℕ → ℕ → ℕ
list_at s at = configuration_at s at + (parts_of (Ok (head_at s at))).configuration

abbrev pub read : List ℕ → ℕ → List ℕ → List ℕ → Object
read s at v c =
    record { kind = Ok (head_at s at); version = v; configuration = c; list = cells 255 (numbers_at 2 s (list_at s at) (parts_of (Ok (head_at s at))).list) }

module _ (s : List ℕ) (at : ℕ) where
  pub whole_read : whole_at s at ≡ read s at (label_at s (version_at s at) (parts_of (Ok (head_at s at))).version).bytes (label_at s (configuration_at s at) (parts_of (Ok (head_at s at))).configuration).bytes
  unfolding whole_at head_at pick label_at numbers_at
  whole_read = go (eqb (kind_at s at) base_type) (eqb (kind_at s at) function_type) refl refl
    where
      go : (a b : Bool) → eqb (kind_at s at) base_type ≡ a → eqb (kind_at s at) function_type ≡ b → whole_at s at ≡ read s at (label_at s (version_at s at) (parts_of (Ok (head_at s at))).version).bytes (label_at s (configuration_at s at) (parts_of (Ok (head_at s at))).configuration).bytes
      go true b e f = rw e
      go false true e f = rw (e, f, add-zero (at + function_fixed), add-zero (at + function_fixed))
      go false false e f = rw (e, f)

  -- as cells, where the labels are short
  abbrev pub apart : Object
  apart = read s at (cells 63 (numbers_at 1 s (version_at s at) (parts_of (Ok (head_at s at))).version)) (cells 63 (numbers_at 1 s (configuration_at s at) (parts_of (Ok (head_at s at))).configuration))

  pub whole_apart : Short (Ok (head_at s at)) → whole_at s at ≡ apart
  whole_apart h = whole_read ∙ rw (label_cells s (version_at s at) _ h.version, label_cells s (configuration_at s at) _ h.configuration)
