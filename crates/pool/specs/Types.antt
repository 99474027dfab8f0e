-- The types of objects as numbers: byte 3 of tables A.1 to A.3.
use Rattle.std.specs.Prelude.{ℕ, ◌≡◌, ◌<◌, Result}
use Rattle.std.specs.Result.{MatchResult}
use Rattle.pool.specs.Fields.{base_type, function_type, state_type}
use Rattle.pool.specs.declared.ObjectType.{ObjectType}
use Rattle.pool.specs.declared.ObjectType.TheVariants.{Base, Function, State}
use Rattle.pool.specs.declared.verdicts.Code.{Code}
use Rattle.pool.specs.declared.verdicts.Code.TheVariants.{UnknownType}

abbrev pub type_number : ObjectType → ℕ
type_number Base = base_type
type_number Function = function_type
type_number State = state_type

-- the type that has this number, and "type not 0, 1 or 2, code 01"
abbrev pub IsType : ℕ → Result ObjectType Code → Type 0
IsType number r = MatchResult r (λ type. type_number type ≡ number) (λ code. (code ≡ UnknownType) × (state_type < number))
