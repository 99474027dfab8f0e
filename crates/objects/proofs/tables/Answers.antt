-- `objects::tables` meets its contract: what is read is computed.
use mathlib.Core.Path.{refl}
use Rattle.octets.specs.Pick.{pick}
use Rattle.octets.specs.Octets.{number_at}
use Rattle.octets.specs.Label.{label_at}
use Rattle.pool.specs.Fields.{head_at, fixed_of, rest_at, numbers_at}
use Rattle.pool.specs.StageOne.{code_of, faults_at}
use Rattle.objects.specs.Objects.{whole_at, is_at, decode, next_at}
use Rattle.objects.proofs.tables.Goals as goal

pub returns : goal.returns
unfolding pick number_at label_at head_at fixed_of rest_at numbers_at code_of faults_at whole_at is_at decode next_at
returns c = record { base = refl; function = refl; state = refl }
