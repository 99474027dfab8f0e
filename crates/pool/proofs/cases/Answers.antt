-- `pool::cases` meets its contract: each case is closed by computing the definition.
use mathlib.Core.Path.{refl}
use Rattle.octets.specs.Pick.{pick}
use Rattle.octets.specs.Octets.{number_at}
use Rattle.octets.specs.Label.{label_at}
use Rattle.pool.specs.Verdicts.{first, first_of}
use Rattle.pool.specs.Fields.{head_at, fixed_of, rest_at, places_f, places_from, numbers_at}
use Rattle.pool.specs.StageOne.{code_of, faults_at, name_at, stage_one}
use Rattle.pool.specs.StageTwo.{find, is_object, object_of, id_of, is_in, first_repeat, repeat_fault, absent_fault, ids_fault, states_absent, states_alike, rules_of, stage_two}
use Rattle.pool.specs.Pool.{verdict_of}
use Rattle.pool.proofs.cases.Goals as goal

pub returns : goal.returns
unfolding number_at pick label_at first first_of head_at fixed_of rest_at places_f places_from numbers_at code_of faults_at name_at stage_one find is_object object_of id_of is_in first_repeat repeat_fault absent_fault ids_fault states_absent states_alike rules_of stage_two verdict_of
returns c = record { size = refl; small = refl; cut = refl; empty = refl; label63 = refl; label64 = refl; turned = refl; twice = refl; absent = refl }
