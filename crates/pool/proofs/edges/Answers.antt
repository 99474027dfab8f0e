-- `pool::edges` meets its contract: each pool's code is computed.
use mathlib.Core.Path.{refl}
use lib.ListN.{length}
use borrow.Author.Tests.{lt-ltb}
use Rattle.octets.specs.Pick.{pick}
use Rattle.octets.specs.Octets.{number_at}
use Rattle.octets.specs.Label.{label_at}
use Rattle.pool.specs.Verdicts.{first, first_of}
use Rattle.pool.specs.Fields.{head_at, fixed_of, rest_at, places_f, places_from, numbers_at}
use Rattle.pool.specs.StageOne.{code_of, faults_at, name_at, stage_one}
use Rattle.pool.specs.StageTwo.{find, is_object, object_of, id_of, is_in, first_repeat, repeat_fault, absent_fault, ids_fault, states_absent, states_alike, rules_of, stage_two}
use Rattle.pool.specs.Pool.{verdict_of}
use Rattle.pool.proofs.edges.Goals as goal

pub returns : goal.returns
unfolding number_at pick label_at first first_of head_at fixed_of rest_at places_f places_from numbers_at code_of faults_at name_at stage_one find is_object object_of id_of is_in first_repeat repeat_fault absent_fault ids_fault states_absent states_alike rules_of stage_two verdict_of
returns c = record { accepted = refl; type = refl; base_number = refl; function_number = refl; state_number = refl; version = refl; functions = refl; trigger = refl; attribute = refl; style_00 = refl; not_00 = refl; style_01 = refl; not_01 = refl; minimum = refl; scale = refl; decimals = refl; unit = refl; scale_01 = refl; state_id = refl; states = refl; too_many = refl; names = refl; labels = refl; characters = refl; configuration = refl; long = λ s h. rw (lt-ltb 16384 (length s) h); one_left = refl; two_left = refl; three_left = refl }
