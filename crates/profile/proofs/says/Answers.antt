-- `profile::says` meets its contract: what is kept of an accepted pool says what the lists say; of the sample it is computed.
use mathlib.Core.Path.{refl}
use borrow.Author.Tests.{eq-eqb}
use Rattle.octets.specs.Pick.{pick}
use Rattle.octets.specs.Octets.{number_at}
use Rattle.octets.specs.Bits.{with_bit, bits_of}
use Rattle.octets.specs.Label.{label_at}
use Rattle.pool.specs.Verdicts.{first, first_of}
use Rattle.pool.specs.Fields.{head_at, fixed_of, rest_at, places_f, places_from, numbers_at}
use Rattle.pool.specs.StageOne.{code_of, faults_at, name_at, stage_one}
use Rattle.pool.specs.StageTwo.{find, is_object, object_of, id_of, is_in, first_repeat, repeat_fault, absent_fault, ids_fault, states_absent, states_alike, rules_of, stage_two}
use Rattle.pool.specs.Pool.{verdict_of}
use Rattle.profile.specs.Profile.{trigger_in, states_in, table_of, kept_at, kept_of_pool, profile_of}
use Rattle.profile.specs.Promises.{SaysOf, KeptOf}
use Rattle.profile.proofs.Laws.{says}
use Rattle.profile.proofs.says.Goals as goal

says_of : SaysOf
unfolding profile_of pick
says_of s e = rw (eq-eqb (verdict_of s).code 0 e) (says s)

kept_of : KeptOf
unfolding number_at pick with_bit label_at first first_of head_at fixed_of rest_at places_f places_from numbers_at code_of faults_at name_at stage_one find is_object object_of id_of is_in first_repeat repeat_fault absent_fault ids_fault states_absent states_alike rules_of stage_two verdict_of trigger_in states_in bits_of table_of kept_at kept_of_pool profile_of
kept_of = refl

pub returns : goal.returns
returns c = record { says_of = says_of; kept_of = kept_of }
