-- 01, "Numbers a call gives back": the number of each refusal.
use Rattle.std.specs.Prelude.{ℕ, Result, Ok, Err}
use Rattle.octets.specs.Numbers.{completed, too_short, wrong_state, wrong_slot, wrong_value, not_expected, pool_refused, no_step, not_enabled, name_differs, label_differs, not_in_pool, not_ready, not_disabled, none_enabled, no_match, check_wrong, not_stored}
use Rattle.octets.specs.declared.numbers.Refusal.{Refusal}
use Rattle.octets.specs.declared.numbers.Refusal.TheVariants.{TooShort, WrongState, WrongSlot, WrongValue, NotExpected, PoolRefused, NoStep, NotEnabled, NameDiffers, LabelDiffers, NotInPool, NotReady, NotDisabled, NoneEnabled, NoMatch, CheckWrong, NotStored}

abbrev pub refusal_number : Refusal → ℕ
refusal_number TooShort = too_short
refusal_number WrongState = wrong_state
refusal_number WrongSlot = wrong_slot
refusal_number WrongValue = wrong_value
refusal_number NotExpected = not_expected
refusal_number PoolRefused = pool_refused
refusal_number NoStep = no_step
refusal_number NotEnabled = not_enabled
refusal_number NameDiffers = name_differs
refusal_number LabelDiffers = label_differs
refusal_number NotInPool = not_in_pool
refusal_number NotReady = not_ready
refusal_number NotDisabled = not_disabled
refusal_number NoneEnabled = none_enabled
refusal_number NoMatch = no_match
refusal_number CheckWrong = check_wrong
refusal_number NotStored = not_stored

-- "0 done", or the number of the refusal
abbrev pub answer_number : {T : Type 0} → Result T Refusal → ℕ
answer_number (Ok _) = completed
answer_number (Err why) = refusal_number why
