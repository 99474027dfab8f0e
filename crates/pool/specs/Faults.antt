-- The codes of D.9 as numbers, and the verdict that an answer stands for.
use Rattle.std.specs.Prelude.{ℕ, Result, Ok, Err}
use Rattle.pool.specs.declared.Verdict.{Verdict}
use Rattle.pool.specs.declared.verdicts.Code.{Code}
use Rattle.pool.specs.declared.verdicts.Code.TheVariants.{UnknownType, NoBase, NoFunction, NoState, NumberTwice, FunctionTwice, StateTwice, VersionLength, VersionBytes, ConfigurationLength, WrongVersion, Other}
use Rattle.pool.specs.declared.verdicts.Fault.{Fault}
use Rattle.pool.specs.Verdicts.{verdict, fine}

abbrev pub code_number : Code → ℕ
code_number UnknownType = 0x01
code_number NoBase = 0x02
code_number NoFunction = 0x03
code_number NoState = 0x04
code_number NumberTwice = 0x05
code_number FunctionTwice = 0x06
code_number StateTwice = 0x07
code_number VersionLength = 0x09
code_number VersionBytes = 0x0A
code_number ConfigurationLength = 0x0B
code_number WrongVersion = 0x0C
code_number Other = 0xFF

-- "Success is 00", or the code of the fault
abbrev pub answer_code : {T : Type 0} → Result T Code → ℕ
answer_code (Ok _) = 0x00
answer_code (Err code) = code_number code

abbrev pub fault_verdict : Fault → Verdict
fault_verdict f = verdict (code_number f.code) f.object

-- "Success is 00, object FFFF.", or the verdict of the fault
abbrev pub said : {T : Type 0} → Result T Fault → Verdict
said (Ok _) = fine
said (Err f) = fault_verdict f
