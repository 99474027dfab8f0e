-- `flat::stated` meets its contract: whether a status has the number is what the definition asks.
use mathlib.Core.Path.{◌≡◌, refl}
use mathlib.Core.Bool.{Bool, true, false, cond}
use lib.Dec.{leb}
use Rattle.std.specs.Prelude.{Result, Ok, Err}
use Rattle.octets.specs.Pick.{pick}
use Rattle.message.specs.declared.NoStatus.{NoStatus}
use Rattle.message.specs.declared.Status.{Status}
use Rattle.message.specs.declared.Message.{Message}
use Rattle.message.specs.declared.Message.TheVariants.{Nothing}
use Rattle.flat.proofs.stated.Goals as goal

found : (b : Bool) (s t : Status) (e : NoStatus) (m : Message) → ◌≡◌ {A = Result Status NoStatus} (Ok s) (cond b (Ok t) (Err e)) → m ≡ pick b m Nothing
unfolding pick
found true s t e m is = refl
found false s t e m is = cc

missing : (b : Bool) (t : Status) (d e : NoStatus) (m : Message) → ◌≡◌ {A = Result Status NoStatus} (Err d) (cond b (Ok t) (Err e)) → Nothing ≡ pick b m Nothing
unfolding pick
missing true t d e m is = cc
missing false t d e m is = refl

pub returns-in-Ok : goal.returns-in-Ok
returns-in-Ok c = found (leb c.args.status 3) _ _ _ c.args.message c.in-Ok.ensures

pub returns-in-Err : goal.returns-in-Err
returns-in-Err c = missing (leb c.args.status 3) _ _ _ c.args.message c.in-Err.ensures
