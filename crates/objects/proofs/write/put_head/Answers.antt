-- `objects::write::put_head` meets its contract, by the variant that each return knows.
use Rattle.objects.proofs.write.put_head.Goals as goal

pub returns-in-Base : goal.returns-in-Base
returns-in-Base c = rw c.in-Base.is c.put_base.ensures

pub returns-in-Function : goal.returns-in-Function
returns-in-Function c = rw c.in-Function.is c.put_function.ensures

pub returns-in-State : goal.returns-in-State
returns-in-State c = rw c.in-State.is c.put_state.ensures
