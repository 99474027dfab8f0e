-- An object as C has it: numbers only. "Fields are those of tables A.1 to A.3."
use Rattle.std.specs.Prelude.{ℕ, eqb, Ok, Err}
use Rattle.octets.specs.Pick.{pick}
use Rattle.pool.specs.{declared.BaseHead.BaseHead, declared.FunctionHead.FunctionHead, declared.StateHead.StateHead}
use Rattle.pool.specs.declared.Head.TheVariants.{Base, Function, State}
use Rattle.objects.specs.{Objects.Kind, declared.Object.Object, declared.Found.Found}
use Rattle.flat_object.specs.declared.FlatObject.{FlatObject}

-- the number of each case
abbrev pub kind_number : Kind → ℕ
kind_number (Ok (Base h)) = 0
kind_number (Ok (Function h)) = 1
kind_number (Ok (State h)) = 2
kind_number (Err p) = 255

-- a field, of a base by table A.1, of a function by A.2, of a state by A.3; where no object can be read, 0
abbrev pub by : Kind → (BaseHead → ℕ) → (FunctionHead → ℕ) → (StateHead → ℕ) → ℕ
by (Ok (Base h)) base function state = base h
by (Ok (Function h)) base function state = function h
by (Ok (State h)) base function state = state h
by (Err p) base function state = 0

-- in a table that does not have the field: 0
abbrev pub no : {A : Type 0} → A → ℕ
no h = 0

-- each field with what it holds by A.1, by A.2 and by A.3
abbrev pub flat_kind : Kind → ℕ → Found → FlatObject
flat_kind k place f = record {
  kind = kind_number k;
  place = place;
  next = f.next;
  number = by k BaseHead.number FunctionHead.number StateHead.number;
  standard = by k BaseHead.version no no;
  master = by k BaseHead.master no no;
  mask = by k BaseHead.mask no no;
  name = by k BaseHead.name FunctionHead.name StateHead.name;
  picture = by k BaseHead.picture FunctionHead.picture StateHead.picture;
  function = by k no FunctionHead.function no;
  trigger = by k no FunctionHead.trigger no;
  attribute = by k no FunctionHead.attribute no;
  minimum = by k no FunctionHead.minimum no;
  maximum = by k no FunctionHead.maximum no;
  offset = by k no FunctionHead.offset no;
  scale = by k no FunctionHead.scale no;
  decimals = by k no FunctionHead.decimals no;
  unit = by k no FunctionHead.unit no;
  state = by k no no StateHead.state;
  n = by k BaseHead.n no no;
  m = by k BaseHead.m no no;
  count = by k BaseHead.o FunctionHead.s no;
  version = f.object.version;
  configuration = f.object.configuration;
  list = f.object.list;
}

abbrev pub flat_object : ℕ → Found → FlatObject
flat_object place f = flat_kind f.object.kind place f

-- ---- and back: of the numbers those that the kind has, and neither `place` nor `next`; the cells of labels and list, whatever the kind is

abbrev pub base_from : FlatObject → BaseHead
base_from f = record {
  number = f.number;
  version = f.standard;
  master = f.master;
  mask = f.mask;
  name = f.name;
  picture = f.picture;
  n = f.n;
  m = f.m;
  o = f.count;
}

abbrev pub function_from : FlatObject → FunctionHead
function_from f = record {
  number = f.number;
  function = f.function;
  trigger = f.trigger;
  attribute = f.attribute;
  minimum = f.minimum;
  maximum = f.maximum;
  offset = f.offset;
  scale = f.scale;
  decimals = f.decimals;
  unit = f.unit;
  name = f.name;
  picture = f.picture;
  s = f.count;
}

abbrev pub state_from : FlatObject → StateHead
state_from f = record { number = f.number; state = f.state; name = f.name; picture = f.picture }

-- a number of no kind makes no object
abbrev pub kind_from : FlatObject → Kind
kind_from f = pick (eqb f.kind 0) (Ok (Base (base_from f))) (pick (eqb f.kind 1) (Ok (Function (function_from f))) (pick (eqb f.kind 2) (Ok (State (state_from f))) (Err 0)))

abbrev pub object_from : FlatObject → Object
object_from f = record { kind = kind_from f; version = f.version; configuration = f.configuration; list = f.list }
