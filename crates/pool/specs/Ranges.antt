-- 01, "The pool": the ranges of the fields, over the fields by name.
use Rattle.std.specs.Prelude.{ℕ, Bool, not, ◌&&◌, ◌||◌, leb, eqb}
use Rattle.pool.specs.{declared.BaseHead.BaseHead, declared.FunctionHead.FunctionHead, declared.StateHead.StateHead, declared.Head.Head}
use Rattle.pool.specs.declared.Head.TheVariants.{Base, Function, State}

-- "N of 0 or above 63, code 09, then M so, 0B"; "63 decides"
abbrev pub label_right : ℕ → Bool
label_right n = leb 1 n && leb n 63

-- "base number 0, others 1 to 65534"
abbrev pub number_right : ℕ → Bool
number_right n = leb 1 n && leb n 65534

-- "names and pictures not FFFF"
abbrev pub names_right : ℕ → ℕ → Bool
names_right name picture = not (eqb name 0xFFFF) && not (eqb picture 0xFFFF)

-- "base number 0", "version 0 to 2; O at least 1"
abbrev pub base_right : BaseHead → Bool
base_right h = eqb h.number 0 && leb h.version 2 && leb 1 h.o && names_right h.name h.picture

-- "state ID at most 63"
abbrev pub state_right : StateHead → Bool
state_right h = number_right h.number && leb h.state 63 && names_right h.name h.picture

-- "preferred trigger 1, 2 or 255"
abbrev pub trigger_right : ℕ → Bool
trigger_right t = eqb t 1 || eqb t 2 || eqb t 255

-- "scale finite and above zero": its bits are those of an f32 from the least above zero to the greatest finite one
abbrev pub scale_right : ℕ → Bool
scale_right bits = leb 1 bits && leb bits 0x7F7FFFFF

-- "Style 00: minimum, maximum, offset, scale, decimals and unit are all one bits."
abbrev pub unshown_right : FunctionHead → Bool
unshown_right h =
    eqb h.minimum 0xFFFFFFFF
    && eqb h.maximum 0xFFFFFFFF
    && eqb h.offset 0xFFFFFFFF
    && eqb h.scale 0xFFFFFFFF
    && eqb h.decimals 0xFF
    && eqb h.unit 0xFFFF

-- "Styles 01 and 10: scale finite and above zero, decimals at most 7, unit not FFFF."
abbrev pub shown_right : FunctionHead → Bool
shown_right h = scale_right h.scale && leb h.decimals 7 && not (eqb h.unit 0xFFFF)

-- "attribute 0 to 2"; "Style 01: minimum and maximum are all one bits. Style 10: minimum at most maximum."
abbrev pub value_right : FunctionHead → Bool
value_right h =
    eqb h.attribute 0 && unshown_right h
    || eqb h.attribute 1 && eqb h.minimum 0xFFFFFFFF && eqb h.maximum 0xFFFFFFFF && shown_right h
    || eqb h.attribute 2 && leb h.minimum h.maximum && shown_right h

-- "S at most 64"
abbrev pub function_right : FunctionHead → Bool
function_right h = number_right h.number && trigger_right h.trigger && leb h.s 64 && names_right h.name h.picture && value_right h

-- every field of an object is in its range
abbrev pub head_right : Head → Bool
head_right (Base h) = base_right h
head_right (Function h) = function_right h
head_right (State h) = state_right h
