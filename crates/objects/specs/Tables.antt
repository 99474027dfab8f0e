-- 01, "The pool": "Fields are those of tables A.1 to A.3.", "Numbers are least significant byte first": what the objects of a pool in which no two
-- fields of an object are alike are read as. The function `tables` of the crate ensures these statements.
use Rattle.std.specs.Prelude.{◌≡◌, ◌∷◌, replicate, Ok}
use Rattle.pool.specs.{Sample.sample, declared.Head.TheVariants.Base, declared.Head.TheVariants.Function, declared.Head.TheVariants.State}
use Rattle.objects.specs.{declared.Object.Object, Objects.found_at}

abbrev pub base_object : Object
base_object =
    record {
      kind =
          Ok
          (Base
          (record {
            number = 0;
            version = 2;
            master = 0x1817161514131211;
            mask = 0x2827262524232221;
            name = 0x3231;
            picture = 0x3433;
            n = 3;
            m = 4;
            o = 1;
          }));
      version = 0x41 ∷ 0x42 ∷ 0x43 ∷ replicate 60 0;
      configuration = 0x44 ∷ 0x45 ∷ 0x46 ∷ 0x47 ∷ replicate 59 0;
      list = 0x0102 ∷ replicate 254 0;
    }

abbrev pub function_object : Object
function_object =
    record {
      kind =
          Ok
          (Function
          (record {
            number = 0x0102;
            function = 0x51;
            trigger = 255;
            attribute = 2;
            minimum = 0x04030201;
            maximum = 0x08070605;
            offset = 0x64636261;
            scale = 0x74737271;
            decimals = 6;
            unit = 0x3635;
            name = 0x3837;
            picture = 0x3A39;
            s = 3;
          }));
      version = replicate 63 0;
      configuration = replicate 63 0;
      list = 0x0103 ∷ 0x0104 ∷ 0x0105 ∷ replicate 252 0;
    }

abbrev pub state_object : Object
state_object =
    record {
      kind = Ok (State (record { number = 0x0103; state = 9; name = 0x3C3B; picture = 0x3E3D }));
      version = replicate 63 0;
      configuration = replicate 63 0;
      list = replicate 255 0;
    }

pub record Tables : Type 0 where
  -- table A.1: "base 27 + N + M + 2·O bytes"
  pub base : found_at sample 0 ≡ record { object = base_object; next = 36 }
  -- table A.2: "function 30 + 2·S"
  pub function : found_at sample 36 ≡ record { object = function_object; next = 72 }
  -- table A.3: "state 8"
  pub state : found_at sample 72 ≡ record { object = state_object; next = 80 }
