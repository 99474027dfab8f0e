-- 01, "Messages": "A message written and read back is the same message.", of a message as C has it: what `write` wrote, `read` reads back. The function
-- `read_back` of the crate ensures these statements.
use Rattle.std.specs.Prelude.{ℕ, ◌-◌, ◌<◌, ◌≡◌, Bool, false, ◌||◌, List, [], ◌∷◌, ◌++◌, eqb, length, take, drop, replicate}
use Rattle.octets.specs.{Pick.pick, Label.blank, declared.label.Label.Label}
use Rattle.message.specs.{Clauses.label_ab, Messages.written_of, Messages.written_over, declared.Capability.Capability, declared.Message.TheVariants.Transfer}
use Rattle.flat.specs.{Flat.message_from, Flat.reading_of, declared.MessageStep.MessageStep, declared.Flat.Flat}

-- ---- kinds are those of C.2 to E.8 in the order of the clauses, from 1

abbrev among : ℕ → List ℕ → Bool
among kind [] = false
among kind (k ∷ ks) = eqb kind k || among kind ks

-- "together with the side that sent it": a client, side 0, sends C.2, C.4, D.2, D.4, D.6, D.8, D.10, D.12, D.14, E.3, E.4 and E.7, the master, side 1,
-- the others
abbrev pub sender_of : ℕ → ℕ
sender_of kind = pick (among kind (1 ∷ 3 ∷ 5 ∷ 7 ∷ 9 ∷ 11 ∷ 13 ∷ 15 ∷ 17 ∷ 20 ∷ 21 ∷ 24 ∷ [])) 0 1

-- ---- a message with 0 in the fields that its kind lacks

module _ (f : Flat) where
  -- a field that these kinds have
  abbrev of : List ℕ → ℕ → ℕ
  of kinds value = pick (among f.kind kinds) value 0

  -- C.3
  abbrev capability : Capability
  capability =
      record {
        version = of (2 ∷ []) f.capability.version;
        width = of (2 ∷ []) f.capability.width;
        height = of (2 ∷ []) f.capability.height;
        characters = of (2 ∷ []) f.capability.characters;
        colour = of (2 ∷ []) f.capability.colour;
        size = of (2 ∷ []) f.capability.size;
        font = of (2 ∷ []) f.capability.font;
        style = of (2 ∷ []) f.capability.style;
      }

  -- E.4 to E.8: E.6 has no status, E.5 and E.7 have an error, E.4 and E.6 a value
  abbrev step : MessageStep
  step =
      record {
        function = of (21 ∷ 22 ∷ 23 ∷ 24 ∷ 25 ∷ []) f.step.function;
        state = of (21 ∷ 22 ∷ 23 ∷ 24 ∷ 25 ∷ []) f.step.state;
        status = of (21 ∷ 22 ∷ 24 ∷ 25 ∷ []) f.step.status;
        error = of (22 ∷ 24 ∷ []) f.step.error;
        tan = of (21 ∷ 22 ∷ 23 ∷ 24 ∷ 25 ∷ []) f.step.tan;
        value = of (21 ∷ 23 ∷ []) f.step.value;
      }

  -- D.3 and D.5: the label's bytes, and 0 in the cells past them
  abbrev label : Label
  label =
      let n : ℕ = f.label.length in
      pick (among f.kind (6 ∷ 8 ∷ [])) (record { length = n; bytes = take n f.label.bytes ++ replicate (63 - n) 0 }) blank

  abbrev pub plain : Flat
  plain =
      record {
        kind = f.kind;
        code = of (1 ∷ 4 ∷ 6 ∷ 8 ∷ 10 ∷ 12 ∷ 13 ∷ 14 ∷ 16 ∷ 18 ∷ 19 ∷ 20 ∷ []) f.code;
        reason = of (19 ∷ []) f.reason;
        object = of (12 ∷ []) f.object;
        memory = of (3 ∷ []) f.memory;
        capability = capability;
        step = step;
        label = label;
      }

-- what the types in C say of the numbers of more than a byte and of the label's cells
pub record Fits (f : Flat) : Type 0 where
  pub object : f.object < 65_536
  pub memory : f.memory < 4_294_967_296
  pub characters : f.capability.characters < 65_536
  pub value : f.step.value < 4_294_967_296
  pub cells : length f.label.bytes ≡ 63

-- ---- what was laid in out

abbrev pub sent : Flat → List ℕ → List ℕ
sent f out = take (written_of (message_from f) f.label [] (length out)).length (written_over (message_from f) f.label [] out)

abbrev pub sent_transfer : List ℕ → List ℕ → List ℕ
sent_transfer pool out = take (written_of Transfer blank pool (length out)).length (written_over Transfer blank pool out)

-- ---- two messages: D.3 with the label AB, and the command of 01's cases

abbrev zeros : Capability
zeros = record { version = 0; width = 0; height = 0; characters = 0; colour = 0; size = 0; font = 0; style = 0 }

abbrev pub version_ab : Flat
version_ab =
    record {
      kind = 6;
      code = 0;
      reason = 0;
      object = 0;
      memory = 0;
      capability = zeros;
      step = record { function = 0; state = 0; status = 0; error = 0; tan = 0; value = 0 };
      label = label_ab;
    }

abbrev pub command240 : Flat
command240 =
    record {
      kind = 23;
      code = 0;
      reason = 0;
      object = 0;
      memory = 0;
      capability = zeros;
      step = record { function = 5; state = 2; status = 0; error = 0; tan = 255; value = 240 };
      label = blank;
    }

pub record ReadBack : Type 0 where
  pub message :
      (f : Flat) (out : List ℕ) →
      Fits f →
      (written_of (message_from f) f.label [] (length out)).number ≡ 0 →
      reading_of (sender_of f.kind) (sent f out) ≡ record { number = 0; message = plain f }
  -- such as these two, which have eight bytes
  pub labelled : sent version_ab (replicate 8 0) ≡ 0x01 ∷ 0x00 ∷ 0x02 ∷ 0x41 ∷ 0x42 ∷ 0xFF ∷ 0xFF ∷ 0xFF ∷ []
  pub commanded : sent command240 (replicate 8 0) ≡ 0x33 ∷ 0x05 ∷ 0x02 ∷ 0xFF ∷ 0xF0 ∷ 0x00 ∷ 0x00 ∷ 0x00 ∷ []
  -- a message with 0 in the fields that it lacks is read back itself
  pub same :
      (f : Flat) (out : List ℕ) →
      Fits f →
      plain f ≡ f →
      (written_of (message_from f) f.label [] (length out)).number ≡ 0 →
      reading_of (sender_of f.kind) (sent f out) ≡ record { number = 0; message = f }
  -- D.6, kind 9, is written by `write_transfer`: the pool stands after the code
  pub transfer : (pool out : List ℕ) → (written_of Transfer blank pool (length out)).number ≡ 0 → (reading_of 0 (sent_transfer pool out)).number ≡ 0
  pub kind : (pool out : List ℕ) → (written_of Transfer blank pool (length out)).number ≡ 0 → (reading_of 0 (sent_transfer pool out)).message.kind ≡ 9
  pub pool : (pool out : List ℕ) → (written_of Transfer blank pool (length out)).number ≡ 0 → drop 1 (sent_transfer pool out) ≡ pool
