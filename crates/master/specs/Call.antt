-- 01, "Numbers a call gives back": a call as one record, and what every call gives back.
use Rattle.std.specs.Prelude.{◌≡◌, ℕ, Bool, true, false, not, ◌||◌, List, [], eqb, leb, ltb, length, get_or, Result, Ok, Err, MatchResult}
use Rattle.octets.specs.{Pick.pick, Refusals.refusal_number, declared.numbers.Refusal.Refusal}
use Rattle.octets.specs.Numbers.{completed, too_short, wrong_state, wrong_slot, wrong_value, pool_refused}
use Rattle.client.specs.{Clients.is_taken, Clients.no_slot, declared.Client.Client}
use Rattle.master.specs.{declared.Master.Master, declared.Outcome.Outcome}

-- a call on a master
pub record Call : Type 0 where
  -- the numbers that it can give: "A call is refused only where the table or a rule names the number"
  pub numbers : List ℕ
  -- the bytes lent to it to write in, none to most calls, and "1 lent output too short": how many it needs
  pub lent : List ℕ
  pub needs : ℕ
  -- "4 message of wrong length, code unknown for its direction or call, .. a report of no known state, a tick of more than 65,535 mm"
  pub wrong : Bool
  -- "3 slot above 7, empty, or (attaching) taken, or NAME already attached"
  pub absent : Bool
  -- "2 not allowed in this state"
  pub barred : Bool
  -- "the rest in the order that the call's own rule gives"; 0 where the call is done
  pub own : ℕ
  -- "6 pool refused, with the D.9 code and object number"
  pub code : ℕ
  pub object : ℕ
  -- where it is done: the master after it, how many frames of a tick or bytes of a store there are, and the lent bytes
  pub after : Master
  pub count : ℕ
  pub written : List ℕ

-- a call that is lent nothing to write in, and has neither message nor slot: it is barred, refused by its own rule, or done
abbrev pub bare : List ℕ → Bool → ℕ → Master → Call
bare numbers barred own after = record {
  numbers = numbers;
  lent = [];
  needs = 0;
  wrong = false;
  absent = false;
  barred = barred;
  own = own;
  code = 0;
  object = 0;
  after = after;
  count = 0;
  written = [];
}

-- "Where several apply: 1, 4, 3, 2, then the rest in the order that the call's own rule gives."
unfoldable pub refusal : Bool → Bool → Bool → Bool → ℕ → ℕ
refusal short wrong absent barred own =
    pick short too_short
    (pick wrong wrong_value
    (pick absent wrong_slot
    (pick barred wrong_state
    own)))

abbrev pub number_of : Call → ℕ
number_of c = refusal (ltb (length c.lent) c.needs) c.wrong c.absent c.barred c.own

-- "Every number but 0 leaves the state and all lent memory unchanged."
unfoldable pub outcome_of : Master → Call → Outcome
outcome_of m c =
    let number : ℕ = number_of c in
    record {
      number = number;
      code = pick (eqb number pool_refused) c.code 0;
      object = pick (eqb number pool_refused) c.object 0;
      count = pick (eqb number completed) c.count 0;
      master = pick (eqb number completed) c.after m;
    }

unfoldable pub leaves_of : Call → List ℕ
leaves_of c = pick (eqb (number_of c) completed) c.written c.lent

-- the number, and the master as it is after the call
unfoldable pub gives : ℕ → Master → Outcome
gives number m = record { number = number; code = 0; object = 0; count = 0; master = m }

-- a slot above 7 is read as an empty one
abbrev pub slot_at : Master → ℕ → Client
slot_at m slot = get_or m.slots slot no_slot

-- "3: slot above 7, empty"
abbrev pub is_absent : Master → ℕ → Bool
is_absent m slot = leb 8 slot || not (is_taken (slot_at m slot))

-- the same of a call that says how many frames or bytes there are
abbrev pub counted : Result ℕ Refusal → Master → Outcome
counted (Ok count) m = record { number = completed; code = 0; object = 0; count = count; master = m }
counted (Err why) m = gives (refusal_number why) m

-- a test that refuses a call: an error says that it holds, and gives its number
abbrev pub Refuses : {T : Type 0} → Bool → Refusal → Result T Refusal → Type 0
Refuses test why answer = MatchResult answer (λ _. test ≡ false) (λ e. (test ≡ true) × (e ≡ why))
