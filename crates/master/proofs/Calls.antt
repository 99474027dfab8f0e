-- What the number of a call says of what it gives back and of the lent bytes, whichever call it is.
use Prim.Native.Nat.{ℕ, ◌<◌}
use mathlib.Core.Path.{◌≡◌, refl}
use mathlib.Core.Bool.{Bool, true, false, ◌||◌, true≢false}
use native.Mathlib.Omega.{arith}
use lib.Dec.{eqb, leb}
use borrow.Author.Tests.{leb-false}
use Rattle.octets.specs.Pick.{pick}
use Rattle.master.specs.declared.Master.{Master}
use lib.Dec.{ltb}
use mathlib.Core.List.{List}
use Rattle.std.proofs.Common.{length}
use Rattle.octets.specs.Numbers.{completed, pool_refused}
use Rattle.octets.specs.Refusals.{refusal_number}
use Rattle.octets.specs.declared.numbers.Refusal.{Refusal}
use Rattle.octets.specs.declared.numbers.Refusal.TheVariants.{TooShort, WrongState, WrongSlot, WrongValue, NotExpected, PoolRefused, NoStep, NotEnabled, NameDiffers, LabelDiffers, NotInPool, NotReady, NotDisabled, NoneEnabled, NoMatch, CheckWrong, NotStored}
use Rattle.master.specs.Call.{Call, refusal, outcome_of, leaves_of, gives}

pick_same : {X : Type 0} (b : Bool) (x : X) → pick b x x ≡ x
unfolding pick
pick_same true x = refl
pick_same false x = refl

-- ---- a refusal

-- a call that is not refused passes each test
pub record Passed (short wrong absent barred : Bool) (own : ℕ) : Type 0 where
  pub fits : short ≡ false
  pub right : wrong ≡ false
  pub here : absent ≡ false
  pub allowed : barred ≡ false
  pub goes : own ≡ 0

pub passed : (short wrong absent barred : Bool) (own : ℕ) → refusal short wrong absent barred own ≡ 0 → Passed short wrong absent barred own
unfolding pick refusal
passed true wrong absent barred own e = absurd (omega (arith, e))
passed false true absent barred own e = absurd (omega (arith, e))
passed false false true barred own e = absurd (omega (arith, e))
passed false false false true own e = absurd (omega (arith, e))
passed false false false false own e = record { fits = refl; right = refl; here = refl; allowed = refl; goes = e }

-- a slot that is not absent is below 8
pub below : (slot : ℕ) (b : Bool) → (leb 8 slot || b) ≡ false → slot < 8
below slot b e = go (leb 8 slot) refl e
  where
    go : (t : Bool) → leb 8 slot ≡ t → (t || b) ≡ false → slot < 8
    go true t e = absurd (true≢false e)
    go false t e = leb-false 8 slot t

-- ---- a call that is refused or done, test by test

pub some_number : (e : Refusal) → eqb (refusal_number e) 0 ≡ false
some_number TooShort = refl
some_number WrongState = refl
some_number WrongSlot = refl
some_number WrongValue = refl
some_number NotExpected = refl
some_number PoolRefused = refl
some_number NoStep = refl
some_number NotEnabled = refl
some_number NameDiffers = refl
some_number LabelDiffers = refl
some_number NotInPool = refl
some_number NotReady = refl
some_number NotDisabled = refl
some_number NoneEnabled = refl
some_number NoMatch = refl
some_number CheckWrong = refl
some_number NotStored = refl

module _ (c : Call) (m : Master) where
  pub gives_too_short : {e : Refusal} → ltb (length c.lent) c.needs ≡ true → e ≡ TooShort → gives (refusal_number e) m ≡ outcome_of m c
  unfolding pick gives outcome_of refusal
  gives_too_short s e = rw (e, s)

  pub gives_wrong : {e : Refusal} → ltb (length c.lent) c.needs ≡ false → c.wrong ≡ true → e ≡ WrongValue → gives (refusal_number e) m ≡ outcome_of m c
  unfolding pick gives outcome_of refusal
  gives_wrong s w e = rw (e, s, w)

  pub gives_absent :
      {e : Refusal} → ltb (length c.lent) c.needs ≡ false → c.wrong ≡ false → c.absent ≡ true → e ≡ WrongSlot → gives (refusal_number e) m ≡ outcome_of m c
  unfolding pick gives outcome_of refusal
  gives_absent s w a e = rw (e, s, w, a)

  pub gives_barred :
      {e : Refusal} → ltb (length c.lent) c.needs ≡ false → c.wrong ≡ false → c.absent ≡ false → c.barred ≡ true → e ≡ WrongState
      → gives (refusal_number e) m ≡ outcome_of m c
  unfolding pick gives outcome_of refusal
  gives_barred s w a b e = rw (e, s, w, a, b)

  -- its own rule refuses it
  pub gives_own :
      (e : Refusal) → ltb (length c.lent) c.needs ≡ false → c.wrong ≡ false → c.absent ≡ false → c.barred ≡ false → refusal_number e ≡ c.own
      → c.code ≡ 0 → c.object ≡ 0 → gives (refusal_number e) m ≡ outcome_of m c
  unfolding pick gives outcome_of refusal
  gives_own e s w a b own code object =
      rw (s, w, a, b, ← own, some_number e, code, object, pick_same {X = ℕ} (eqb (refusal_number e) 6) 0)

  -- its own rule refuses its pool
  pub gives_pool :
      {code object : ℕ} → ltb (length c.lent) c.needs ≡ false → c.wrong ≡ false → c.absent ≡ false → c.barred ≡ false → c.own ≡ 6 → code ≡ c.code
      → object ≡ c.object → record { number = pool_refused; code = code; object = object; count = 0; master = m } ≡ outcome_of m c
  unfolding pick outcome_of refusal
  gives_pool s w a b own code object = rw (s, w, a, b, own, code, object)

  pub gives_done :
      {after : Master} → ltb (length c.lent) c.needs ≡ false → c.wrong ≡ false → c.absent ≡ false → c.barred ≡ false → c.own ≡ 0 → c.count ≡ 0
      → after ≡ c.after → gives completed after ≡ outcome_of m c
  unfolding pick gives outcome_of refusal
  gives_done s w a b own count after = rw (s, w, a, b, own, count, after)

  pub gives_counted :
      {after : Master} → {count : ℕ} → ltb (length c.lent) c.needs ≡ false → c.wrong ≡ false → c.absent ≡ false → c.barred ≡ false → c.own ≡ 0
      → count ≡ c.count → after ≡ c.after → record { number = completed; code = 0; object = 0; count = count; master = after } ≡ outcome_of m c
  unfolding pick outcome_of refusal
  gives_counted s w a b own count after = rw (s, w, a, b, own, count, after)

module _ (c : Call) where
  -- the lent bytes: as they were, or as they are written
  pub leaves_too_short : {out : List ℕ} → ltb (length c.lent) c.needs ≡ true → out ≡ c.lent → out ≡ leaves_of c
  unfolding pick leaves_of refusal
  leaves_too_short s same = rw (s, same)

  pub leaves_wrong : {out : List ℕ} → ltb (length c.lent) c.needs ≡ false → c.wrong ≡ true → out ≡ c.lent → out ≡ leaves_of c
  unfolding pick leaves_of refusal
  leaves_wrong s w same = rw (s, w, same)

  pub leaves_absent : {out : List ℕ} → ltb (length c.lent) c.needs ≡ false → c.wrong ≡ false → c.absent ≡ true → out ≡ c.lent → out ≡ leaves_of c
  unfolding pick leaves_of refusal
  leaves_absent s w a same = rw (s, w, a, same)

  pub leaves_barred :
      {out : List ℕ} → ltb (length c.lent) c.needs ≡ false → c.wrong ≡ false → c.absent ≡ false → c.barred ≡ true → out ≡ c.lent → out ≡ leaves_of c
  unfolding pick leaves_of refusal
  leaves_barred s w a b same = rw (s, w, a, b, same)

  pub leaves_own :
      {out : List ℕ} → ltb (length c.lent) c.needs ≡ false → c.wrong ≡ false → c.absent ≡ false → c.barred ≡ false → eqb c.own 0 ≡ false
      → out ≡ c.lent → out ≡ leaves_of c
  unfolding pick leaves_of refusal
  leaves_own s w a b own same = rw (s, w, a, b, own, same)

  pub leaves_done :
      {out : List ℕ} → ltb (length c.lent) c.needs ≡ false → c.wrong ≡ false → c.absent ≡ false → c.barred ≡ false → c.own ≡ 0 → out ≡ c.written
      → out ≡ leaves_of c
  unfolding pick leaves_of refusal
  leaves_done s w a b own writes = rw (s, w, a, b, own, writes)

pub ruleset calls = (
  gives_too_short,
  gives_wrong,
  gives_absent,
  gives_barred,
  gives_own,
  gives_pool,
  gives_done,
  gives_counted,
  leaves_too_short,
  leaves_wrong,
  leaves_absent,
  leaves_barred,
  leaves_own,
  leaves_done,
  some_number,
)
