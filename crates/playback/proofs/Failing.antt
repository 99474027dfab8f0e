-- A list of checks: the first that does not hold.
use mathlib.Core.Path.{◌≡◌, refl, sym, ap, ◌∙◌}
use mathlib.Core.Bool.{Bool, true, false, not, ◌||◌}
use mathlib.Core.Logic.{◌⊎◌, inl, inr}
use mathlib.Core.List.{List, [], ◌∷◌, ◌++◌, flat_map}
use Prim.Native.Nat.{ℕ, ◌≤◌}
use native.Mathlib.Omega.{arith}
use lib.Dec.{eqb}
use borrow.Author.Tests.{eq-eqb, ne_eqb}
use Rattle.octets.specs.Pick.{pick}
use Rattle.arrays.specs.Arrays.{some}
use Rattle.octets.specs.Refusals.{refusal_number}
use Rattle.octets.specs.declared.numbers.Refusal.{Refusal}
use Rattle.octets.specs.declared.numbers.Refusal.TheVariants.{TooShort, WrongState, WrongSlot, WrongValue, NotExpected, PoolRefused, NoStep, NotEnabled, NameDiffers, LabelDiffers, NotInPool, NotReady, NotDisabled, NoneEnabled, NoMatch, CheckWrong, NotStored}
use Rattle.octets.specs.Numbers.{completed, no_step, not_enabled, label_differs, not_in_pool, not_ready}
use Rattle.client.specs.Clients.{ready_report}
use Rattle.client.specs.Records.{is_used}
use Rattle.client.specs.declared.Client.{Client}
use Rattle.client.specs.declared.ClientRecord.{ClientRecord}
use Rattle.sequence.specs.Sequence.{steps_of}
use Rattle.sequence.specs.declared.Step.{Step}
use Rattle.sequence.specs.declared.Sequence.{Sequence}
use Rattle.playback.specs.Pairs.{pairs}
use Rattle.playback.specs.Verification.{Check, Rule, first_failing, of_sequence, client_checks, is_in_pool, step_checks, ready_checks, checks_by}
use Rattle.playback.specs.Named.{fails}

-- the checks' numbers are these, from one to another
abbrev pub Within : ℕ → ℕ → List Check → Type 0
Within from to [] = Unit {0}
Within from to (c ∷ cs) = ((from ≤ c.1) × (c.1 ≤ to)) × Within from to cs

-- 7 to 12
abbrev pub Numbered : List Check → Type 0
Numbered = Within no_step not_ready

-- what is found in the first list is found
pub found : (a b : List Check) → (first_failing a ≡ 0 → ⊥) → first_failing (a ++ b) ≡ first_failing a
unfolding pick first_failing
found [] b h = absurd (h refl)
found ((true, n) ∷ a) b h = found a b h
found ((false, n) ∷ a) b h = refl

-- where the first list holds, the second is asked
pub passed : (a b : List Check) → Numbered a → first_failing a ≡ 0 → first_failing (a ++ b) ≡ first_failing b
unfolding pick first_failing
passed [] b k e = refl
passed ((true, n) ∷ a) b k e = passed a b k.1 e
passed ((false, n) ∷ a) b k e = absurd (omega (arith, k.0.0))

module _ (from to : ℕ) where
  pub within_append : (a b : List Check) → Within from to a → Within from to b → Within from to (a ++ b)
  within_append [] b k l = l
  within_append (c ∷ a) b k l = (k.0, within_append a b k.1 l)

  pub within_all : {X : Type 0} (f : X → List Check) → ((x : X) → Within from to (f x)) → (l : List X) → Within from to (flat_map f l)
  unfolding flat_map
  within_all f k [] = tt
  within_all f k (x ∷ l) = within_append (f x) (flat_map f l) (k x) (within_all f k l)

  within_of : (c : ClientRecord) (l : List Check) → Within from to l → Within from to (of_sequence c l)
  unfolding pick of_sequence
  within_of c l k = go (is_used c)
    where
      go : (b : Bool) → Within from to (pick b l [])
      go true = k
      go false = tt

  pub within_wider : no_step ≤ from → to ≤ not_ready → (l : List Check) → Within from to l → Numbered l
  within_wider a b [] k = tt
  within_wider a b (c ∷ l) k = let h = k.0 in ((omega arith, omega arith), within_wider a b l k.1)

  -- so is the first that does not hold, if there is one
  pub within_first : (l : List Check) → Within from to l → (first_failing l ≡ 0) ⊎ ((from ≤ first_failing l) × (first_failing l ≤ to))
  unfolding pick first_failing
  within_first [] k = inl refl
  within_first ((true, n) ∷ l) k = within_first l k.1
  within_first ((false, n) ∷ l) k = inr k.0

pub client_within : (agree : Rule) (x : Client × ClientRecord) → Within not_enabled label_differs (client_checks agree x)
unfolding client_checks
client_within agree x = within_of not_enabled label_differs x.1 _ ((omega arith, omega arith), ((omega arith, omega arith), ((omega arith, omega arith), tt)))

pub step_within : (slots : List Client) (s : Step) → Within not_in_pool not_in_pool (step_checks slots s)
unfolding step_checks
step_within slots s = ((omega arith, omega arith), tt)

pub ready_within : (x : Client × ClientRecord) → Within not_ready not_ready (ready_checks x)
unfolding ready_checks
ready_within x = within_of not_ready not_ready x.1 _ ((omega arith, omega arith), tt)

pub client_numbered : (agree : Rule) (x : Client × ClientRecord) → Numbered (client_checks agree x)
client_numbered agree x = within_wider not_enabled label_differs (omega arith) (omega arith) (client_checks agree x) (client_within agree x)

pub step_numbered : (slots : List Client) (s : Step) → Numbered (step_checks slots s)
step_numbered slots s = within_wider not_in_pool not_in_pool (omega arith) (omega arith) (step_checks slots s) (step_within slots s)

pub ready_numbered : (x : Client × ClientRecord) → Numbered (ready_checks x)
ready_numbered x = within_wider not_ready not_ready (omega arith) (omega arith) (ready_checks x) (ready_within x)

pub checks_numbered : (agree : Rule) (slots : List Client) (q : Sequence) → Numbered (checks_by agree slots q)
unfolding checks_by
checks_numbered agree slots q = (
  (omega arith, omega arith),
  within_append no_step not_ready (flat_map (client_checks agree) (pairs slots q.records)) _ (within_all no_step not_ready (client_checks agree) (client_numbered agree) (pairs slots q.records))
      (within_append no_step not_ready (flat_map (step_checks slots) (steps_of q)) _ (within_all no_step not_ready (step_checks slots) (step_numbered slots) (steps_of q))
      (within_all no_step not_ready ready_checks ready_numbered (pairs slots q.records))),
)

-- a refusal has a number
pub refused : (why : Refusal) → refusal_number why ≡ 0 → ⊥
refused TooShort e = absurd (omega (arith, e))
refused WrongState e = absurd (omega (arith, e))
refused WrongSlot e = absurd (omega (arith, e))
refused WrongValue e = absurd (omega (arith, e))
refused NotExpected e = absurd (omega (arith, e))
refused PoolRefused e = absurd (omega (arith, e))
refused NoStep e = absurd (omega (arith, e))
refused NotEnabled e = absurd (omega (arith, e))
refused NameDiffers e = absurd (omega (arith, e))
refused LabelDiffers e = absurd (omega (arith, e))
refused NotInPool e = absurd (omega (arith, e))
refused NotReady e = absurd (omega (arith, e))
refused NotDisabled e = absurd (omega (arith, e))
refused NoneEnabled e = absurd (omega (arith, e))
refused NoMatch e = absurd (omega (arith, e))
refused CheckWrong e = absurd (omega (arith, e))
refused NotStored e = absurd (omega (arith, e))

-- ---- a list for each element

module _ {X : Type 0} (f : X → List Check) (numbered : (x : X) → Numbered (f x)) where
  -- the first element's decides, or the others'
  pub passed_one : (x : X) (l : List X) → 0 ≡ first_failing (f x) → first_failing (flat_map f (x ∷ l)) ≡ first_failing (flat_map f l)
  unfolding flat_map
  passed_one x l e = passed (f x) (flat_map f l) (numbered x) (sym e)

  pub found_one : (x : X) (l : List X) (r : ℕ) → r ≡ first_failing (f x) → (r ≡ 0 → ⊥) → r ≡ first_failing (flat_map f (x ∷ l))
  unfolding flat_map
  found_one x l r e h = e ∙ sym (found (f x) (flat_map f l) (λ k. h (e ∙ k)))

  -- one check for each, all of one number
  module _ (bad : X → Bool) (n : ℕ) (some_number : n ≡ 0 → ⊥) (each : (x : X) → first_failing (f x) ≡ pick (bad x) n 0) where
    pub one_number : (l : List X) → first_failing (flat_map f l) ≡ pick (some bad l) n 0
    unfolding pick first_failing flat_map
    one_number [] = refl
    one_number (x ∷ l) = go (bad x) (each x) (one_number l)
      where
        go : (b : Bool) → first_failing (f x) ≡ pick b n 0 → first_failing (flat_map f l) ≡ pick (some bad l) n 0
            → first_failing (f x ++ flat_map f l) ≡ pick (b || some bad l) n 0
        go true e k = found (f x) (flat_map f l) (λ z. some_number (sym e ∙ z)) ∙ e
        go false e k = passed (f x) (flat_map f l) (numbered x) e ∙ k

-- "11 function or state not in the loaded pool"
pub steps_in_pool : (slots : List Client) (l : List Step)
    → first_failing (flat_map (step_checks slots) l) ≡ pick (some (λ s. not (is_in_pool slots s)) l) not_in_pool completed
unfolding pick first_failing step_checks
steps_in_pool slots = one_number (step_checks slots) (step_numbered slots) (λ s. not (is_in_pool slots s)) 11 (λ e. omega arith) (λ s. go (is_in_pool slots s))
  where
    go : (b : Bool) → ◌≡◌ {A = ℕ} (pick b 0 11) (pick (not b) 11 0)
    go true = refl
    go false = refl

-- "12 a client is not reporting ready"
pub all_ready : (l : List (Client × ClientRecord)) → first_failing (flat_map ready_checks l) ≡ pick (some (fails ready_checks) l) not_ready completed
unfolding pick first_failing of_sequence ready_checks
all_ready = one_number ready_checks ready_numbered (fails ready_checks) 12 (λ e. omega arith) (λ x. go (is_used x.1) (eqb x.0.report ready_report))
  where
    go : (u r : Bool) → first_failing (pick u ((r, 12) ∷ []) []) ≡ pick (not (eqb (first_failing (pick u ((r, 12) ∷ []) [])) 0)) 12 0
    go true true = refl
    go true false = refl
    go false r = refl

-- ---- the checks of a start: which list is asked

module _ (agree : Rule) (slots : List Client) (q : Sequence) where
  abbrev pub clients : List Check
  clients = flat_map (client_checks agree) (pairs slots q.records)

  abbrev pub steps : List Check
  steps = flat_map (step_checks slots) (steps_of q)

  abbrev pub reports : List Check
  reports = flat_map ready_checks (pairs slots q.records)

  clients_numbered : Numbered clients
  clients_numbered = within_all no_step not_ready (client_checks agree) (client_numbered agree) (pairs slots q.records)

  steps_numbered : Numbered steps
  steps_numbered = within_all no_step not_ready (step_checks slots) (step_numbered slots) (steps_of q)

  pub without_step : q.count ≡ 0 → no_step ≡ first_failing (checks_by agree slots q)
  unfolding pick first_failing checks_by
  without_step e = rw (eq-eqb _ _ e)

  module _ (z : q.count ≡ 0 → ⊥) where
    with_steps : first_failing (checks_by agree slots q) ≡ first_failing (clients ++ (steps ++ reports))
    unfolding pick first_failing checks_by
    with_steps = rw (ne_eqb _ _ z)

    pub by_client : (r : ℕ) → r ≡ first_failing clients → (r ≡ 0 → ⊥) → r ≡ first_failing (checks_by agree slots q)
    by_client r e h = e ∙ sym (with_steps ∙ found clients _ (λ k. h (e ∙ k)))

    module _ (e : 0 ≡ first_failing clients) where
      with_clients : first_failing (checks_by agree slots q) ≡ first_failing (steps ++ reports)
      with_clients = with_steps ∙ passed clients _ clients_numbered (sym e)

      in_pools : (b : Bool) → some (λ s. not (is_in_pool slots s)) (steps_of q) ≡ b → first_failing steps ≡ pick b not_in_pool completed
      in_pools b f = steps_in_pool slots (steps_of q) ∙ ap (λ (t : Bool). pick t not_in_pool completed) f

      pub by_missing : some (λ s. not (is_in_pool slots s)) (steps_of q) ≡ true → not_in_pool ≡ first_failing (checks_by agree slots q)
      unfolding pick
      by_missing f = let k = in_pools true f in sym (with_clients ∙ found steps reports (λ z. omega (arith, k, z)) ∙ k)

      module _ (f : some (λ s. not (is_in_pool slots s)) (steps_of q) ≡ false) where
        by_reports : (b : Bool) → some (fails ready_checks) (pairs slots q.records) ≡ b → pick b not_ready completed ≡ first_failing (checks_by agree slots q)
        unfolding pick
        by_reports b g = sym (with_clients ∙ passed steps reports steps_numbered (in_pools false f) ∙ all_ready (pairs slots q.records) ∙ ap (λ (t : Bool). pick t not_ready completed) g)

        pub by_unready : some (fails ready_checks) (pairs slots q.records) ≡ true → not_ready ≡ first_failing (checks_by agree slots q)
        unfolding pick
        by_unready = by_reports true

        pub all_hold : some (fails ready_checks) (pairs slots q.records) ≡ false → completed ≡ first_failing (checks_by agree slots q)
        unfolding pick
        all_hold = by_reports false
