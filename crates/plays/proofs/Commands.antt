-- The TANs and the bytes of the commands.
use mathlib.Core.Path.{◌≡◌, refl, sym, ap, ◌∙◌, subst}
use mathlib.Core.Bool.{Bool, true, false}
use mathlib.Core.List.{List}
use Prim.Native.Nat.{ℕ, zero, suc, ◌+◌, ◌%◌, ◌≤◌, ◌<◌, min}
use native.Mathlib.Omega.{arith}
use borrow.Author.Tests.{eqb-false, not-true, leb-true, leb-false}
use lib.Dec.{leb}
use lib.ListN.{length, get_or, length-take}
use lib.Seq.{get_or-take}
use Rattle.octets.specs.Pick.{pick}
use Rattle.octets.specs.Octets as octets
use Rattle.arrays.proofs.Every.{every_at}
use Rattle.message.specs.Messages.{octet_of, message_bytes}
use Rattle.sequence.specs.Sequence.{most_steps, blank_step, length_of, steps_of}
use Rattle.sequence.specs.declared.Step.{Step}
use Rattle.sequence.specs.declared.Sequence.{Sequence}
use Rattle.playback.specs.State.{blank_playback}
use Rattle.playback.specs.Tick.{next_tan}
use Rattle.playback.specs.Frames.{frame_of}
use Rattle.playback.specs.Promises.{EveryHolds}
use Rattle.playback.specs.Verification.{rule_of, step_checks, checks_by}
use Rattle.playback.proofs.Holding.{steps_hold, step_listed}
use Rattle.playback.proofs.Framing.{framing}
use Rattle.replay.specs.Run.{Whole, raised}
use Rattle.master.specs.declared.Master.{Master}
use Rattle.master.specs.States as states
use Rattle.master.specs.States.{with_state, with_playback}
use Rattle.events.specs.Events.{start, apply}
use Rattle.events.proofs.Starts.{start_exactly}
use Rattle.events.proofs.Regular.{given_regular}
use Rattle.plays.specs.Plays.{Started, step_at, tan_of, command_of}
use Rattle.plays.proofs.Runs.{given_whole, begun}

-- ---- TANs

next_is : (x : ℕ) → x ≤ 255 → next_tan x ≡ (x + 1) % 256
unfolding next_tan pick
next_is x h = go (leb 255 x) refl
  where
    go : (b : Bool) → leb 255 x ≡ b → pick b 0 (x + 1) ≡ (x + 1) % 256
    go true e = let z = leb-true 255 x e in omega (arith, z, h)
    go false e = let z = leb-false 255 x e in omega (arith, z)

pub raised_is : (tan n : ℕ) → tan ≤ 255 → raised tan n ≡ (tan + n) % 256
raised_is tan zero h = omega (arith, h)
raised_is tan (suc n) h =
    let x = (tan + n) % 256 in
    let l : x ≤ 255 = omega arith in
    ap next_tan (raised_is tan n h) ∙ next_is x l ∙ omega arith

-- ---- the steps of a sequence that may start: "11 function or state not in the loaded pool", and a state is at most 63

pub steps_taken_lem : (q : Sequence) (i : ℕ) → i < length_of q → get_or (steps_of q) i blank_step ≡ get_or q.steps i blank_step
unfolding steps_of
steps_taken_lem q i h = get_or-take q.count q.steps i blank_step (omega (arith, h))

pub steps_count : (q : Sequence) → Whole q → length (steps_of q) ≡ length_of q
unfolding steps_of
steps_count q w = omega (arith, w, length-take q.count q.steps)

state_few : (b : Master) → Whole b.sequence → (apply b start).number ≡ 0 → (i : ℕ) → i < length_of b.sequence → (step_at b i).state < 64
state_few b w z i h =
    let here = every_at (λ (x : Step). EveryHolds (step_checks b.slots x)) (steps_of b.sequence) i blank_step (omega (arith, h, steps_count b.sequence w))
    (steps_hold (rule_of b.sequence.edition) b.slots b.sequence (start_exactly.only b z).1) in
    (step_listed b.slots (step_at b i)
    (subst (λ (x : Step). EveryHolds (step_checks b.slots x)) (steps_taken_lem b.sequence i h) here)).1

-- "7 sequence has no step"
some_step : (b : Master) → (apply b start).number ≡ 0 → 0 < length_of b.sequence
unfolding checks_by
some_step b z =
    let n = eqb-false b.sequence.count 0 (not-true _ (start_exactly.only b z).1.0) in
    go b.sequence.count n
  where
    go : (count : ℕ) → (count ≡ 0 → ⊥) → 0 < min count 64
    go zero n = absurd (n refl)
    go (suc count) n = omega arith

-- ---- the bytes

-- E.6 has eight bytes
pub nine_bytes : (m : Master) (i : ℕ) → length (command_of m i) ≡ 9
unfolding pick octets.bytes_of octet_of message_bytes
nine_bytes m i = refl

-- ---- from an accepted start

module _ (m : Master) (s : Started m) where
  started_as : (P : Master → Type 0) → P (with_state (with_playback s.before s.before.tan blank_playback) states.playback) → P m
  started_as P h = subst P (sym (begun s.before s.accepted) ∙ s.after) h

  pub tan_few : m.tan ≤ 255
  tan_few = started_as (λ n. n.tan ≤ 255) (given_regular s.before s.given).tan

  pub tan_is : (i : ℕ) → raised m.tan (suc i) ≡ tan_of m i
  tan_is i = let e : m.tan + suc i ≡ m.tan + i + 1 = omega arith in raised_is m.tan (suc i) tan_few ∙ ap (λ (x : ℕ). x % 256) e

  pub steps_few : m.sequence.count ≤ most_steps
  steps_few = started_as (λ n. n.sequence.count ≤ most_steps) (given_regular s.before s.given).sequence.few

  pub some_steps : 0 < length_of m.sequence
  some_steps = started_as (λ n. 0 < length_of n.sequence) (some_step s.before s.accepted)

  small : (i : ℕ) → i < length_of m.sequence → (step_at m i).state < 64
  small =
      started_as (λ n. (i : ℕ) → i < length_of n.sequence → (step_at n i).state < 64)
      (state_few s.before (given_whole s.before s.given) s.accepted)

  -- THE COMMAND OF A STEP IS ITS FRAME
  pub command_is : (i : ℕ) → i < length_of m.sequence → frame_of (step_at m i) (tan_of m i) ≡ command_of m i
  command_is i h = framing.command (step_at m i) (tan_of m i) (small i h)

  -- COMMANDS OF TWO STEPS DIFFER
  pub tans_differ : (i j : ℕ) → i < 64 → j < 64 → tan_of m i ≡ tan_of m j → i ≡ j
  tans_differ i j h k e = omega (arith, h, k, e)

  pub differ : (i j : ℕ) → i < length_of m.sequence → j < length_of m.sequence → command_of m i ≡ command_of m j → i ≡ j
  differ i j h k e =
      tans_differ i j (omega (arith, h)) (omega (arith, k)) (ap (λ (l : List ℕ). get_or l 4 0) (command_is i h ∙ e ∙ sym (command_is j k)))
