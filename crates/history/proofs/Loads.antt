-- The steps of a sequence that was loaded, as its blocks say them.
use Prim.Native.Nat.{ℕ, ◌≤◌}
use mathlib.Core.Path.{◌≡◌, refl, sym, ap, subst, ◌∙◌}
use mathlib.Core.List.{List}
use native.Mathlib.Omega.{arith}
use lib.ListN.{length, take}
use borrow.Author.Tests.{eq-eqb}
use Rattle.octets.proofs.Tests.{pick_true}
use Rattle.arrays.specs.Arrays.{pad_to}
use Rattle.arrays.specs.Every.{Every}
use Rattle.arrays.proofs.Pad.{pad_take}
use Rattle.sequence.specs.Sequence.{blank_step, steps_of}
use Rattle.sequence.specs.declared.Step.{Step}
use Rattle.sequence.specs.declared.Sequence.{Sequence}
use Rattle.store.specs.Loaded.{client_count, step_count, steps_to, sequence_in, load_number, loaded_of}
use Rattle.store.proofs.Steps.{steps_length, every_step}
use Rattle.master.specs.Storing.{load_call}
use Rattle.master.proofs.Calls.{passed}
use Rattle.events.specs.Events.{Event, load, call_of, run}
use Rattle.events.proofs.Calls.{number_is}
use Rattle.events.proofs.Loads.{sound_loaded}
use Rattle.history.specs.Runs.{Succeeds}
use Rattle.history.specs.Promises.{LoadedStep, LoadedBy}
use Rattle.history.proofs.Editions.{same_steps}

module _ (s : List ℕ) (z : load_number s ≡ 0) where
  -- the sequence is the one that the blocks say
  is_said : (loaded_of s).sequence ≡ sequence_in s
  unfolding loaded_of
  is_said = pick_true _ _ _ (eq-eqb _ 0 z)

  few : step_count s ≤ 64
  unfolding sequence_in
  few = subst (λ (q : Sequence). q.count ≤ 64) is_said (sound_loaded s z).few

  steps_are : steps_of (loaded_of s).sequence ≡ steps_to s (client_count s) (step_count s)
  unfolding steps_of sequence_in
  steps_are =
      let l : List Step = steps_to s (client_count s) (step_count s) in
      let e : length l ≡ step_count s = steps_length s (client_count s) (step_count s) in
      ap steps_of is_said ∙ ap (λ (n : ℕ). take n (pad_to blank_step 64 l)) (sym e) ∙ pad_take blank_step 64 l (omega (arith, e, few))

-- blocks of a load that is not refused
pub is_accepted : (before : List Event) (blocks : List ℕ) → Succeeds before (load blocks) → load_number blocks ≡ 0
unfolding load_call
is_accepted before blocks d = (passed _ _ _ _ _ (sym (number_is (run before) (call_of (run before) (load blocks))) ∙ d)).goes

-- ---- each step has its load

pub loaded_steps : (events : List Event) → LoadedBy events → Every (LoadedStep events) (steps_of (run events).sequence)
loaded_steps events k =
    let s : List ℕ = k.blocks in
    rw (same_steps (run events).sequence (loaded_of s).sequence k.sequence ∙ steps_are s (is_accepted k.before s k.accepted))
    (every_step s (client_count s) (LoadedStep events) (step_count s)
    (λ i l. record { before = k.before; blocks = s; after = k.after; all = k.all; accepted = k.accepted; number = i; counted = l; step = refl }))
