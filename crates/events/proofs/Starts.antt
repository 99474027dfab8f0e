-- A start is accepted exactly when the master is ready and every check holds, by what crate playback proves of verification.
use mathlib.Core.Path.{◌≡◌, sym, ap, ◌∙◌}
use borrow.Author.Tests.{eq-eqb, ne_eqb, eqb-true, not-false}
use Rattle.octets.specs.Pick.{pick}
use Rattle.octets.specs.Numbers.{completed, wrong_state}
use Rattle.playback.specs.Verification.{checks_of, verify_of}
use Rattle.playback.specs.Promises.{EveryHolds, FirstFails}
use Rattle.playback.proofs.Verifies.{verifies}
use Rattle.master.specs.declared.Master.{Master}
use Rattle.master.specs.Call.{refusal, number_of}
use Rattle.master.specs.Playback.{start_call}
use Rattle.master.specs.States as state
use Rattle.master.proofs.Calls.{passed}
use Rattle.events.specs.Events.{start, apply}
use Rattle.events.specs.Demand1.{StartExactly}
use Rattle.events.proofs.Calls.{number_is, after_is}

-- the number is the rule's
start_number : (m : Master) → (apply m start).number ≡ number_of (start_call m)
start_number m = number_is m (start_call m)

module _ (m : Master) where
  verified : m.state ≡ state.ready → number_of (start_call m) ≡ verify_of m.slots m.sequence
  unfolding pick refusal start_call
  verified s = rw (eq-eqb m.state state.ready s)

  barred : (m.state ≡ state.ready → ⊥) → number_of (start_call m) ≡ wrong_state
  unfolding pick refusal start_call
  barred h = rw (ne_eqb m.state state.ready h)

  is_ready : number_of (start_call m) ≡ completed → m.state ≡ state.ready
  unfolding start_call
  is_ready e = eqb-true _ _ (not-false _ (passed _ _ _ _ _ e).allowed)

  -- in ready it is the verification's
  pub ready_number : m.state ≡ state.ready → (apply m start).number ≡ verify_of m.slots m.sequence
  ready_number s = start_number m ∙ verified s

  starts : m.state ≡ state.ready → EveryHolds (checks_of m.sequence.edition m.slots m.sequence) → (apply m start).number ≡ completed
  starts s h = ready_number s ∙ verifies.starts m.sequence.edition m.slots m.sequence h

  only : (apply m start).number ≡ completed → (m.state ≡ state.ready) × EveryHolds (checks_of m.sequence.edition m.slots m.sequence)
  only e =
      let s : m.state ≡ state.ready = is_ready (sym (start_number m) ∙ e) in
      (s, verifies.only m.sequence.edition m.slots m.sequence (sym (ready_number s) ∙ e))

  playing : (apply m start).number ≡ completed → (apply m start).master.state ≡ state.playback
  unfolding start_call
  playing e = ap (λ (k : Master). k.state) (after_is m (start_call m) e)

  names :
      m.state ≡ state.ready → ((apply m start).number ≡ completed → ⊥) → FirstFails (checks_of m.sequence.edition m.slots m.sequence) (apply m start).number
  names s h =
      rw (ready_number s)
      (verifies.names m.sequence.edition m.slots m.sequence (λ e. h (ready_number s ∙ e)))

pub start_exactly : StartExactly
start_exactly = record { starts = starts; only = only; playing = playing; barred = λ m h. start_number m ∙ barred m h; names = names }
