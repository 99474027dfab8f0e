-- One call more: what is gathered along a run, and what holds of the calls so far holds with one more.
use mathlib.Core.Path.{◌≡◌, sym, ap, subst, ◌∙◌}
use mathlib.Core.List.{List, [], ◌∷◌, ◌++◌, append-nil, append_assoc}
use Rattle.master.specs.States.{new_master}
use Rattle.events.specs.Events.{Event, apply, run}
use Rattle.events.proofs.Invariant as invariant
use Rattle.history.specs.Runs.{gather_from, gather}

pub run_more : (events : List Event) (e : Event) → run (events ++ e ∷ []) ≡ (apply (run events) e).master
run_more events e = invariant.run_more events e new_master

module _ {X : Type 0} (f : List Event → Event → X → X) where
  gathers_on :
      (before events : List Event) (e : Event) (x : X)
      → gather_from f before x (events ++ e ∷ []) ≡ f (before ++ events) e (gather_from f before x events)
  gathers_on before [] e x = ap (λ (l : List Event). f l e x) (sym (append-nil before))
  gathers_on before (y ∷ events) e x =
      gathers_on (before ++ y ∷ []) events e (f before y x)
      ∙ ap (λ (l : List Event). f l e (gather_from f (before ++ y ∷ []) (f before y x) events)) (append_assoc before (y ∷ []) events)

  pub gather_more : (x : X) (events : List Event) (e : Event) → gather f x (events ++ e ∷ []) ≡ f events e (gather f x events)
  gather_more x events e = gathers_on [] events e x

pub along : (P : List Event → Type 0) → P [] → ((events : List Event) (e : Event) → P events → P (events ++ e ∷ [])) → (events : List Event) → P events
along P z f events = go events [] z
  where
    go : (rest before : List Event) → P before → P (before ++ rest)
    go [] before p = subst P (sym (append-nil before)) p
    go (e ∷ rest) before p = subst P (append_assoc before (e ∷ []) rest) (go rest (before ++ e ∷ []) (f before e p))
