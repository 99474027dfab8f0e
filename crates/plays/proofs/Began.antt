-- A master in playback: it began with an accepted start, and lasts through the calls since.
use mathlib.Core.Path.{◌≡◌, refl, sym, ap, ◌∙◌, subst}
use mathlib.Core.Bool.{true}
use mathlib.Core.List.{List, [], ◌∷◌, ◌++◌}
use native.Mathlib.Omega.{arith}
use borrow.Author.Tests.{eqb-true, eqb-false}
use lib.Dec.{eqb}
use Rattle.master.specs.declared.Master.{Master}
use Rattle.master.specs.Call.{number_of}
use Rattle.master.specs.States as states
use Rattle.master.specs.States.{is_playing, new_master, ended}
use Rattle.master.specs.Recording.{recording_ended}
use Rattle.events.specs.Events.{Event, start, call_of, apply, run_from, Given}
use Rattle.events.proofs.Calls.{number_is, after_is}
use Rattle.events.proofs.Choices.{either}
use Rattle.events.proofs.Changes.{Near, itself, slotted, Change, rested, moved, dropped, broken, record_starts, record_waits, record_ends, record_hears, record_hears_last, record_ticks, play_starts, play_ticks, play_ticks_last, play_hears, play_hears_last, replaced}
use Rattle.events.proofs.Invariant.{done_change, given_by}
use Rattle.plays.specs.Plays.{Started, Playing, Lasts}
use Rattle.plays.proofs.Runs.{run_append, lasts_last, lasts_append}

pub record Began (n : Master) : Type 0 where
  pub first : Master
  pub started : Started first
  pub calls : List Event
  pub lasts : Lasts first calls
  pub now : run_from first calls ≡ n

-- ---- only a start leads to playback

module _ (m : Master) (np : ¬ Playing m) where
  near : (n : Master) → Near m n → ¬ Playing n
  near n itself p = np p
  near n (slotted i s) p = np p

  not_playing : {X : Type 0} → is_playing m ≡ true → X
  not_playing i = absurd (np (eqb-true _ _ i))

  pub only_start : (e : Event) (n : Master) → Change m e n → Playing n → e ≡ start
  unfolding recording_ended ended
  only_start e n (rested x y) p = absurd (near n x p)
  only_start e n (moved x s r t) p = absurd (omega (arith, t, p))
  only_start e n (dropped x i y) p = absurd (omega (arith, p))
  only_start e n (broken x i c) p = not_playing i
  only_start e n (record_starts r) p = absurd (omega (arith, p))
  only_start e n (record_waits i) p = absurd (omega (arith, p))
  only_start e n (record_ends i) p = absurd (omega (arith, p))
  only_start e n (record_hears slot msg out i l) p = absurd (np p)
  only_start e n (record_hears_last slot msg out i l) p = absurd (omega (arith, p))
  only_start e n (record_ticks mm out i l t) p = absurd (np p)
  only_start e n (play_starts r) p = refl
  only_start e n (play_ticks mm out i l t) p = not_playing i
  only_start e n (play_ticks_last mm out i) p = not_playing i
  only_start e n (play_hears slot msg out i) p = not_playing i
  only_start e n (play_hears_last slot msg out s i r l) p = not_playing i
  only_start e n (replaced r x) p = absurd (np p)

-- ---- along every run

-- a call through which it lasts
pub lasts_on : (m : Master) (e : Event) (b : Began m) → Playing (apply m e).master → Lasts b.first (b.calls ++ e ∷ [])
lasts_on m e b p =
    lasts_append b.calls (e ∷ []) b.first b.lasts
    (lasts_last b.calls b.first b.lasts, subst (λ (k : Master). Playing (apply k e).master) (sym b.now) p)

keeps_on : (m : Master) (e : Event) → Began m → Playing (apply m e).master → Began (apply m e).master
keeps_on m e b p =
    record {
      first = b.first;
      started = b.started;
      calls = b.calls ++ e ∷ [];
      lasts = lasts_on m e b p;
      now = run_append b.calls (e ∷ []) b.first ∙ ap (λ (k : Master). (apply k e).master) b.now;
    }

begins_now : (m : Master) → Given m → (e : Event) → e ≡ start → (apply m e).number ≡ 0 → Playing (apply m e).master → Began (apply m e).master
begins_now m g e q z p =
    record {
      first = (apply m e).master;
      started =
          record {
            before = m;
            given = g;
            accepted = subst (λ (x : Event). (apply m x).number ≡ 0) q z;
            after = ap (λ (x : Event). (apply m x).master) (sym q);
          };
      calls = [];
      lasts = p;
      now = refl;
    }

began_more : (m : Master) (e : Event) → Given m → number_of (call_of m e) ≡ 0 → (Playing m → Began m) → Playing (call_of m e).after → Began (call_of m e).after
began_more m e g z h p =
    let a : (apply m e).number ≡ 0 = number_is m (call_of m e) ∙ z in
    let q = after_is m (call_of m e) a in
    let k : Playing (apply m e).master = subst Playing (sym q) p in
    subst Began q
    (either (eqb m.state states.playback) (λ t. keeps_on m e (h (eqb-true _ _ t)) k)
    (λ f. begins_now m g e (only_start m (eqb-false _ _ f) e _ (done_change m e z) p) a k))

not_made : Playing new_master → Began new_master
unfolding new_master
not_made p = absurd (omega (arith, p))

-- EVERY MASTER IN PLAYBACK THAT CALLS GIVE IS ONE OF A PLAYBACK THAT BEGAN WITH AN ACCEPTED START
pub began : (m : Master) → Given m → Playing m → Began m
began = given_by (λ m. Playing m → Began m) (λ m e g z h. began_more m e g z h) not_made
