-- The ticks and answers that are never refused: no test of their refusals holds.
use Prim.Native.Nat.{ℕ, zero, suc, ◌+◌, ◌≤◌, ◌<◌}
use mathlib.Core.Path.{◌≡◌, refl, ap, subst, ◌∙◌}
use mathlib.Core.Bool.{Bool, true, false, cond}
use mathlib.Core.List.{List, [], ◌∷◌}
use native.Mathlib.Omega.{arith}
use lib.ListN.{length, take, get_or, length-take}
use lib.Seq.{get_or-take}
use borrow.Author.Tests.{eq-eqb, ne_eqb, lt-leb, le-ltb}
use Rattle.octets.specs.Pick.{pick}
use Rattle.octets.specs.Numbers.{completed}
use Rattle.octets.proofs.Tests.{pick_false}
use Rattle.client.specs.Clients.{is_taken}
use Rattle.arrays.specs.Arrays.{first_from}
use Rattle.sequence.specs.Sequence.{blank_step}
use Rattle.sequence.specs.declared.Step.{Step}
use Rattle.sequence.specs.declared.Sequence.{Sequence}
use Rattle.message.specs.declared.Reply.{Reply}
use Rattle.recording.proofs.Steps.{both}
use Rattle.playback.specs.declared.Playback.{Playback}
use Rattle.playback.specs.Answer.{Answered}
use Rattle.playback.specs.declared.Sent.{Sent}
use Rattle.playback.specs.State.{blank_sent}
use Rattle.playback.specs.Pairs.{pairs}
use Rattle.playback.specs.Answer.{is_answer_of, find_answered, answered_of}
use Rattle.playback.proofs.Pairs.{get_d_pairs}
use Rattle.master.specs.declared.Master.{Master}
use Rattle.master.specs.Call.{refusal, outcome_of, slot_at}
use Rattle.master.specs.Messages.{is_answer, reply_in}
use Rattle.master.specs.States as state
use Rattle.master.specs.Playback.{unmatched, answer_call}
use Rattle.master.specs.Tick.{tick_call}
use Rattle.events.specs.Events.{tick, answer, apply, Given}
use Rattle.events.specs.Demand1.{MatchesSent, NeverRefused}
use Rattle.events.proofs.Choices.{chosen}
use Rattle.events.proofs.Regular.{Regular, length_steps, given_regular}
use Rattle.events.proofs.Playable.{Enabled, playable}

ticks :
    (m : Master) (mm : ℕ) (out : List ℕ)
    → (m.state ≡ state.inactive → ⊥) → 576 ≤ length out → mm ≤ 65535
    → (apply m (tick mm out)).number ≡ completed
unfolding pick refusal outcome_of tick_call
ticks m mm out h k l = rw (le-ltb (length out) 576 k, le-ltb 65535 mm l, ne_eqb m.state 0 h)

-- a step that is found gives 0, whatever the answer says
pub found_number :
    (p : Playback) (q : Sequence) (slot : ℕ) (r : Reply)
    → find_answered q.steps p.commands p.sent slot r.tan r.function r.state < 64
    → (answered_of p q slot r).number ≡ completed
unfolding answered_of
found_number p q slot r h =
    let Z : Answered → Type 0 = λ x. x.number ≡ completed in
    rw (pick_false _ _ _ (lt-leb 64 (find_answered q.steps p.commands p.sent slot r.tan r.function r.state) h))
    (chosen Z _ _ _ refl (chosen Z _ _ _ refl (chosen Z _ _ _ refl refl)))

-- ---- the step that is found

-- the first element that passes a test stands no later than one that passes it
first_by :
    {X : Type 0} (none : ℕ) (p : X → Bool) (l : List X) (k i : ℕ) (d : X)
    → i < length l → p (get_or l i d) ≡ true → first_from none p k l ≤ k + i
first_by none p [] k i d h t = absurd (omega arith)
first_by none p (x ∷ l) k zero d h t = rw t (omega arith)
first_by none p (x ∷ l) k (suc i) d h t = go (p x) (first_by none p l (suc k) i d (omega arith) t)
  where
    go : (b : Bool) → first_from none p (suc k) l ≤ suc k + i → cond b k (first_from none p (suc k) l) ≤ k + suc i
    go true later = omega arith
    go false later = omega arith

in_pairs : {X Y : Type 0} (a : List X) (b : List Y) (i : ℕ) → i < length a → i < length b → i < length (pairs a b)
in_pairs [] b i h k = absurd (omega arith)
in_pairs (x ∷ a) [] i h k = absurd (omega arith)
in_pairs (x ∷ a) (y ∷ b) zero h k = omega arith
in_pairs (x ∷ a) (y ∷ b) (suc i) h k = omega (arith, in_pairs a b i (omega arith) (omega arith))

-- a playback that calls give has 64 cells in both arrays, and at most 64 steps are sent
pub found :
    (m : Master) (slot : ℕ) (r : Reply) → Regular m → MatchesSent m slot r
    → find_answered m.sequence.steps m.playback.commands m.playback.sent slot r.tan r.function r.state < 64
unfolding find_answered
found m slot r g h =
    let few : h.step < 64 = omega (arith, h.sent, g.playback.tidy.few) in
    let in_steps : h.step < length m.sequence.steps = omega (arith, few, length_steps m.sequence g.sequence) in
    let in_commands : h.step < length m.playback.commands = omega (arith, few, g.playback.tidy.cells) in
    let steps : List Step = m.sequence.steps in
    let commands : List Sent = m.playback.commands in
    let p : Step × Sent → Bool = λ x. is_answer_of slot r.tan r.function r.state x.0 x.1 in
    let long : h.step < length (pairs steps commands) = in_pairs steps commands h.step in_steps in_commands in
    let at : get_or (take m.playback.sent (pairs steps commands)) h.step (blank_step, blank_sent)
    ≡ (get_or steps h.step blank_step, get_or commands h.step blank_sent) =
    get_or-take m.playback.sent (pairs steps commands) h.step (blank_step, blank_sent) h.sent
    ∙ get_d_pairs steps commands h.step blank_step blank_sent in_steps in_commands in
    let passes : p (get_or steps h.step blank_step, get_or commands h.step blank_sent) ≡ true =
    rw (eq-eqb _ _ h.slot_matches, eq-eqb _ _ h.tan_matches, eq-eqb _ _ h.function_matches, eq-eqb _ _ h.state_matches) in
    let b = first_by 64 p (take m.playback.sent (pairs steps commands)) 0 h.step (blank_step, blank_sent)
    (simp length-take (omega (arith, long, h.sent)))
    (ap p at ∙ passes) in
    omega (arith, b, few)

answers :
    (m : Master) (slot : ℕ) (msg out : List ℕ)
    → Given m → m.state ≡ state.playback → 8 ≤ length out → is_answer msg ≡ true → MatchesSent m slot (reply_in msg)
    → (apply m (answer slot msg out)).number ≡ completed
unfolding pick refusal outcome_of answer_call unmatched
answers m slot msg out g s k a f =
    let r = given_regular m g in
    let p = subst (λ (i : ℕ). Enabled m i) f.slot_matches (playable m g s f.step (omega (arith, f.sent, r.sent))).client in
    rw (le-ltb (length out) 8 k, a, lt-leb 8 slot p.0, (both (is_taken (slot_at m slot)) _ (both _ _ p.1).0).0, s, found_number m.playback m.sequence slot (reply_in msg) (found m slot (reply_in msg) r f))

pub never_refused : NeverRefused
never_refused = record { ticks = ticks; answers = answers }
