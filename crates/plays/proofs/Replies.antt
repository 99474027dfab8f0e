-- What the master holds of a step's answer is what its own client has said, by an accepted E.7 with the step's TAN, function and state.
use mathlib.Core.Path.{◌≡◌, refl, sym, ap, ◌∙◌, subst}
use mathlib.Core.Bool.{Bool, true, false, not, ◌||◌, true≢false}
use mathlib.Core.Logic.{◌↔◌, ◌⊎◌, inl, inr}
use mathlib.Core.List.{List, [], ◌∷◌, ◌++◌, append-nil, append_assoc}
use Prim.Native.Nat.{ℕ, zero, suc, ◌<◌}
use native.Mathlib.Omega.{arith}
use borrow.Author.Tests.{eq-eqb, eqb-true, eqb-false, leb-false}
use lib.Dec.{eqb, leb}
use lib.ListN.{get_or}
use Rattle.octets.specs.Pick.{pick}
use Rattle.message.specs.Fields.{status_number}
use Rattle.message.specs.declared.Reply.{Reply}
use Rattle.sequence.specs.Sequence.{blank_step, length_of}
use Rattle.sequence.specs.declared.Sequence.{Sequence}
use Rattle.playback.specs.declared.Playback.{Playback}
use Rattle.playback.specs.State.{answer_done, blank_sent, blank_playback}
use Rattle.playback.specs.Answer.{is_error, answer_from, is_all_done, answered_of}
use Rattle.playback.proofs.Changes.{answered_by}
use Rattle.master.specs.declared.Master.{Master}
use Rattle.master.specs.States as states
use Rattle.master.specs.Messages.{is_answer, reply_in}
use Rattle.master.specs.Playback.{unmatched, answer_call}
use Rattle.master.proofs.Calls.{passed}
use Rattle.replay.specs.Run.{State, going, step_of, Says, SaysAt, Answer}
use Rattle.replay.specs.Run as replay
use Rattle.replay.proofs.Follows.{Good, matched, heard}
use Rattle.replay.proofs.Answers.{Matches, Lasting, Tells, matching, SaidAt, by_answer, told_now, by_tick, says_on}
use Rattle.events.specs.Events.{Event, tick, answer, apply, run_from}
use Rattle.events.proofs.Calls.{number_is}
use Rattle.events.proofs.Choices.{chosen, chosen_by, either}
use Rattle.plays.specs.Plays.{Started, Playing, Lasts, HasLeft, IsOf, Said, Replied, Finishing, SaidDone}
use Rattle.plays.proofs.Calls.{seen, View, a_tick, an_answer, another, view, one}
use Rattle.plays.proofs.Runs.{run_append, lasts_head, lasts_last, lasts_left, lasts_right, shown, lasting, begins}
use Rattle.plays.proofs.Bytes.{is_answer_lem, reply_function_is, reply_state_is, reply_tan_is, finishing_is}
use Rattle.plays.proofs.Commands.{tans_differ}
use Rattle.plays.proofs.Theorems.{good, own_tan, left_seen, seen_left, seen_answer}

-- ---- the step that an accepted E.7 answers

-- the state after a call through which the playback lasts
pub next : (m : Master) → Playing m → (e : Event) → Playing (apply m e).master
    → step_of m.sequence (going m.playback m.tan) (seen m e) ≡ going (apply m e).master.playback (apply m e).master.tan
next m h e k = (shown m.sequence (apply m e).master _ (one m e h) k).1

found_number : (p : Playback) (q : Sequence) (slot : ℕ) (r : Reply) → (answered_of p q slot r).number ≡ 0 → leb 64 (matched q p slot r) ≡ false
unfolding pick answered_of
found_number p q slot r h =
    go (leb 64 (matched q p slot r)) (eqb (get_or p.commands (matched q p slot r) blank_sent).answer answer_done)
    (is_error (status_number r.status) r.error) (is_all_done (heard q p slot r) (length_of q)) h
  where
    go : (a b c d : Bool) → (answered_by p (heard q p slot r) a b c d).number ≡ 0 → a ≡ false
    go true b c d z = absurd (omega (arith, z))
    go false b c d z = refl

-- one that is accepted in playback is of some step
pub found : (m : Master) (slot : ℕ) (msg out : List ℕ) → Playing m → (apply m (answer slot msg out)).number ≡ 0
    → leb 64 (matched m.sequence m.playback slot (reply_in msg)) ≡ false
unfolding answer_call unmatched pick
found m slot msg out h z =
    found_number m.playback m.sequence slot (reply_in msg)
    (rw (eq-eqb m.state states.playback h) at (passed _ _ _ _ _ (sym (number_is m (answer_call m slot msg out)) ∙ z)).goes)

module _ (m : Master) (s : Started m) (es : List Event) (l : Lasts m es) (slot : ℕ) (msg : List ℕ) (a : is_answer msg ≡ true) where
  -- that step is known by its TAN
  pub found_is : leb 64 (matched (run_from m es).sequence (run_from m es).playback slot (reply_in msg)) ≡ false
      → (i : ℕ) → HasLeft m es i → IsOf m i slot msg → matched (run_from m es).sequence (run_from m es).playback slot (reply_in msg) ≡ i
  found_is z i h o =
      let n = run_from m es in
      let j = matched n.sequence n.playback slot (reply_in msg) in
      let x = matching n.sequence n.playback slot (reply_in msg) z in
      let g = good m s es l in
      let k = seen_left m s es l i h in
      tans_differ m s j i (omega (arith, x.has_left, g.within)) (omega (arith, k, g.within))
      (sym (own_tan m s es l j x.has_left) ∙ x.own_tan ∙ reply_tan_is msg a ∙ o.own_tan)

  -- what the master finds of an E.7 is seen in it
  pub matches_of : (i : ℕ) → Matches (run_from m es).sequence (run_from m es).playback slot (reply_in msg) i → IsOf m i slot msg
  matches_of i x =
      let f = (lasting es m l).1 in
      record {
        own_slot = sym x.own_slot ∙ ap (λ (q : Sequence). (get_or q.steps i blank_step).slot) f;
        own_function = sym (reply_function_is msg a) ∙ sym x.own_function ∙ ap (λ (q : Sequence). (get_or q.steps i blank_step).function) f;
        own_state = sym (reply_state_is msg a) ∙ sym x.own_state ∙ ap (λ (q : Sequence). (get_or q.steps i blank_step).state) f;
        own_tan = sym (reply_tan_is msg a) ∙ sym x.own_tan ∙ own_tan m s es l i x.has_left;
      }

-- ---- more calls

pub said_later : (R : List ℕ → Type 0) (m : Master) (c es : List Event) (i : ℕ) → Said R m c i → Said R m (c ++ es) i
said_later R m c es i r =
    record {
      earlier = r.earlier;
      slot = r.slot;
      msg = r.msg;
      out = r.out;
      later = r.later ++ es;
      split = ap (λ (y : List Event). y ++ es) r.split ∙ append_assoc r.earlier (answer r.slot r.msg r.out ∷ r.later) es;
      lasts = r.lasts;
      accepted = r.accepted;
      has_left = r.has_left;
      own = r.own;
      says = r.says;
    }

-- an E.7 that says more
pub replied : (R : List ℕ → Type 0) (m : Master) (es : List Event) (i : ℕ) → Said R m es i → Replied m es i
replied R m es i r =
    record {
      earlier = r.earlier;
      slot = r.slot;
      msg = r.msg;
      out = r.out;
      later = r.later;
      split = r.split;
      lasts = r.lasts;
      accepted = r.accepted;
      has_left = r.has_left;
      own = r.own;
      says = tt;
    }

-- ---- what stands beside a step, and what its client has said

pub record Word (P : ℕ → Type 0) (R : List ℕ → Type 0) : Type 0 where
  pub lasting : Lasting P
  pub of_done : P answer_done
  pub said : (msg : List ℕ) → is_answer msg ≡ true → is_error (status_number (reply_in msg).status) (reply_in msg).error ≡ false
      → P (answer_from (status_number (reply_in msg).status)) → R msg
  pub heeded : (msg : List ℕ) → is_answer msg ≡ true → R msg → P (answer_from (status_number (reply_in msg).status))

module _ (P : ℕ → Type 0) (R : List ℕ → Type 0) (w : Word P R) where
  -- call e is an accepted answer to step i that says so
  record Answers (m : Master) (e : Event) (i : ℕ) : Type 0 where
    slot : ℕ
    msg : List ℕ
    out : List ℕ
    is : e ≡ answer slot msg out
    accepted : (apply m (answer slot msg out)).number ≡ 0
    tells : Tells P m.sequence m.playback slot (reply_in msg) i

  -- after this event of a playback it stands beside step i
  abbrev Marks : Master → ℕ → replay.PlaybackEvent → Type 0
  Marks m i x = SaysAt P (step_of m.sequence (going m.playback m.tan) x) i

  one_answer : (m : Master) (e : Event) (i : ℕ) → Good m.playback → View m e → Marks m i (seen m e) → Says P m.playback i ⊎ Answers m e i
  one_answer m e i g (a_tick mm out) h =
      inl
      (chosen (λ x. Marks m i x → Says P m.playback i) (eqb (apply m (tick mm out)).number 0) (replay.tick mm) replay.message
      (by_tick P w.lasting m.sequence m.playback g mm m.tan i) (λ y. y) h)
  one_answer m e i g (an_answer slot msg out) h =
      chosen_by (λ x. Marks m i x → Says P m.playback i ⊎ Answers m (answer slot msg out) i)
      (eqb (apply m (answer slot msg out)).number 0) (replay.answer slot (reply_in msg)) replay.message
      (λ q y. match q (by_answer P m.sequence m.playback g slot (reply_in msg) m.tan i y)) (λ _ y. inl y) h
    where
      match : eqb (apply m (answer slot msg out)).number 0 ≡ true → Says P m.playback i ⊎ Tells P m.sequence m.playback slot (reply_in msg) i
          → Says P m.playback i ⊎ Answers m (answer slot msg out) i
      match q (inl y) = inl y
      match q (inr y) = inr (record { slot = slot; msg = msg; out = out; is = refl; accepted = eqb-true _ 0 q; tells = y })
  one_answer m e i g (another a q t) h =
      inl
      (chosen (λ x. Marks m i x → Says P m.playback i) (eqb (apply m e).master.state states.playback) replay.message replay.ends
      (λ y. y) (λ y. absurd y) (subst (Marks m i) q h))

  module _ (m : Master) (s : Started m) where
    said_here : (c : List Event) → Lasts m c → (e : Event) (es : List Event) (i : ℕ) → Answers (run_from m c) e i → Said R m (c ++ e ∷ es) i
    said_here c l e es i a =
        let x = a.tells.matches in
        let z = is_answer_lem (run_from m c) a.slot a.msg a.out a.accepted in
        record {
          earlier = c;
          slot = a.slot;
          msg = a.msg;
          out = a.out;
          later = es;
          split = ap (λ (y : Event). c ++ y ∷ es) a.is;
          lasts = l;
          accepted = a.accepted;
          has_left = left_seen m s c l i x.has_left;
          own = matches_of m s c l a.slot a.msg z i x;
          says = w.said a.msg z a.tells.no_error a.tells.told;
        }

    -- of the calls c, and of one more
    said_or : (c : List Event) → Lasts m c → (e : Event) (es : List Event) (i : ℕ) → (Says P (run_from m c).playback i → Said R m c i)
        → Says P (run_from m c).playback i ⊎ Answers (run_from m c) e i → Said R m (c ++ e ∷ es) i
    said_or c l e es i r (inl h) = said_later R m c (e ∷ es) i (r h)
    said_or c l e es i r (inr a) = said_here c l e es i a

    none_said : (i : ℕ) → ¬ Says P m.playback i
    unfolding blank_playback
    none_said i h = omega (arith, h.0, ap (λ (p : Playback). p.sent) (begins m s).blank)

    said_from : (es c : List Event) → Lasts m (c ++ es) → (i : ℕ) → (Says P (run_from m c).playback i → Said R m c i)
        → Says P (run_from m (c ++ es)).playback i → Said R m (c ++ es) i
    said_from [] c l i r h = subst (λ (x : List Event). Says P (run_from m x).playback i → Said R m x i) (sym (append-nil c)) r h
    said_from (e ∷ es) c l i r h =
        let q = append_assoc c (e ∷ []) es in
        let k : Lasts m c = lasts_left c (e ∷ es) m l in
        let n = lasts_right c (e ∷ es) m l in
        subst (λ (x : List Event). Said R m x i) q
        (said_from es (c ++ e ∷ []) (subst (Lasts m) (sym q) l) i
        (λ y.
        said_or c k e [] i r
        (one_answer (run_from m c) e i (good m s c k) (view (run_from m c) e)
        (subst (λ (x : State). SaysAt P x i) (sym (next (run_from m c) n.0 e (lasts_head _ es n.1)))
        (subst (λ (x : Master). Says P x.playback i) (run_append c (e ∷ []) m) y))))
        (subst (λ (x : List Event). Says P (run_from m x).playback i) (sym q) h))

    -- WHAT STANDS BESIDE A STEP WAS SAID BY ITS OWN CLIENT
    pub says_said : (es : List Event) → Lasts m es → (i : ℕ) → Says P (run_from m es).playback i → Said R m es i
    says_said es l i h = said_from es [] l i (λ x. absurd (none_said i x)) h

    -- AND WHAT ITS CLIENT HAS SAID STANDS BESIDE IT
    says_next : (c : List Event) → Lasts m c → (e : Event) → Playing (apply (run_from m c) e).master → (i : ℕ)
        → SaidAt P (step_of (run_from m c).sequence (going (run_from m c).playback (run_from m c).tan) (seen (run_from m c) e)) i
        → Says P (run_from m (c ++ e ∷ [])).playback i
    says_next c l e k i h =
        subst (λ (x : Master). Says P x.playback i) (sym (run_append c (e ∷ []) m))
        (subst (λ (x : State). SaidAt P x i) (next (run_from m c) (lasts_last c m l) e k) h)

    says_from : (es c : List Event) → Lasts m (c ++ es) → (i : ℕ) → Says P (run_from m c).playback i → Says P (run_from m (c ++ es)).playback i
    says_from [] c l i h = subst (λ (x : List Event). Says P (run_from m x).playback i) (sym (append-nil c)) h
    says_from (e ∷ es) c l i h =
        let q = append_assoc c (e ∷ []) es in
        let k : Lasts m c = lasts_left c (e ∷ es) m l in
        let n = lasts_right c (e ∷ es) m l in
        subst (λ (x : List Event). Says P (run_from m x).playback i) q
        (says_from es (c ++ e ∷ []) (subst (Lasts m) (sym q) l) i
        (says_next c k e (lasts_head _ es n.1) i
        (says_on P w.lasting (run_from m c).sequence (run_from m c).playback (good m s c k) (run_from m c).tan i (seen (run_from m c) e) h)))

    said_now : (c : List Event) → Lasts m c → (slot : ℕ) (msg out : List ℕ) → (apply (run_from m c) (answer slot msg out)).number ≡ 0
        → Playing (apply (run_from m c) (answer slot msg out)).master → (i : ℕ) → HasLeft m c i → IsOf m i slot msg → R msg
        → Says P (run_from m (c ++ answer slot msg out ∷ [])).playback i
    said_now c l slot msg out z k i h o r =
        let n = run_from m c in
        let f = found n slot msg out (lasts_last c m l) z in
        let b = is_answer_lem n slot msg out z in
        says_next c l (answer slot msg out) k i
        (subst (λ (x : replay.PlaybackEvent). SaidAt P (step_of n.sequence (going n.playback n.tan) x) i)
        (sym (seen_answer n slot msg out (eq-eqb _ 0 z)))
        (subst (SaidAt P (step_of n.sequence (going n.playback n.tan) (replay.answer slot (reply_in msg)))) (found_is m s c l slot msg b f i h o)
        (told_now P n.sequence n.playback (good m s c l) slot (reply_in msg) n.tan f w.of_done (w.heeded msg b r))))

    pub said_says : (es : List Event) → Lasts m es → (i : ℕ) → Said R m es i → Says P (run_from m es).playback i
    said_says es l i r =
        let c = r.earlier in
        let e = answer r.slot r.msg r.out in
        let k : Lasts m (c ++ e ∷ r.later) = subst (Lasts m) r.split l in
        let q = append_assoc c (e ∷ []) r.later in
        subst (λ (x : List Event). Says P (run_from m x).playback i) (q ∙ sym r.split)
        (says_from r.later (c ++ e ∷ []) (subst (Lasts m) (sym q) k) i
        (said_now c r.lasts r.slot r.msg r.out r.accepted (lasts_head _ r.later (lasts_right c (e ∷ r.later) m k).1) i r.has_left r.own r.says))

-- ---- answered, and done

answer_is : (status : ℕ) → (answer_from status ≡ 1) ⊎ (answer_from status ≡ 2)
unfolding answer_from pick
answer_is status = either (eqb status 1) (λ e. inl (rw e)) (λ e. inr (rw e))

pub answers : Word Answer (λ msg. Unit {0})
answers =
    record {
      lasting = record { not_blank = λ n. n refl; stays = λ a status _ _. some status };
      of_done = λ z. omega (arith, z);
      said = λ msg a e p. tt;
      heeded = λ msg a _. some (status_number (reply_in msg).status);
    }
  where
    some : (status : ℕ) → Answer (answer_from status)
    some status z = go (answer_is status)
      where
        go : (answer_from status ≡ 1) ⊎ (answer_from status ≡ 2) → ⊥
        go (inl e) = omega (arith, e, z)
        go (inr e) = omega (arith, e, z)

abbrev pub IsDone : ℕ → Type 0
IsDone a = a ≡ answer_done

pub finishing : (status error : ℕ) → is_error status error ≡ false → answer_from status ≡ answer_done → ((status ≡ 0) ⊎ (status ≡ 2)) × (error ≡ 0)
unfolding answer_from pick
finishing status error f d = go (leb 3 status) (eqb error 0) (eqb status 1) refl refl refl f d
  where
    go : (a b c : Bool) → leb 3 status ≡ a → eqb error 0 ≡ b → eqb status 1 ≡ c → (a || not b) ≡ false → pick {X = ℕ} c 1 2 ≡ 2 → ((status ≡ 0) ⊎ (status ≡ 2)) × (error ≡ 0)
    go true b c x y z u v = absurd (true≢false u)
    go false false c x y z u v = absurd (true≢false u)
    go false true true x y z u v = absurd (omega (arith, v))
    go false true false x y z u v = (least status (leb-false 3 status x) (eqb-false _ _ z), eqb-true _ _ y)
      where
        least : (n : ℕ) → n < 3 → (n ≡ 1 → ⊥) → (n ≡ 0) ⊎ (n ≡ 2)
        least zero h k = inl refl
        least (suc zero) h k = absurd (k refl)
        least (suc (suc zero)) h k = inr refl
        least (suc (suc (suc n))) h k = absurd (omega arith)

pub finishes : (status : ℕ) → (status ≡ 0) ⊎ (status ≡ 2) → answer_from status ≡ answer_done
unfolding answer_from pick
finishes status (inl e) = rw e
finishes status (inr e) = rw e

pub dones : Word IsDone Finishing
dones =
    record {
      lasting = record { not_blank = λ z. omega (arith, z); stays = λ a status n d. absurd (n d) };
      of_done = refl;
      said = λ msg a f d. (finishing_is msg a).1 (finishing (status_number (reply_in msg).status) (reply_in msg).error f d);
      heeded = λ msg a h. finishes (status_number (reply_in msg).status) ((finishing_is msg a).0 h).0;
    }

pub replies : (m : Master) → Started m → (es : List Event) → Lasts m es → (i : ℕ) → Says Answer (run_from m es).playback i ↔ Replied m es i
replies m s es l i = (says_said Answer (λ msg. Unit {0}) answers m s es l i, said_says Answer (λ msg. Unit {0}) answers m s es l i)

pub are_done : (m : Master) → Started m → (es : List Event) → Lasts m es → (i : ℕ) → Says IsDone (run_from m es).playback i ↔ SaidDone m es i
are_done m s es l i = (says_said IsDone Finishing dones m s es l i, said_says IsDone Finishing dones m s es l i)
