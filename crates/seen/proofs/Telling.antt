-- Each call's number: every test of its rule says what the words of 01 say.
use Prim.Native.Nat.{ℕ, zero, suc, ◌/◌, ◌%◌, ◌≤◌, ◌<◌}
use mathlib.Core.Path.{◌≡◌, refl, sym, ap, subst, ◌∙◌}
use mathlib.Core.Bool.{Bool, true, false, not, ◌&&◌, ◌||◌, true≢false}
use mathlib.Core.Logic.{◌⊎◌, inl, inr}
use mathlib.Core.List.{List}
use native.Mathlib.Omega.{arith}
use lib.Dec.{eqb, leb, ltb}
use lib.ListN.{length, get_or, take, length-take}
use lib.Seq.{get_or-take}
use borrow.Author.Tests.{eq-eqb, ne_eqb, eqb-true, ltb-true, ltb-false, le-leb, not-false}
use Rattle.octets.specs.Pick.{pick}
use Rattle.octets.proofs.Tests.{pick_true, pick_false}
use Rattle.arrays.specs.Arrays.{some}
use Rattle.arrays.proofs.Every.{Found, first_is}
use Rattle.pool.specs.Pool.{verdict_of}
use Rattle.message.specs.Fields.{known, status_number}
use Rattle.message.specs.Layout.{as_reply}
use Rattle.message.specs.declared.Execution.{Execution}
use Rattle.message.specs.declared.Reply.{Reply}
use Rattle.flat.specs.Flat.{reply_step, reply_from}
use Rattle.client.specs.Clients.{is_taken, is_enabled, is_awake, is_named, is_other}
use Rattle.sequence.specs.Sequence.{blank_step}
use Rattle.sequence.specs.declared.Step.{Step}
use Rattle.sequence.specs.declared.Sequence.{Sequence}
use Rattle.store.specs.Loaded.{load_number}
use Rattle.playback.specs.State.{blank_sent}
use Rattle.playback.specs.Pairs.{pairs}
use Rattle.playback.specs.Answer.{is_answer_of, find_answered, answered_of}
use Rattle.playback.specs.declared.Sent.{Sent}
use Rattle.playback.specs.declared.Playback.{Playback}
use Rattle.playback.specs.Answer.{Answered}
use Rattle.playback.proofs.Pairs.{get_d_pairs}
use Rattle.master.specs.declared.Master.{Master}
use Rattle.master.specs.Call.{refusal, outcome_of, number_of, slot_at, is_absent}
use Rattle.master.specs.States.{is_recording}
use Rattle.master.specs.Clients as clients
use Rattle.master.specs.Clients.{is_report, report_from, on_call, off_call, attach_call, want_call, report_call, lost_call}
use Rattle.master.specs.Recording.{unready, untimely, record_call, stop_call, cancel_call, indication_call}
use Rattle.master.specs.Playback.{unheeded, unmatched, start_call, abort_call, client_abort_call, answer_call}
use Rattle.master.specs.Tick.{tick_call}
use Rattle.master.specs.{Storing.unstored, Storing.store_call, Storing.load_call, Editions.unset, Editions.edition_call}
use Rattle.master.specs.Messages.{is_abort, is_indication, is_answer, execution_in, reply_in}
use Rattle.events.specs.Events.{Event, on, off, «record», stop, cancel, start, abort, attach, enable, disable, report, lost, indication, client_abort, tick, answer, store, load, edition, call_of, apply, Given}
use Rattle.events.proofs.Choices.{chosen_by}
use Rattle.events.proofs.Calls.{number_is}
use Rattle.events.proofs.Regular.{length_steps, given_regular}
use Rattle.events.proofs.Accepts.{found_number, found}
use Rattle.recording.proofs.Steps.{both}
use Rattle.seen.specs.Words.{nth, Enabled, InRecording}
use Rattle.seen.specs.Numbers.{Not, tells, accepts, IsE4, IsE7, IsE3, IsReport, Answers, Absent, Occupied, SomeAwake, SomeEnabled, SomeUnready, numbers_of, Numbers}
use Rattle.seen.proofs.Reading.{Fits, no, read_as, kind_read, indication_is, answer_is, status_again, failed_again}
use Rattle.seen.proofs.Verifying.{verified}
use Rattle.seen.proofs.Storing.{short_says, none_says}
use Rattle.seen.proofs.Says.{Says, equal, below, at_most, negated, both_say, either_says, same_words, three_say, Tells, done, first, unless, unless_either, doubled, some_says, attached, enabled}

-- ---- reports and messages

-- "a report of no known state"
is_report_lem : (n : ℕ) → Says (is_report n) (IsReport n)
is_report_lem zero = (λ _. (omega arith, λ e. omega arith), λ _. refl)
is_report_lem (suc zero) = (λ _. (omega arith, λ e. omega arith), λ _. refl)
is_report_lem (suc (suc zero)) = (λ _. (omega arith, λ e. omega arith), λ _. refl)
is_report_lem (suc (suc (suc zero))) = (λ e. absurd (true≢false (sym e)), λ (l, h). absurd (h refl))
is_report_lem (suc (suc (suc (suc zero)))) = (λ _. (omega arith, λ e. omega arith), λ _. refl)
is_report_lem (suc (suc (suc (suc (suc zero))))) = (λ _. (omega arith, λ e. omega arith), λ _. refl)
is_report_lem (suc (suc (suc (suc (suc (suc n)))))) = (λ e. absurd (true≢false (sym e ∙ none (suc (suc (suc (suc (suc (suc n)))))) (omega arith))), λ (l, h). absurd (omega arith))
  where
    none : (k : ℕ) → 6 ≤ k → is_report k ≡ false
    none k h = rw (ne_eqb k 0 (λ e. omega arith), ne_eqb k 1 (λ e. omega arith), ne_eqb k 2 (λ e. omega arith), ne_eqb k 4 (λ e. omega arith), ne_eqb k 5 (λ e. omega arith))

no_report : (number : ℕ) → Says (eqb (report_from number) 255) (Not (IsReport number))
unfolding report_from
no_report number =
    chosen_by (λ (k : ℕ). Says (eqb k 255) (Not (IsReport number))) (is_report number) number 255
    (λ t. let r = (is_report_lem number).0 t in (λ e. absurd (omega (arith, r.0, eqb-true number 255 e)), λ h. absurd (h r)))
    (λ f. (λ _ r. true≢false (sym ((is_report_lem number).1 r) ∙ f), λ _. refl))

said_as : (number : ℕ) → eqb (report_from number) 255 ≡ false → Says (eqb (report_from number) 0) (number ≡ 0)
unfolding report_from
said_as number =
    chosen_by (λ (k : ℕ). eqb k 255 ≡ false → Says (eqb k 0) (number ≡ 0)) (is_report number) number 255
    (λ _ _. equal number 0) (λ _ e. absurd (true≢false e))

module _ (s : List ℕ) where
  small : leb (nth 3 s % 64) 63 ≡ true
  small = le-leb (nth 3 s % 64) 63 (omega arith)

  pub is_E4 : Says (is_indication s) (IsE4 s)
  unfolding pick Fits
  is_E4 = (
    read_as s 21 (λ _. IsE4 s) refl
        (no s, (no s, (no s, (no s, (no s, (no s, (no s, (no s, (λ c l q f. (sym (eqb-true 8 (length s) (both _ _ f).0), c), (no s, (no s, (no s, tt)))))))))))),
    λ (l, c). kind_read s 0x32 _ 21 c refl (rw (l, small)) (λ l. refl),
  )

  -- "01 to 03, 04 to FE reserved, FF"
  known_says : (error : ℕ) → Says (known 0x03 error) ((error ≤ 3) ⊎ (error ≡ 0xFF))
  known_says error = either_says _ _ _ _ (at_most error 3) (equal error 0xFF)

  is_E7 : Says (is_answer s) (IsE7 s)
  unfolding pick Fits
  is_E7 = (
    read_as s 24 (λ _. IsE7 s) refl (
      no s,
      (
        no s,
        (
          no s,
          (
            no s,
            (
              no s,
              (
                no s,
                (
                  no s,
                  (
                    no s,
                    (
                      no s,
                      (
                        λ c l q f.
                            let b = both (eqb 8 (length s)) _ f in
                            (sym (eqb-true 8 (length s) b.0), c, (known_says (nth 4 s)).0 (both (leb (nth 3 s % 64) 63) _ b.1).1),
                        (no s, (no s, tt)),
                      ),
                    ),
                  ),
                ),
              ),
            ),
          ),
        ),
      ),
    ),
    λ (l, c, k). kind_read s 0x34 _ 24 c refl (rw (l, small, (known_says (nth 4 s)).1 k)) (λ l. refl),
  )

  reason_says : (error : ℕ) → Says (leb 1 error && known 0x03 error) (((1 ≤ error) × (error ≤ 3)) ⊎ (error ≡ 0xFF))
  reason_says error = same_words (both_say _ _ _ _ (at_most 1 error) (known_says error)) (there, back)
    where
      there : (1 ≤ error) × ((error ≤ 3) ⊎ (error ≡ 0xFF)) → ((1 ≤ error) × (error ≤ 3)) ⊎ (error ≡ 0xFF)
      there (l, inl h) = inl (l, h)
      there (l, inr e) = inr e

      back : ((1 ≤ error) × (error ≤ 3)) ⊎ (error ≡ 0xFF) → (1 ≤ error) × ((error ≤ 3) ⊎ (error ≡ 0xFF))
      back (inl (l, h)) = (l, inl h)
      back (inr e) = (omega arith, inr e)

  is_E3 : Says (is_abort s) (IsE3 s)
  unfolding pick Fits
  is_E3 = (
    read_as s 20 (λ _. IsE3 s) refl (
      no s,
      (
        no s,
        (
          no s,
          (
            no s,
            (
              no s,
              (
                no s,
                (
                  no s,
                  (
                    λ c l q f. let b = both (eqb 8 (length s)) _ f in (sym (eqb-true 8 (length s) b.0), c, (reason_says (nth 4 s)).0 b.1),
                    (no s, (no s, (no s, (no s, tt)))),
                  ),
                ),
              ),
            ),
          ),
        ),
      ),
    ),
    λ (l, c, k). kind_read s 0x31 _ 20 c refl (rw (l, (reason_says (nth 4 s)).1 k)) (λ l. refl),
  )

  -- the status of what is read
  is_failed : is_indication s ≡ true → Says (eqb (status_number (execution_in s).status) 3) (3 ≤ nth 3 s / 64)
  is_failed i =
      let e : status_number (execution_in s).status ≡ status_number (status_again (nth 3 s)) = ap (λ (x : Execution). status_number x.status) (indication_is s i) in
      same_words (equal _ 3) (λ q. (failed_again (nth 3 s)).0 (sym e ∙ q), λ h. e ∙ (failed_again (nth 3 s)).1 h)

-- ---- clients

module _ (m : Master) where
  awake : Says (some is_awake m.slots) (SomeAwake m)
  awake =
      some_says is_awake (λ s. Not (s.taken ≡ 0) × Not (s.report ≡ 0)) refl
      (λ s. both_say _ _ _ _ (attached s) (negated _ _ (equal s.report 0))) m.slots

  some_enabled : Says (some is_enabled m.slots) (SomeEnabled m)
  some_enabled = some_says is_enabled Enabled refl enabled m.slots

  some_unready : Says (some (is_other 1) m.slots) (SomeUnready m)
  some_unready =
      some_says (is_other 1) (λ s. Enabled s × Not (s.report ≡ 1)) refl (λ s. both_say _ _ _ _ (enabled s) (negated _ _ (equal s.report 1))) m.slots

  named : (name : ℕ) → Says (some (is_named name) m.slots) ((i : ℕ) × (Not ((slot_at m i).taken ≡ 0) × ((slot_at m i).name ≡ name)))
  named name =
      some_says (is_named name) (λ s. Not (s.taken ≡ 0) × (s.name ≡ name)) refl (λ s. both_say _ _ _ _ (attached s) (equal s.name name)) m.slots

  absent : (slot : ℕ) → Says (is_absent m slot) (Absent m slot)
  absent slot = either_says _ _ _ _ (at_most 8 slot) (doubled _ _ (equal (slot_at m slot).taken 0))

  occupied : (slot name : ℕ) → Says (leb 8 slot || (is_taken (slot_at m slot) || some (is_named name) m.slots)) (Occupied m slot name)
  occupied slot name = either_says _ _ _ _ (at_most 8 slot) (either_says _ _ _ _ (attached (slot_at m slot)) (named name))

  in_recording : Says (is_recording m) (InRecording m)
  in_recording = either_says _ _ _ _ (equal m.state 2) (equal m.state 3)

  -- ---- calls that take nothing

  abbrev TellsOf : Event → Type 0
  TellsOf e = Tells (number_of (call_of m e)) (numbers_of m e)

  abbrev not_in : (s : ℕ) → Says (not (eqb m.state s)) (Not (m.state ≡ s))
  not_in s = negated _ _ (equal m.state s)

  tells_bare : Given m →
      TellsOf on × TellsOf off × TellsOf «record» × TellsOf stop × TellsOf cancel × TellsOf start × TellsOf abort
  unfolding pick refusal on_call off_call record_call stop_call cancel_call start_call abort_call clients.awake unready
  tells_bare g = (
    first _ _ 2 _ _ (not_in 0) (λ _. done),
    first _ _ 2 _ _ (not_in 1) (λ _. first _ _ 13 _ _ awake (λ _. done)),
    first _ _ 2 _ _ (not_in 1) (λ _. first _ _ 14 _ _ (negated _ _ some_enabled) (λ _. first _ _ 12 _ _ some_unready (λ _. done))),
    first _ _ 2 _ _ (not_in 2) (λ _. done),
    first _ _ 2 _ _ (negated _ _ in_recording) (λ _. done),
    first _ _ 2 _ _ (not_in 1) (λ _. verified m g),
    first _ _ 2 _ _ (not_in 4) (λ _. done),
  )

  -- ---- attaching, enabling, disabling, a loss, a tick

  tells_attach : (slot name : ℕ) (pool : List ℕ) → TellsOf (attach slot name pool)
  unfolding pick refusal attach_call clients.unfit
  tells_attach slot name pool =
      first _ _ 3 _ _ (occupied slot name) (λ _. first _ _ 2 _ _ (not_in 1) (λ _. unless _ _ 6 (equal (verdict_of pool).code 0x00)))

  tells_want : (slot : ℕ) (out : List ℕ) → TellsOf (enable slot out) × TellsOf (disable slot out)
  unfolding pick refusal want_call
  tells_want slot out = (
    first _ _ 1 _ _ (below (length out) 8) (λ _. first _ _ 3 _ _ (absent slot) (λ _. first _ _ 2 _ _ (not_in 1) (λ _. done))),
    first _ _ 1 _ _ (below (length out) 8) (λ _. first _ _ 3 _ _ (absent slot) (λ _. first _ _ 2 _ _ (not_in 1) (λ _. done))),
  )

  tells_lost : (slot : ℕ) → TellsOf (lost slot)
  unfolding pick refusal lost_call
  tells_lost slot = first _ _ 3 _ _ (absent slot) (λ _. first _ _ 2 _ _ (equal m.state 0) (λ _. done))

  tells_tick : (mm : ℕ) (out : List ℕ) → TellsOf (tick mm out)
  unfolding pick refusal tick_call
  tells_tick mm out =
      first _ _ 1 _ _ (below (length out) 576) (λ _. first _ _ 4 _ _ (below 65535 mm) (λ _. first _ _ 2 _ _ (equal m.state 0) (λ _. done)))

  -- ---- a report

  tells_report : (slot number : ℕ) → TellsOf (report slot number)
  unfolding pick refusal report_call clients.unexpected
  tells_report slot number =
      first _ _ 4 _ _ (no_report number)
      (λ f. first _ _ 3 _ _ (absent slot) (λ _. first _ _ 2 _ _ (equal m.state 0)
      (λ _. first _ _ 5 _ _
      (three_say _ _ _ _ _ _ (negated _ _ (said_as number f)) (equal (slot_at m slot).wanted 0) (equal (slot_at m slot).report 0)) (λ _. done))))

  -- ---- messages

  tells_abort : (slot : ℕ) (msg : List ℕ) → TellsOf (client_abort slot msg)
  unfolding pick refusal client_abort_call unheeded
  tells_abort slot msg =
      first _ _ 4 _ _ (negated _ _ (is_E3 msg))
      (λ _. first _ _ 3 _ _ (absent slot) (λ _. first _ _ 2 _ _ (equal m.state 0)
      (λ _. unless _ _ 5 (both_say _ _ _ _ (equal m.state 4) (enabled (slot_at m slot))))))

  tells_indication : (slot : ℕ) (msg out : List ℕ) → TellsOf (indication slot msg out)
  unfolding pick refusal indication_call untimely
  tells_indication slot msg out =
      first _ _ 1 _ _ (below (length out) 8) (λ _. first _ _ 4 _ _ (negated _ _ (is_E4 msg))
      (λ f. first _ _ 3 _ _ (absent slot) (λ _. first _ _ 2 _ _ (equal m.state 0)
      (λ _. unless_either _ _ _ _ 5
      (three_say _ _ _ _ _ _ in_recording (enabled (slot_at m slot)) (equal (slot_at m slot).report 2))
      (three_say _ _ _ _ _ _ (equal m.state 4) (enabled (slot_at m slot)) (is_failed msg (not-false _ f)))))))

  -- ---- E.7

  module _ (g : Given m) (slot : ℕ) (msg : List ℕ) (i : is_answer msg ≡ true) where
    abbrev r : Reply
    r = reply_in msg

    abbrev q : Sequence
    q = m.sequence

    abbrev p : Playback
    p = m.playback

    abbrev test : Step × Sent → Bool
    test x = is_answer_of slot r.tan r.function r.state x.0 x.1

    abbrev place : ℕ
    place = find_answered q.steps p.commands p.sent slot r.tan r.function r.state

    -- what is read is what the bytes say
    reads : r ≡ reply_from (reply_step (as_reply msg))
    reads = answer_is msg i

    tan_is : r.tan ≡ nth 5 msg
    tan_is = ap (λ (x : Reply). x.tan) reads

    function_is : r.function ≡ nth 2 msg
    function_is = ap (λ (x : Reply). x.function) reads

    state_is : r.state ≡ nth 3 msg % 64
    state_is = ap (λ (x : Reply). x.state) reads

    answers_found : m.state ≡ 4 → place < 64 → Answers m slot msg
    unfolding find_answered
    answers_found s l = go (first_is test 64 0 (take p.sent (pairs q.steps p.commands)) (blank_step, blank_sent))
      where
        go : Found test 64 0 (take p.sent (pairs q.steps p.commands)) (blank_step, blank_sent) → Answers m slot msg
        go (inl (e, _)) = absurd (omega (arith, l, e))
        go (inr (k, e, b, t)) =
            let h = given_regular m g in
            let steps : length q.steps ≡ 64 = length_steps q h.sequence in
            let cells : length p.commands ≡ 64 = h.playback.tidy.cells in
            let few : k < p.sent = omega (arith, b, length-take p.sent (pairs q.steps p.commands)) in
            let small : k < 64 = omega (arith, few, h.playback.tidy.few) in
            let at : get_or (take p.sent (pairs q.steps p.commands)) k (blank_step, blank_sent) ≡ (get_or q.steps k blank_step, get_or p.commands k blank_sent) =
            get_or-take p.sent (pairs q.steps p.commands) k (blank_step, blank_sent) few
            ∙ get_d_pairs q.steps p.commands k blank_step blank_sent (omega (arith, small, steps)) (omega (arith, small, cells)) in
            let a = both _ _ (ap test (sym at) ∙ t) in
            let c = both _ _ a.0 in
            let d = both _ _ c.0 in
            record {
              playing = s;
              step = k;
              sent = few;
              of_client = eqb-true _ _ d.0;
              of_tan = eqb-true _ _ d.1 ∙ tan_is;
              of_function = eqb-true _ _ c.1 ∙ function_is;
              of_state = eqb-true _ _ a.1 ∙ state_is;
            }

    found_answers : Answers m slot msg → place < 64
    found_answers a =
        found m slot r (given_regular m g)
        (record {
          step = a.step;
          sent = a.sent;
          slot_matches = a.of_client;
          tan_matches = a.of_tan ∙ sym tan_is;
          function_matches = a.of_function ∙ sym function_is;
          state_matches = a.of_state ∙ sym state_is;
        })

    answers_say : Says (eqb m.state 4 && ltb place 64) (Answers m slot msg)
    answers_say =
        same_words (both_say _ _ _ _ (equal m.state 4) (below place 64))
        (λ (s, l). answers_found s l, λ a. (a.playing, found_answers a))

    not_found : ltb place 64 ≡ false → (answered_of p q slot r).number ≡ 15
    unfolding answered_of
    not_found f = ap (λ (x : Answered). x.number) (pick_true (leb 64 place) _ _ (le-leb 64 place (ltb-false place 64 f)))

    number_so : pick (eqb m.state 4 && ltb place 64) 0 15 ≡ unmatched m.state (answered_of p q slot r).number
    unfolding pick unmatched
    number_so = go (eqb m.state 4) (ltb place 64) (λ t. found_number p q slot r (ltb-true place 64 t)) not_found
      where
        go : {n : ℕ} (a b : Bool) → (b ≡ true → n ≡ 0) → (b ≡ false → n ≡ 15) → pick (a && b) 0 15 ≡ pick a n 15
        go true true z k = sym (z refl)
        go true false z k = sym (k refl)
        go false b z k = refl

  tells_answer : Given m → (slot : ℕ) (msg out : List ℕ) → TellsOf (answer slot msg out)
  unfolding pick refusal answer_call
  tells_answer g slot msg out =
      first _ _ 1 _ _ (below (length out) 8) (λ _. first _ _ 4 _ _ (negated _ _ (is_E7 msg))
      (λ f. first _ _ 3 _ _ (absent slot) (λ _. first _ _ 2 _ _ (equal m.state 0)
      (λ _.
      let i = not-false _ f in
      subst (λ (c : ℕ). Tells c (tells 15 (Not (Answers m slot msg)) accepts)) (number_so g slot msg i) (unless _ _ 15 (answers_say g slot msg i))))))

  -- ---- storing and loading

  tells_store : Given m → (out : List ℕ) → TellsOf (store out)
  unfolding pick refusal store_call unstored
  tells_store g out =
      first _ _ 1 _ _ (short_says m g out) (λ _. first _ _ 2 _ _ (not_in 1) (λ _. first _ _ 7 _ _ (none_says m g) (λ _. done)))

  tells_load : (blocks : List ℕ) → TellsOf (load blocks)
  unfolding pick refusal load_call load_number
  tells_load blocks =
      first _ _ 2 _ _ (not_in 1) (λ _. first _ _ 16 _ _ (λ e. e, λ e. e) (λ _. first _ _ 17 _ _ (λ e. e, λ e. e) (λ _. done)))

  -- ---- the edition

  tells_edition : Given m → (n : ℕ) → TellsOf (edition n)
  unfolding pick refusal edition_call unset
  tells_edition g n =
      first _ _ 2 _ _ (not_in 1) (λ _. first _ _ 7 _ _ (none_says m g) (λ _. unless _ _ 17 (either_says _ _ _ _ (equal n 1) (equal n 2))))

  -- ---- every call

  tells_all : Given m → (e : Event) → TellsOf e
  tells_all g on = (tells_bare g).0
  tells_all g off = (tells_bare g).1
  tells_all g «record» = (tells_bare g).2
  tells_all g stop = (tells_bare g).3
  tells_all g cancel = (tells_bare g).4
  tells_all g start = (tells_bare g).5
  tells_all g abort = (tells_bare g).6
  tells_all g (attach slot name pool) = tells_attach slot name pool
  tells_all g (enable slot out) = (tells_want slot out).0
  tells_all g (disable slot out) = (tells_want slot out).1
  tells_all g (report slot number) = tells_report slot number
  tells_all g (lost slot) = tells_lost slot
  tells_all g (indication slot msg out) = tells_indication slot msg out
  tells_all g (client_abort slot msg) = tells_abort slot msg
  tells_all g (tick mm out) = tells_tick mm out
  tells_all g (answer slot msg out) = tells_answer g slot msg out
  tells_all g (store out) = tells_store g out
  tells_all g (load blocks) = tells_load blocks
  tells_all g (edition n) = tells_edition g n

refused_pool :
    (m : Master) (slot name : ℕ) (pool : List ℕ) → (apply m (attach slot name pool)).number ≡ 6
    → ((apply m (attach slot name pool)).code ≡ (verdict_of pool).code) × ((apply m (attach slot name pool)).object ≡ (verdict_of pool).object)
unfolding outcome_of attach_call
refused_pool m slot name pool e = (pick_true _ _ _ (eq-eqb _ _ e), pick_true _ _ _ (eq-eqb _ _ e))

no_code : (m : Master) (e : Event) → Not ((apply m e).number ≡ 6) → ((apply m e).code ≡ 0) × ((apply m e).object ≡ 0)
unfolding outcome_of
no_code m e h = (pick_false _ _ _ (ne_eqb _ _ h), pick_false _ _ _ (ne_eqb _ _ h))

pub numbers : Numbers
numbers = record {
  exactly = λ m g e n.
      let t = tells_all m g e n in
      (λ q. t.0 (sym (number_is m (call_of m e)) ∙ q), λ w. number_is m (call_of m e) ∙ t.1 w);
  refused_pool = refused_pool;
  other = no_code;
}
