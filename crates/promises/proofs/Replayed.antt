-- From the bytes of an E.4 to the bytes of a frame.
use Prim.Native.Nat.{ℕ, ◌+◌, ◌/◌, ◌%◌, ◌≤◌, ◌<◌}
use mathlib.Core.Path.{◌≡◌, refl, sym, ap, subst, ◌∙◌}
use mathlib.Core.Bool.{true}
use mathlib.Core.Logic.{inl, inr}
use mathlib.Core.List.{List, [], ◌∷◌}
use native.Mathlib.Omega.{arith}
use lib.ListN.{length, take, drop, get_or, length-take, length-drop}
use lib.Seq.{get_or-take, take_all}
use Rattle.octets.specs.Octets.{number_at, bytes_of}
use Rattle.octets.proofs.Laws.{bytes_of_number}
use Rattle.arrays.specs.Every.{Every}
use Rattle.arrays.proofs.Every.{every_at}
use Rattle.message.specs.Layout.{as_execution}
use Rattle.message.specs.declared.Execution.{Execution}
use Rattle.sequence.specs.Sequence.{blank_step, length_of, steps_of}
use Rattle.sequence.specs.declared.Step.{Step}
use Rattle.sequence.specs.declared.Sequence.{Sequence}
use Rattle.store.specs.{Blocks.step_place, Promises.Accepted}
use Rattle.store.specs.Loaded as loaded
use Rattle.store.specs.Loaded.{client_count, load_number, loaded_of}
use Rattle.store.proofs.Accepted.{accepted}
use Rattle.store.proofs.Contents.{stores_some}
use Rattle.master.specs.declared.Master.{Master}
use Rattle.flat.specs.Flat.{execution_step, execution_from}
use Rattle.master.specs.Messages.{execution_in, is_indication}
use Rattle.events.specs.Events.{Event, start, which_call, apply, run}
use Rattle.seen.specs.Words.{Bytes, nth}
use Rattle.seen.specs.Ways.{Ways}
use Rattle.seen.proofs.Reading.{indication_is, byte_below}
use Rattle.seen.proofs.Tests.{is_indication_lem}
use Rattle.seen.proofs.Telling.{is_E4}
use Rattle.history.specs.Steps.{Entry}
use Rattle.history.specs.Promises as history
use Rattle.history.specs.Promises.{Recorded, LoadedStep, HasOrigin}
use Rattle.history.proofs.Loads.{is_accepted}
use Rattle.plays.specs.Promises as plays
use Rattle.plays.specs.Plays.{Started, step_at, tan_of}
use Rattle.promises.specs.Replayed.{ReplaysOrigin, Replayed}

-- ---- four bytes of a value

abbrev four : ℕ → List ℕ
four v = v % 256 ∷ v / 256 % 256 ∷ v / 65536 % 256 ∷ v / 16777216 % 256 ∷ []

four_bytes : (v : ℕ) → bytes_of 4 v ≡ four v
unfolding bytes_of
four_bytes v =
    let a : v / 256 / 256 ≡ v / 65536 = omega arith in
    let b : v / 256 / 256 / 256 ≡ v / 16777216 = omega arith in
    rw (b, a)

value_bytes : (s : List ℕ) → Bytes s → length s ≡ 8 → four (number_at 4 s 4) ≡ drop 4 s
value_bytes s b n =
    sym (four_bytes (number_at 4 s 4))
    ∙ bytes_of_number 4 s 4 (λ k. byte_below s k b) (omega (arith, n))
    ∙ take_all 4 (drop 4 s) (omega (arith, n, length-drop 4 s))

nine : {a b c a' b' c' : ℕ} {l l' : List ℕ} (tan : ℕ) → a ≡ a' → b ≡ b' → c ≡ c' → l ≡ l' → a ∷ 0x33 ∷ b ∷ c ∷ tan ∷ l ≡ a' ∷ 0x33 ∷ b' ∷ c' ∷ tan ∷ l'
nine tan p q r e = rw (p, q, r, e)

-- ---- a step that was recorded, by the bytes of the E.4 that finished it

module _ (events : List Event) (s : Step) (r : Recorded events s) where
  abbrev msg : List ℕ
  msg = r.finished_in.msg

  said : r.finished.message ≡ execution_in msg
  said = ap (λ (x : Entry). x.message) r.finished_in.entry

  read : is_indication msg ≡ true
  read = is_indication_lem (run r.finished_in.before) r.finished_in.slot msg r.finished_in.out r.finished_in.accepted

  message_is : r.finished.message ≡ execution_from (execution_step (as_execution msg))
  message_is = said ∙ indication_is msg read

  from_bytes : Bytes msg → (tan : ℕ)
      → s.slot ∷ 0x33 ∷ s.function ∷ s.state ∷ tan ∷ four s.value
      ≡ r.finished_in.slot ∷ 0x33 ∷ nth 2 msg ∷ nth 3 msg % 64 ∷ tan ∷ drop 4 msg
  from_bytes b tan =
      let slot : s.slot ≡ r.finished_in.slot = r.start.slot ∙ sym r.slot ∙ ap (λ (x : Entry). x.slot) r.finished_in.entry in
      let function : s.function ≡ nth 2 msg = r.start.function ∙ sym r.function ∙ ap (λ (e : Execution). e.function) message_is in
      let state : s.state ≡ nth 3 msg % 64 = r.start.state ∙ sym r.state ∙ ap (λ (e : Execution). e.state) message_is in
      let value : s.value ≡ number_at 4 msg 4 = r.value ∙ ap (λ (e : Execution). e.value) message_is in
      nine tan slot function state (ap four value ∙ value_bytes msg b ((is_E4 msg).0 read).0)

-- ---- a step that was loaded, by the bytes of its blocks

accepts : (s : List ℕ) → load_number s ≡ 0 → Accepted s (loaded_of s).sequence
unfolding loaded_of
accepts s z = accepted s z

module _ (events : List Event) (s : Step) (r : LoadedStep events s) where
  abbrev blocks : List ℕ
  blocks = r.blocks

  abbrev place : ℕ
  place = step_place (client_count blocks) r.number

  -- its sixteen bytes are within them
  within : place + 16 ≤ length blocks
  within =
      let z = is_accepted r.before blocks r.accepted in
      let a = accepts blocks z in
      let q = (loaded_of blocks).sequence in
      let few = a.legal.some_step in
      let most = a.legal.sound.few in
      let whole = stores_some q (λ e. omega (arith, e, few)) in
      omega (arith, r.counted, a.blocks, a.clients, a.steps, whole)

  from_blocks : Bytes blocks → (tan : ℕ)
      → s.slot ∷ 0x33 ∷ s.function ∷ s.state ∷ tan ∷ four s.value
      ≡ get_or blocks place 0 ∷ 0x33 ∷ get_or blocks (place + 1) 0 ∷ get_or blocks (place + 2) 0 ∷ tan ∷ take 4 (drop (place + 8) blocks)
  unfolding loaded.step_at
  from_blocks b tan =
      let l = within in
      let e = r.step in
      nine tan (ap (λ (x : Step). x.slot) e) (ap (λ (x : Step). x.function) e) (ap (λ (x : Step). x.state) e)
      (ap (λ (x : Step). four x.value) e ∙ sym (four_bytes (number_at 4 blocks (place + 8)))
      ∙ bytes_of_number 4 blocks (place + 8) (λ k. byte_below blocks k b) (omega arith))

-- ---- a frame

abbrev step_in : Sequence → ℕ → Step
step_in q i = get_or q.steps i blank_step

-- what holds of every step holds of step i
of_step : (P : Step → Type 0) (q : Sequence) → length q.steps ≡ 64 → (i : ℕ) → i < length_of q → Every P (steps_of q) → P (step_in q i)
unfolding steps_of
of_step P q full i l h =
    subst P (get_or-take q.count q.steps i blank_step (omega arith))
    (every_at P (take q.count q.steps) i blank_step (omega (arith, full, length-take q.count q.steps)) h)

-- a start keeps the sequence
kept : Ways → (m : Master) → (apply m start).master.sequence ≡ m.sequence
kept w m =
    w.keeps m start (λ e. omega (arith, ap which_call e)) (λ slot msg out e. omega (arith, ap which_call e)) (λ blocks e. omega (arith, ap which_call e))
    (λ n e. omega (arith, ap which_call e))

-- a frame that commands the step, by its origin
by_origin :
    (events : List Event) (s : Step) (tan : ℕ) (frame : List ℕ) → frame ≡ s.slot ∷ 0x33 ∷ s.function ∷ s.state ∷ tan ∷ four s.value → HasOrigin events s
    → ReplaysOrigin events s tan frame
by_origin events s tan frame e (inl r) = inl (record { recorded = r; bytes = λ b. e ∙ from_bytes events s r b tan })
by_origin events s tan frame e (inr r) = inr (record { loaded = r; bytes = λ b. e ∙ from_blocks events s r b tan })

pub replayed : Ways → history.Promises → plays.Promises → Replayed
replayed w h p events z es mm out l a k n =
    let m : Master = (apply (run events) start).master in
    let s : Started m = record { before = run events; given = (events, refl); accepted = z; after = refl } in
    let o = p.frames.no_other m s es mm out l a k n in
    let i : ℕ = o.0 in
    let there : i < length_of m.sequence = (o.1.0.0.1.0.none_later i (omega arith)).1.reaching.there in
    let q = kept w (run events) in
    let r : HasOrigin events (step_at m i) =
    subst (λ (x : Sequence). HasOrigin events (step_in x i)) (sym q)
    (of_step (HasOrigin events) (run events).sequence (p.leavings.whole (run events) (events, refl)) i (subst (λ (x : Sequence). i < length_of x) q there) (h.recorded events)) in
    (i, (o.1.0, by_origin events (step_at m i) (tan_of m i) _ (o.1.1 ∙ p.frames.command m s i there) r))
