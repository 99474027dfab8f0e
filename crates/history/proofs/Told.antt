-- The log tells of every step that is held: at the start, with every tick and with every message.
use Prim.Native.Nat.{ℕ, ◌<◌}
use mathlib.Core.Path.{◌≡◌, refl, sym, ap, subst, ◌∙◌}
use mathlib.Core.Bool.{Bool, true, false, not, ◌&&◌, ◌||◌, true≢false, or-true, and-false, and_assoc}
use mathlib.Core.List.{List, [], ◌∷◌, ◌++◌, map, map-append, append-nil}
use native.Mathlib.Omega.{arith}
use lib.Dec.{eqb, leb}
use lib.ListN.{length, get_or, get_or-replicate}
use lib.Seq.{take-set-lt}
use borrow.Author.Tests.{eq-eqb, eqb-true, eqb-false}
use Rattle.octets.specs.Pick.{pick}
use Rattle.profile.specs.Profile as profile
use Rattle.profile.specs.declared.Profile.{Profile}
use Rattle.message.specs.declared.Execution.{Execution}
use Rattle.arrays.specs.Arrays.{some, those}
use Rattle.arrays.specs.Every.{Every}
use Rattle.arrays.proofs.Fill.{those_append}
use Rattle.arrays.proofs.Every.{every_at, every_more, some_alike, some_map, some_more, none_passes, those_none, those_some, neither}
use Rattle.client.specs.Clients.{slot_count}
use Rattle.client.specs.Records.{blank_record, record_of}
use Rattle.client.specs.declared.Client.{Client}
use Rattle.recording.specs.State.{blank_taken, blank_recording}
use Rattle.recording.specs.Indication.{status, counted_recording, held_of, step_at, is_step_of, again_error, step_after, with_step, heard_again, error_by, first_error, is_known, new_step, records_after, with_new, heard_of}
use Rattle.recording.specs.Promises.{Sound, start_of, is_taken_of}
use Rattle.recording.specs.declared.Taken.{Taken}
use Rattle.recording.specs.declared.Recording.{Recording}
use Rattle.recording.specs.Indication.{Heard}
use Rattle.recording.proofs.Errors.{early, room}
use Rattle.recording.proofs.Cases.{held_count, held_at, held_new, error, refused, step, begun, by_cases}
use Rattle.recording.proofs.Steps.{both, start_same, is_begun}
use Rattle.recording.proofs.Sound.{starts}
use Rattle.recording.proofs.Records.{after_there, after_first, after_other}
use Rattle.events.proofs.Choices.{either, is_false, is_true}
use Rattle.history.specs.Steps.{Entry, status_in, is_answered, is_accepted, is_finish, is_failure, beginnings, is_first, is_from, client_of}
use Rattle.history.proofs.Lists.{all_true, none_weaker, still_none, first_now, left_false, right_false, every_two, set_every}
use Rattle.history.proofs.Beginnings.{start_in, First, none_some, begins_none, begins_one, firsts_still}
use Rattle.history.proofs.Held.{Held, status_few, at_once_is, started_is, grown, found_first, not_yet, answered_else, not_its, held_after}

-- of this client and TAN, of status 11 and answered FF
abbrev is_broken : ℕ → ℕ → Entry → Bool
is_broken slot tan x = is_answered 0xFF slot tan x && eqb (status_in x) 0b11

fails_broken : (b x : Entry) → is_failure b x ≡ true → is_broken b.slot b.message.tan x ≡ true
fails_broken b x k =
    let a = both (is_answered 0xFF b.slot b.message.tan x) _ k in
    all_true (is_answered 0xFF b.slot b.message.tan x) _ a.0
    (both (eqb b.message.function x.message.function && eqb b.message.state x.message.state) (eqb (status_in x) 0b11) a.1).1

pub record Told (r : Recording) (log : List Entry) : Type 0 where
  pub steps : Every (Held log) (held_of r)
  -- no message of a step that is not held was accepted
  pub fresh : (slot tan : ℕ) → some (is_step_of slot tan) (held_of r) ≡ false → those (is_accepted slot tan) log ≡ []
  -- and none that failed one
  unbroken : (slot tan : ℕ) → some (is_step_of slot tan) (held_of r) ≡ false → those (is_broken slot tan) log ≡ []
  -- the steps are those that the log says were begun, in their order
  pub order : map start_of (held_of r) ≡ map start_in (beginnings [] log)
  pub firsts : Every (First log) (beginnings [] log)
  -- and what is kept with a client is what its first one brought
  pub records : (slot : ℕ) → slot < slot_count → get_or r.records slot blank_record ≡ client_of (those (is_from slot) (beginnings [] log))

pub told_blank : Told blank_recording []
unfolding blank_recording
told_blank = record {
  steps = tt;
  fresh = λ slot tan n. refl;
  unbroken = λ slot tan n. refl;
  order = refl;
  firsts = tt;
  records = λ slot l. get_or-replicate 8 slot blank_record blank_record l;
}

pub told_counted : (r : Recording) (mm : ℕ) (log : List Entry) → Told r log → Told (counted_recording r mm) log
unfolding counted_recording
told_counted r mm log h =
    record { steps = h.steps; fresh = h.fresh; unbroken = h.unbroken; order = h.order; firsts = h.firsts; records = h.records }

-- a message is accepted of the step that has its client and TAN
not_of :
    (slot tan error : ℕ) (t : Taken) (x : Entry) → is_step_of slot tan t ≡ false → t.step.slot ≡ x.slot → t.tan ≡ x.message.tan
    → is_answered error slot tan x ≡ false
not_of slot tan error t x n a b = is_false (is_answered error slot tan x) no
  where
    no : is_answered error slot tan x ≡ true → ⊥
    no k =
        let c = both (eqb slot x.slot && eqb tan x.message.tan) (eqb x.error error) k in
        let d = both (eqb slot x.slot) (eqb tan x.message.tan) c.0 in
        let y = all_true (eqb t.step.slot slot) (eqb t.tan tan) (eq-eqb _ _ (a ∙ sym (eqb-true slot x.slot d.0))) (eq-eqb _ _ (b ∙ sym (eqb-true tan x.message.tan d.1))) in
        true≢false (sym y ∙ n)

-- a message of status 11 to a step that is not held is not answered FF
not_broken : (p : Profile) (complete : Bool) (count : ℕ) (e : Execution) → (eqb (first_error p complete count e) 0xFF && eqb (status e) 0b11) ≡ false
unfolding pick error_by first_error
not_broken p complete count e = go (eqb (profile.trigger p e.function) 0) (not (is_known p e)) (eqb (status e) 3) refl
  where
    rest : ℕ
    rest = pick complete 0xFF (pick (leb 64 count) 0x04 0x00)

    go : (a b c : Bool) → eqb (status e) 3 ≡ c → (eqb (pick a 1 (pick b 2 (pick (eqb (status e) 2 || c) 3 rest))) 0xFF && c) ≡ false
    go true b c q = refl
    go false true c q = refl
    go false false true q = rw (or-true (eqb (status e) 2))
    go false false false q = and-false (eqb (pick (eqb (status e) 2 || false) 3 rest) 0xFF)

-- ---- what is first brought for a client

client_still : (a b : List Entry) → 0 < length a → client_of (a ++ b) ≡ client_of a
client_still [] b l = absurd (omega arith)
client_still (x ∷ a) b l = refl

module _ (r : Recording) (log : List Entry) (h : Told r log) where
  pub stored_of : (slot : ℕ) → some (is_taken_of slot) (held_of r) ≡ some (is_from slot) (beginnings [] log)
  stored_of slot =
      sym (some_map start_of (is_taken_of slot) (held_of r)) ∙ ap (some (is_taken_of slot)) h.order ∙ some_map start_in (is_taken_of slot) (beginnings [] log)

-- ---- a message

module _ (log : List Entry) (r : Recording) (slot : ℕ) (client : Client) (complete : Bool) (e : Execution) (s : Sound r) (h : Told r log) where
  -- its entry, by its answer
  abbrev pub entry : ℕ → Entry
  entry error = record {
    slot = slot;
    message = e;
    error = error;
    ticks = r.ticks;
    distance = r.distance;
    trigger = profile.trigger client.profile e.function;
    client = record_of client;
  }

  abbrev After : Heard → Type 0
  After x = Told x.recording (log ++ entry x.error ∷ [])

  -- to a step that is held
  module _ (i : ℕ) (k : i < r.count) (q : is_step_of slot e.tan (step_at r i) ≡ true) where
    abbrev x : Entry
    x = entry (again_error (step_at r i) e)

    inside : i < length (held_of r)
    inside = let c = held_count r s in omega arith

    found_steps : Every (Held (log ++ x ∷ [])) (held_of (heard_again r i e).recording)
    unfolding heard_again
    found_steps =
        subst (Every (Held (log ++ x ∷ []))) (sym (take-set-lt r.count r.steps i (step_after (step_at r i) e) k))
        (set_every slot e.tan (Held log) (Held (log ++ x ∷ [])) blank_taken (step_after (step_at r i) e)
        (λ t p n. grown log x t p (λ _. not_its log x t p n 0 2) (λ _. not_its log x t p n 255 3))
        (held_of r) i inside (ap (is_step_of slot e.tan) (held_at r s i k) ∙ q) s.single h.steps
        (λ p. held_after log x (step_at r i) (subst (Held log) (held_at r s i k) p) q refl))

    -- a step that is not held now was not held before, and the message is not of it
    found_other : (a b : ℕ) → some (is_step_of a b) (held_of (heard_again r i e).recording) ≡ false
        → (some (is_step_of a b) (held_of r) ≡ false) × ((error : ℕ) → is_answered error a b x ≡ false)
    unfolding heard_again
    found_other a b n =
        let u = step_after (step_at r i) e in
        let z : some (is_step_of a b) (held_of r) ≡ false = some_alike start_of (held_of r) (held_of (with_step r i u)) (starts r s i k u (start_same (step_at r i) e)) (is_step_of a b) ∙ n in
        let m = every_at (λ t. is_step_of a b t ≡ false) (held_of r) i blank_taken inside (none_passes (is_step_of a b) (held_of r) z) in
        let w = both (eqb (step_at r i).step.slot slot) (eqb (step_at r i).tan e.tan) q in
        (z, λ error. not_of a b error (step_at r i) x (ap (is_step_of a b) (sym (held_at r s i k)) ∙ m) (eqb-true _ _ w.0) (eqb-true _ _ w.1))

    not_first : is_first log x ≡ false
    not_first = right_false (eqb x.error 0) _ (ap not (is_true (some (is_accepted slot e.tan) log) no))
      where
        no : some (is_accepted slot e.tan) log ≡ false → ⊥
        no n =
            let k : Held log (step_at r i) = subst (Held log) (held_at r s i k) (every_at (Held log) (held_of r) i blank_taken inside h.steps) in
            let f = found_first log (step_at r i) k slot e.tan q in
            let z = ap length (sym f.1 ∙ those_none (is_accepted slot e.tan) log n) in
            omega arith

    found : After (heard_again r i e)
    unfolding heard_again
    found = record {
      steps = found_steps;
      fresh = λ a b n. let o = found_other a b n in still_none (is_accepted a b) log x (h.fresh a b o.0) (o.1 0x00);
      unbroken = λ a b n. let o = found_other a b n in still_none (is_broken a b) log x (h.unbroken a b o.0) (left_false _ _ (o.1 0xFF));
      order =
          sym (starts r s i k (step_after (step_at r i) e) (start_same (step_at r i) e)) ∙ h.order
          ∙ ap (map start_in) (sym (begins_none log x not_first));
      firsts = subst (Every (First (log ++ x ∷ []))) (sym (begins_none log x not_first)) (firsts_still log x h.firsts);
      records = λ a l. h.records a l ∙ ap (λ (bs : List Entry). client_of (those (is_from a) bs)) (sym (begins_none log x not_first));
    }

  -- the steps that are held, where none is of this client and TAN
  others : (x : Entry) → some (is_step_of x.slot x.message.tan) (held_of r) ≡ false → Every (Held (log ++ x ∷ [])) (held_of r)
  others x n =
      every_two (λ y p m. grown log x y p (λ _. not_its log x y p m 0 2) (λ _. not_its log x y p m 255 3)) (held_of r) h.steps
      (none_passes (is_step_of x.slot x.message.tan) (held_of r) n)

  -- refused
  told_refused : some (is_step_of slot e.tan) (held_of r) ≡ false → eqb (error r slot client complete e) 0 ≡ false → After (refused r slot client complete e)
  told_refused m n =
      let x = entry (error r slot client complete e) in
      let none = begins_none log x (left_false (eqb x.error 0) _ n) in
      record {
        steps = others x m;
        fresh = λ a b z. still_none (is_accepted a b) log x (h.fresh a b z) (answered_else 0 a b x n);
        unbroken = λ a b z.
            still_none (is_broken a b) log x (h.unbroken a b z)
            (and_assoc (eqb a slot && eqb b e.tan) _ _ ∙ right_false (eqb a slot && eqb b e.tan) _ (not_broken client.profile complete r.count e));
        order = h.order ∙ ap (map start_in) (sym none);
        firsts = subst (Every (First (log ++ x ∷ []))) (sym none) (firsts_still log x h.firsts);
        records = λ a l. h.records a l ∙ ap (λ (bs : List Entry). client_of (those (is_from a) bs)) (sym none);
      }

  -- to a new step
  module _ (n : some (is_step_of slot e.tan) (held_of r) ≡ false) (z : error r slot client complete e ≡ 0) where
    abbrev new : Entry
    new = entry 0

    abbrev t : Taken
    t = step r slot client complete e

    held : held_of (begun r slot client complete e).recording ≡ held_of r ++ t ∷ []
    held = held_new r s t client (room client.profile complete r.count e z)

    none : those (is_accepted slot e.tan) log ≡ []
    none = h.fresh slot e.tan n

    not_late : (eqb (status e) 2 || eqb (status e) 3) ≡ false
    not_late = (early client.profile complete r.count e z).0

    late : (eqb (status e) 2 ≡ false) × (eqb (status e) 3 ≡ false)
    late = neither (eqb (status e) 2) (eqb (status e) 3) not_late

    new_first : First (log ++ new ∷ []) new
    new_first =
        first_now (is_accepted slot e.tan) log new none (all_true _ _ (all_true _ _ (eq-eqb slot slot refl) (eq-eqb e.tan e.tan refl)) refl)

    new_held : Held (log ++ new ∷ []) t
    unfolding new_step
    new_held =
        record {
          began = new;
          tan = refl;
          first = new_first;
          start = record { slot = refl; function = refl; state = refl; kind = refl; mark = refl };
          one_shot_lem = λ o. let a = at_once_is e.status o in (a, ((is_begun r slot client e).at_once a).1);
          started = λ k. started_is e.status k not_late;
          unfinished = λ _.
              still_none (is_finish new) log new (none_weaker (is_accepted slot e.tan) (is_finish new) (λ y k. (both _ _ k).0) log none)
              (not_yet 0 2 new new late.0);
          is_done = λ o. absurd (eqb-false (status e) 2 late.0 o);
          unfailed = λ _.
              still_none (is_failure new) log new
              (none_weaker (is_broken slot e.tan) (is_failure new) (fails_broken new) log (h.unbroken slot e.tan n))
              (not_yet 255 3 new new late.1);
          is_failed = λ o. absurd (eqb-false (status e) 3 late.1 o);
          few = status_few e.status;
        }

    is_the_first : is_first log new ≡ true
    is_the_first = ap not (none_some (is_accepted slot e.tan) log none)

    new_start : start_of t ≡ start_in new
    unfolding new_step
    new_start = refl

    new_other : (a b : ℕ) → some (is_step_of a b) (held_of (begun r slot client complete e).recording) ≡ false
        → (some (is_step_of a b) (held_of r) ≡ false) × ((error : ℕ) → is_answered error a b new ≡ false)
    unfolding new_step
    new_other a b m =
        let w = neither (some (is_step_of a b) (held_of r)) (is_step_of a b t) (sym (some_more (is_step_of a b) (held_of r) t) ∙ ap (some (is_step_of a b)) (sym held) ∙ m) in
        (w.0, λ error. not_of a b error t new w.1 refl refl)

    -- the first step of a client brings what is kept with it, a later one changes nothing
    new_records : (a : ℕ) → a < slot_count
        → get_or (begun r slot client complete e).recording.records a blank_record ≡ client_of (those (is_from a) (beginnings [] log ++ new ∷ []))
    unfolding new_step with_new
    new_records a l = either (eqb slot a) here there
      where
        bs : List Entry
        bs = beginnings [] log

        grows : those (is_from a) (bs ++ new ∷ []) ≡ those (is_from a) bs ++ those (is_from a) (new ∷ [])
        grows = those_append (is_from a) bs (new ∷ [])

        other : eqb slot a ≡ false → those (is_from a) bs ++ those (is_from a) (new ∷ []) ≡ those (is_from a) bs
        other f = rw f (append-nil (those (is_from a) bs))

        there : eqb slot a ≡ false → get_or (records_after r.records slot client) a blank_record ≡ client_of (those (is_from a) (bs ++ new ∷ []))
        there f =
            after_other r.records slot client s.slots a (λ z. eqb-false slot a f (sym z)) ∙ h.records a l
            ∙ ap client_of {y = those (is_from a) (bs ++ new ∷ [])} (sym (grows ∙ other f))

        here : eqb slot a ≡ true → get_or (records_after r.records slot client) a blank_record ≡ client_of (those (is_from a) (bs ++ new ∷ []))
        here f = either (some (is_taken_of a) (held_of r)) later first
          where
            only : some (is_taken_of a) (held_of r) ≡ false → those (is_from a) bs ++ those (is_from a) (new ∷ []) ≡ new ∷ []
            only k = rw (those_none (is_from a) bs (sym (stored_of r log h a) ∙ k), f)

            later : some (is_taken_of a) (held_of r) ≡ true → get_or (records_after r.records slot client) a blank_record ≡ client_of (those (is_from a) (bs ++ new ∷ []))
            later k =
                after_there r.records slot client s.slots a (s.recorded a l ∙ k) ∙ h.records a l
                ∙ sym (ap client_of grows ∙ client_still (those (is_from a) bs) _ (those_some (is_from a) bs (sym (stored_of r log h a) ∙ k)))

            first : some (is_taken_of a) (held_of r) ≡ false → get_or (records_after r.records slot client) a blank_record ≡ client_of (those (is_from a) (bs ++ new ∷ []))
            first k =
                ap (λ (y : ℕ). get_or (records_after r.records y client) a blank_record) (eqb-true slot a f)
                ∙ after_first r.records a client s.slots l (s.recorded a l ∙ k)
                ∙ sym (ap client_of (grows ∙ only k))

    told_new : After (begun r slot client complete e)
    unfolding new_step
    told_new =
        record {
          steps =
              subst (Every (Held (log ++ new ∷ []))) (sym held) (every_more _ (held_of r) t (others new n) new_held);
          fresh = λ a b m. let o = new_other a b m in still_none (is_accepted a b) log new (h.fresh a b o.0) (o.1 0x00);
          unbroken = λ a b m. let o = new_other a b m in still_none (is_broken a b) log new (h.unbroken a b o.0) (left_false _ _ (o.1 0xFF));
          order =
              ap (map start_of) held ∙ map-append start_of (held_of r) (t ∷ [])
              ∙ ap (λ (l : List Taken). l ++ start_of t ∷ []) h.order
              ∙ ap (λ (u : Taken). map start_in (beginnings [] log) ++ u ∷ []) new_start
              ∙ sym (map-append start_in (beginnings [] log) (new ∷ [])) ∙ ap (map start_in) (sym (begins_one log new is_the_first));
          firsts =
              subst (Every (First (log ++ new ∷ []))) (sym (begins_one log new is_the_first))
              (every_more (First (log ++ new ∷ [])) (beginnings [] log) new (firsts_still log new h.firsts) new_first);
          records = λ a l. new_records a l ∙ ap (λ (bs : List Entry). client_of (those (is_from a) bs)) (sym (begins_one log new is_the_first));
        }

  pub told_heard : After (heard_of r slot client complete e)
  told_heard = by_cases r slot client complete e After s (λ i k _ q. found i k q) (λ m n _. told_refused m n) told_new
