-- When the steps of a playback of the master leave, and when it ends: carried over from crate `replay` by `run_is`.
use mathlib.Core.Path.{◌≡◌, refl, sym, ap, ◌∙◌, subst}
use mathlib.Core.Bool.{true}
use mathlib.Core.Logic.{◌↔◌, ◌⊎◌, inl, inr}
use mathlib.Core.List.{List, [], ◌++◌, append-nil}
use Prim.Native.Nat.{ℕ, suc, ◌+◌, ◌%◌, ◌≤◌, ◌<◌}
use native.Mathlib.Omega.{arith}
use native.Mathlib.Decide.{dec_le}
use borrow.Author.Tests.{eqb-false}
use lib.Dec.{eqb}
use lib.ListN.{length}
use Rattle.octets.specs.Pick.{pick}
use Rattle.sequence.specs.Sequence.{length_of}
use Rattle.sequence.specs.declared.Sequence.{Sequence}
use Rattle.playback.specs.declared.Playback.{Playback}
use Rattle.playback.specs.State.{answer_none, blank_playback}
use Rattle.master.specs.declared.Master.{Master}
use Rattle.master.specs.Call.{Call, outcome_of}
use Rattle.master.specs.States as states
use Rattle.master.specs.Messages.{reply_in}
use Rattle.replay.specs.Run.{State, going, done, aborted, Going, ticks_of, sent_at, HasAnswer, DueAt, Latest}
use Rattle.replay.specs.Run as replay
use Rattle.replay.proofs.Follows.{Good, Sound}
use Rattle.replay.proofs.Theorems as theorems
use Rattle.replay.proofs.Tans.{raised_tans}
use Rattle.replay.proofs.Why as why
use Rattle.events.specs.Events.{Event, tick, answer, apply, run_from}
use Rattle.events.proofs.Calls.{same_master}
use Rattle.events.proofs.Choices.{either}
use Rattle.plays.specs.Plays.{Started, Playing, Lasts, ticks_in, tan_of, LeftAt, HasLeft}
use Rattle.plays.proofs.Calls.{seen, Shows, goes, is_done, is_aborted}
use Rattle.plays.proofs.Runs.{seen_all, fair, same_ticks, lasting, Begins, begins, run_is}
use Rattle.plays.proofs.Commands.{raised_is, tan_few, tan_is}

pub starts : (m : Master) → Started m → Playing m × (m.playback ≡ blank_playback)
starts m s = let b = begins m s in (b.plays, b.blank)

pub fixed : (m : Master) → Started m → (es : List Event) → Lasts m es → (run_from m es).sequence ≡ m.sequence
fixed m s es l = (lasting es m l).1

-- ---- leaving

keeps_on : (m : Master) → Begins m → (es : List Event) → Lasts m es → Going (replay.play_run m.sequence m.tan (seen_all m es))
keeps_on m b es l = subst Going (sym (run_is m b es l)) tt

pub leaves_exactly : (m : Master) → Started m → (es : List Event) → Lasts m es
    → (i t : ℕ) → LeftAt (run_from m es) i t ↔ (Latest m.sequence (ticks_in m es) i t × (t ≤ length (ticks_in m es)))
leaves_exactly m s es l i t =
    let b = begins m s in
    subst (λ (mms : List ℕ). LeftAt (run_from m es) i t ↔ (Latest m.sequence mms i t × (t ≤ length mms))) (same_ticks m es)
    (subst (λ (x : State). replay.HasLeftAt x i t ↔ (Latest m.sequence (ticks_of (seen_all m es)) i t × (t ≤ length (ticks_of (seen_all m es)))))
    (run_is m b es l)
    (theorems.leaves_exactly m.sequence b.whole m.tan (seen_all m es) (fair m es) (keeps_on m b es l) i t))

pub not_yet_due : (m : Master) → Started m → (es : List Event) → Lasts m es → (i j : ℕ) → j ≤ i
    → ((d : ℕ) → ¬ DueAt m.sequence (ticks_in m es) j d) → (t : ℕ) → ¬ LeftAt (run_from m es) i t
not_yet_due m s es l i j h none t k = let p = ((leaves_exactly m s es l i t).0 k).0.none_later j h in none p.0 p.1

pub calls_do_not_move : (m n : Master) → Started m → Started n → m.sequence ≡ n.sequence → (es fs : List Event) → Lasts m es → Lasts n fs
    → ticks_in m es ≡ ticks_in n fs → (i t : ℕ) → LeftAt (run_from m es) i t → LeftAt (run_from n fs) i t
calls_do_not_move m n s r q es fs l k e i t h =
    (leaves_exactly n r fs k i t).1
    (subst (λ (x : Sequence). Latest x (ticks_in n fs) i t × (t ≤ length (ticks_in n fs))) q
    (subst (λ (mms : List ℕ). Latest m.sequence mms i t × (t ≤ length mms)) e ((leaves_exactly m s es l i t).0 h)))

-- the TANs, as crate `replay` has them
pub own_tan : (m : Master) → Started m → (es : List Event) → Lasts m es → (i : ℕ) → i < (run_from m es).playback.sent → (sent_at (run_from m es).playback i).tan ≡ tan_of m i
own_tan m s es l i h =
    let b = begins m s in
    (raised_tans m.tan m.sequence b.whole (seen_all m es) (fair m es) (run_from m es).playback (run_from m es).tan (run_is m b es l)).each i h ∙ tan_is m s i

pub tans : (m : Master) → Started m → (es : List Event) → Lasts m es
    → ((run_from m es).tan ≡ (m.tan + (run_from m es).playback.sent) % 256)
    × ((i : ℕ) → i < (run_from m es).playback.sent → (sent_at (run_from m es).playback i).tan ≡ tan_of m i)
tans m s es l =
    let b = begins m s in
    let r = raised_tans m.tan m.sequence b.whole (seen_all m es) (fair m es) (run_from m es).playback (run_from m es).tan (run_is m b es l) in
    (r.last ∙ raised_is m.tan (run_from m es).playback.sent (tan_few m s), own_tan m s es l)

pub ends_in_time : (m : Master) → Started m → (es : List Event) → 36000 ≤ length (ticks_in m es) → ¬ Lasts m es
ends_in_time m s es h l =
    let b = begins m s in
    why.ends_in_time m.sequence b.whole m.tan (seen_all m es) (fair m es) (omega (arith, ap length (same_ticks m es))) (keeps_on m b es l)

-- ---- what is seen, and what the master has

-- a playback counts its ticks
pub ticks_are : (m : Master) → Started m → (es : List Event) → Lasts m es → (run_from m es).playback.ticks ≡ length (ticks_in m es)
ticks_are m s es l =
    let b = begins m s in
    theorems.ticks_are m.sequence b.whole m.tan (seen_all m es) (fair m es) (run_from m es).playback (run_from m es).tan (run_is m b es l)
    ∙ ap length (same_ticks m es)

-- no step that waits left 16 ticks ago
module _ (m : Master) (s : Started m) (es : List Event) (l : Lasts m es) where
  abbrev play_runs : List replay.PlaybackEvent → State
  play_runs xs = replay.play_run m.sequence m.tan xs

  answered_now : (i : ℕ) → (sent_at (run_from m es).playback i).answer ≡ answer_none
      → replay.AnsweredAt (play_runs (seen_all m es ++ [])) i ⊎ (play_runs (seen_all m es ++ []) ≡ aborted) → ⊥
  answered_now i w x =
      said
      (subst (λ (r : State). replay.AnsweredAt r i ⊎ (r ≡ aborted)) (ap play_runs (append-nil (seen_all m es)) ∙ run_is m (begins m s) es l) x)
    where
      said : HasAnswer (run_from m es).playback i ⊎ (going (run_from m es).playback (run_from m es).tan ≡ aborted) → ⊥
      said (inl y) = y.1 w
      said (inr y) = subst Going y tt

  pub not_long_ago : (i t : ℕ) → i < (run_from m es).playback.sent → (sent_at (run_from m es).playback i).answer ≡ answer_none
      → (sent_at (run_from m es).playback i).left ≡ t → length (ticks_in m es) < t + 16
  not_long_ago i t h w q = go (dec_le (t + 16) (length (ticks_in m es)))
    where
      go : Dec (t + 16 ≤ length (ticks_in m es)) → length (ticks_in m es) < t + 16
      go (no k) = omega arith
      go (yes k) =
          absurd
          (answered_now i w
          (theorems.sixteen m.sequence (begins m s).whole m.tan (seen_all m es) [] (subst replay.Fair (sym (append-nil (seen_all m es))) (fair m es)) i t
          (subst (λ (r : State). replay.HasLeftAt r i t) (sym (run_is m (begins m s) es l)) (h, q))
          (omega (arith, k, ap (λ (x : List replay.PlaybackEvent). length (ticks_of x)) (append-nil (seen_all m es)), ap length (same_ticks m es)))))

pub good : (m : Master) → Started m → (es : List Event) → Lasts m es → Good (run_from m es).playback
good m s es l =
    let b = begins m s in
    subst Sound (run_is m b es l) (theorems.sound m.sequence b.whole m.tan (seen_all m es) (fair m es))

-- ---- one new step a tick

due_once : (q : Sequence) (mms : List ℕ) (j a b : ℕ) → DueAt q mms j a → DueAt q mms j b → a ≡ b
due_once q mms j a b x y = go (dec_le (suc a) b) (dec_le (suc b) a)
  where
    go : Dec (a < b) → Dec (b < a) → a ≡ b
    go (yes h) d = absurd (y.first a x.numbered h x.reaching)
    go (no h) (yes k) = absurd (x.first b y.numbered k y.reaching)
    go (no h) (no k) = omega arith

-- a later step leaves at a later tick
pub leaves_later : (q : Sequence) (mms : List ℕ) (i j t u : ℕ) → Latest q mms i t → Latest q mms j u → i < j → t < u
leaves_later q mms i j t u x y h =
    let o = x.one_of_them in
    let n = y.none_later o.0 (omega (arith, o.1, h)) in
    omega (arith, o.1, h, o.2.2, n.2, due_once q mms o.0 o.2.0 n.0 o.2.1 n.1)

-- ---- steps that have left

pub left_seen : (m : Master) → Started m → (es : List Event) → Lasts m es → (i : ℕ) → i < (run_from m es).playback.sent → HasLeft m es i
left_seen m s es l i h = let t = (sent_at (run_from m es).playback i).left in (t, (leaves_exactly m s es l i t).0 (h, refl))

pub seen_left : (m : Master) → Started m → (es : List Event) → Lasts m es → (i : ℕ) → HasLeft m es i → i < (run_from m es).playback.sent
seen_left m s es l i h = ((leaves_exactly m s es l i h.0).1 h.1).0

-- a step that has left is one of the sequence
pub is_step : (m : Master) (es : List Event) (i : ℕ) → HasLeft m es i → i < length_of m.sequence
is_step m es i h = let p = h.1.0.none_later i (omega arith) in p.1.reaching.there

-- ---- a call that ends a playback

pub goes_shown : (q : Sequence) (n : Master) (s : State) → Shows q n s → Going s → Playing n
goes_shown q n s (goes p x a b c d) g = a
goes_shown q n s (is_done p a) g = absurd g
goes_shown q n s (is_aborted a) g = absurd g

pub shows_aborted : (q : Sequence) (n : Master) → Shows q n aborted → n.state ≡ states.abort
shows_aborted q n (is_aborted a) = a

pub shows_done : (q : Sequence) (n : Master) (p : Playback) → Shows q n (done p) → n.state ≡ states.ready
shows_done q n p (is_done _ a) = a

pub shows_going : (q : Sequence) (n : Master) (p : Playback) (x : ℕ) → Shows q n (going p x) → Playing n
shows_going q n p x w = goes_shown q n (going p x) w tt

-- it was not refused
pub not_refused : (m : Master) (c : Call) → Playing m → ¬ Playing (outcome_of m c).master → eqb (outcome_of m c).number 0 ≡ true
not_refused m c h np =
    either (eqb (outcome_of m c).number 0) (λ t. t) (λ f. absurd (np (subst Playing (sym (same_master m c (eqb-false (outcome_of m c).number 0 f))) h)))

-- an accepted tick is a tick, an accepted answer an answer
pub seen_tick : (m : Master) (mm : ℕ) (out : List ℕ) → eqb (apply m (tick mm out)).number 0 ≡ true → seen m (tick mm out) ≡ replay.tick mm
unfolding pick
seen_tick m mm out e = rw e

pub seen_answer : (m : Master) (slot : ℕ) (msg out : List ℕ) → eqb (apply m (answer slot msg out)).number 0 ≡ true
    → seen m (answer slot msg out) ≡ replay.answer slot (reply_in msg)
unfolding pick
seen_answer m slot msg out e = rw e
