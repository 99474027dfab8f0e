-- A step that leaves has a cell, and a cell is there for every step.
use mathlib.Core.Path.{◌≡◌, refl, sym, ap, ◌∙◌}
use mathlib.Core.Bool.{Bool, true, false, ◌&&◌, true≢false}
use mathlib.Core.List.{List}
use Prim.Native.Nat.{ℕ, ◌≤◌, ◌<◌}
use native.Mathlib.Omega.{arith}
use lib.Dec.{leb, ltb}
use lib.ListN.{length, get_or}
use lib.Seq.{get_or-take}
use borrow.Author.Tests.{leb-true, leb-false, lt-ltb, le-ltb}
use Rattle.octets.specs.Pick.{pick}
use Rattle.sequence.specs.Sequence.{blank_step, length_of, steps_of}
use Rattle.sequence.specs.declared.Step.{Step}
use Rattle.sequence.specs.declared.Sequence.{Sequence}
use Rattle.playback.specs.declared.Playback.{Playback}
use Rattle.playback.specs.Tick.{is_due, does_leave}

pub leaves_within : (p : Playback) (steps : List Step) (count : ℕ) → does_leave p steps count ≡ true → p.sent < 64
unfolding pick does_leave
leaves_within p steps count e = go (leb 64 p.sent) _ refl e
  where
    go : (b r : Bool) → leb 64 p.sent ≡ b → pick b false r ≡ true → p.sent < 64
    go true r q f = absurd (true≢false (sym f))
    go false r q f = leb-false 64 p.sent q

pub leaves_step : (p : Playback) (q : Sequence)
    → does_leave p q.steps (length_of q) ≡ (ltb p.sent (length_of q) && is_due (get_or q.steps p.sent blank_step) p.ticks p.distance)
unfolding pick does_leave
leaves_step p q = go (leb 64 p.sent) refl
  where
    due : Bool
    due = is_due (get_or q.steps p.sent blank_step) p.ticks p.distance

    go : (b : Bool) → leb 64 p.sent ≡ b → pick b false (ltb p.sent (length_of q) && due) ≡ (ltb p.sent (length_of q) && due)
    go true e = let h = leb-true 64 p.sent e in rw (le-ltb p.sent (length_of q) (omega arith))
    go false e = refl

-- the same, looked for among the steps that are used
module _ (p : Playback) (q : Sequence) (n : length (steps_of q) ≡ length_of q) (l : List Step) (e : l ≡ steps_of q) where
  long : length l ≡ length_of q
  long = ap length e ∙ n

  pub leaves_next : (s : Step) → p.sent < length l → s ≡ get_or l p.sent blank_step → is_due s p.ticks p.distance ≡ does_leave p q.steps (length_of q)
  unfolding steps_of
  leaves_next s h f =
      let b = long in
      let t : s ≡ get_or q.steps p.sent blank_step = f ∙ ap (λ (m : List Step). get_or m p.sent blank_step) e ∙ get_or-take q.count q.steps p.sent blank_step (omega arith) in
      sym (leaves_step p q ∙ rw (lt-ltb p.sent (length_of q) (omega arith), ← t))

  pub none_leaves : length l ≤ p.sent → false ≡ does_leave p q.steps (length_of q)
  none_leaves h = let b = long in sym (leaves_step p q ∙ rw (le-ltb p.sent (length_of q) (omega arith)))
