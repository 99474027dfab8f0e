-- The loop that writes the frames of a tick into a buffer of zeros.
use mathlib.Core.Path.{◌≡◌, refl, sym, ap, ◌∙◌}
use mathlib.Core.Bool.{Bool, true, false, cond}
use mathlib.Core.List.{List, [], ◌∷◌, ◌++◌, append-nil, append_assoc}
use Prim.Native.Nat.{ℕ, suc, ◌+◌, ◌*◌, ◌≤◌}
use native.Mathlib.Nat.{zero-add}
use native.Mathlib.Omega.{arith}
use lib.ListN.{take, drop, length, replicate, length-append}
use lib.Seq.{sets}
use Rattle.std.proofs.lemmas.List.Edits.{sets-eq}
use Rattle.arrays.specs.Arrays.{pad_to}
use Rattle.arrays.proofs.Fill.{pad_none, length_pad, pad_set}
use Rattle.sequence.specs.declared.Step.{Step}
use Rattle.playback.specs.declared.Sent.{Sent}
use Rattle.playback.specs.Frames.{frame_of, is_written, framed, frame_count, filled_of}

-- stores from the first zero on
pad_sets : (n : ℕ) (vs l : List ℕ) (k : ℕ) → k ≡ length l → k + length vs ≤ n → sets (pad_to 0 n l) k vs ≡ pad_to 0 n (l ++ vs)
pad_sets n [] l k e h = ap (pad_to 0 n) (sym (append-nil l))
pad_sets n (v ∷ vs) l k e h =
    ap (λ (r : List ℕ). sets r (suc k) vs) (pad_set 0 n l k v e (omega arith))
    ∙ pad_sets n vs (l ++ (v ∷ [])) (suc k) (omega (arith, length-append l (v ∷ []))) (omega arith)
    ∙ ap (pad_to 0 n) (append_assoc l (v ∷ []) vs)

-- what a loop over steps and what was sent for them has written: the frames of those before the rest
pub record Filling (test : Sent → Bool) (steps : List Step) (left : List Sent) (ss : List Step) (cs : List Sent) (out : List ℕ) (count : ℕ) : Type 0 where
  pub done : List ℕ
  pub bytes : out ≡ pad_to 0 576 done
  pub nine : length done ≡ count * 9
  pub frames : framed test left steps ≡ done ++ framed test cs ss
  pub counted : frame_count test left ≡ count + frame_count test cs
  pub few : count + length cs ≤ 64
  pub cells : length cs ≤ length ss

module _ (test : Sent → Bool) where
  pub starts : (steps : List Step) (left : List Sent) (out : List ℕ) → out ≡ replicate 576 0 → length left ≤ 64 → length left ≤ length steps → Filling test steps left steps left out 0
  starts steps left out e h k = record { done = []; bytes = e ∙ pad_none 0 576; nine = refl; frames = refl; counted = omega arith; few = omega arith; cells = k }

  module _ (steps : List Step) (left : List Sent) (s : Step) (ss : List Step) (c : Sent) (cs : List Sent) (out : List ℕ) (count : ℕ) (f : Filling test steps left (s ∷ ss) (c ∷ cs) out count) where
    pub skips : test c ≡ false → Filling test steps left ss cs out count
    skips e = record { done = f.done; bytes = f.bytes; nine = f.nine; frames = rw e at f.frames; counted = rw e at f.counted; few = let k = f.few in omega arith; cells = let k = f.cells in omega arith }

    pub room : count * 9 + 9 ≤ 576
    room = let k = f.few in omega arith

    pub stores : test c ≡ true → Filling test steps left ss cs (sets out (count * 9) (frame_of s c.tan)) (count + 1)
    stores e =
        let k = f.few in
        let n = f.nine in
        record {
          done = f.done ++ frame_of s c.tan;
          bytes = rw f.bytes (pad_sets 576 (frame_of s c.tan) f.done (count * 9) (sym n) room);
          nine = omega (arith, length-append f.done (frame_of s c.tan));
          frames = rw e at f.frames ∙ sym (append_assoc f.done (frame_of s c.tan) (framed test cs ss));
          counted = let m = rw e at f.counted in omega arith;
          few = omega arith;
          cells = let m = f.cells in omega arith;
        }

  module _ (steps : List Step) (left : List Sent) (ss : List Step) (out : List ℕ) (count : ℕ) (f : Filling test steps left ss [] out count) where
    pub fills : out ≡ pad_to 0 576 (framed test left steps)
    fills = f.bytes ∙ ap (pad_to 0 576) (sym (f.frames ∙ append-nil f.done))

    pub counts : count ≡ frame_count test left
    counts = let k = f.counted in omega arith

  -- nine bytes a frame
  pub nine : (cs : List Sent) (ss : List Step) → length cs ≤ length ss → length (framed test cs ss) ≡ frame_count test cs * 9
  nine [] ss h = refl
  nine (y ∷ cs) [] h = absurd (omega arith)
  nine (y ∷ cs) (x ∷ ss) h = go (test y) (nine cs ss (omega arith))
    where
      go : (b : Bool) → length (framed test cs ss) ≡ frame_count test cs * 9 → length (cond b (frame_of x y.tan ++ framed test cs ss) (framed test cs ss)) ≡ cond b (suc (frame_count test cs)) (frame_count test cs) * 9
      go true e = omega (arith, length-append (frame_of x y.tan) (framed test cs ss))
      go false e = e

pub length_filled : (ticks n : ℕ) (ss : List Step) (cs : List Sent) → length (filled_of ticks n ss cs) ≡ 576
unfolding filled_of
length_filled ticks n ss cs = length_pad 0 576 (framed (is_written ticks) (take n cs) ss)

pub none : (ticks : ℕ) (ss : List Step) (cs : List Sent) → replicate 576 0 ≡ filled_of ticks 0 ss cs
unfolding filled_of
none ticks ss cs = pad_none 0 576

-- what a copy of the whole buffer leaves
pub copied : (b f out : List ℕ) (n : ℕ) → b ≡ f → length f ≡ n → n ≤ length out → sets out 0 b ≡ f ++ drop n out
copied b f out n e q h = rw (e, ← q) (sets-eq f out 0 (omega arith) ∙ rw (zero-add (length f)))
