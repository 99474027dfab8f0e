-- A turn of the loop that rewrites a pool: what is to be stored from the start is what is to be stored from here.
use Prim.Native.Nat.{ℕ, ◌≤◌, ◌<◌}
use native.Mathlib.Nat.{zero-add}
use native.Mathlib.Omega.{arith}
use mathlib.Core.Path.{◌≡◌, refl, sym, ap, ◌∙◌}
use mathlib.Core.List.{List, ◌++◌}
use lib.ListN.{length, take, drop, length-drop, take-append-drop, drop_of_length-le}
use lib.Seq.{sets, sets-eq, length-sets, drop-drop, length-take-le}
use Rattle.octets.proofs.Laws.{Bytes, sets_append}
use Rattle.pool.specs.Fields.{size_at}
use Rattle.objects.specs.Objects.{found_at, write_out}
use Rattle.objects.proofs.Passed.{IsAt, Fine, passed, fine_here, fine_next}
use Rattle.objects.proofs.Again.{next_is, out_is}

-- up to a place out holds the pool's bytes, and no object from there on has a fault
pub record Turn (s old out : List ℕ) (at : ℕ) : Type 0 where
  pub stored : sets old 0 s ≡ sets out at (drop at s)
  pub long : length out ≡ length old
  pub fine : Fine s at

module _ (s old out : List ℕ) (at : ℕ) (B : Bytes s) (room : length s ≤ length old) (t : Turn s old out at) (h : at < length s) where
  here : IsAt s at
  here = fine_here s at h t.fine

  pub turned : (last : List ℕ) → last ≡ write_out (found_at s at).object out at → Turn s old last (found_at s at).next
  turned last e =
      let p = passed s at here.right in
      let z : ℕ = size_at s at in
      let long : length (take z (drop at s)) ≡ z = length-take-le z (drop at s) (omega (arith, length-drop at s, p.room)) in
      let same : last ≡ sets out at (take z (drop at s)) = e ∙ out_is s at here B out (omega (arith, t.long)) in
      rw (next_is s at here) (record {
        stored = t.stored ∙ ap (sets out at) (sym (take-append-drop z (drop at s))) ∙ sets_append out at (take z (drop at s)) (drop z (drop at s)) ∙ rw (long, drop-drop z at s, ← same);
        long = ap length same ∙ length-sets out at (take z (drop at s)) ∙ t.long;
        fine = fine_next s at h t.fine;
      })

pub start : (s old : List ℕ) → Fine s 0 → Turn s old old 0
start s old f = record { stored = refl; long = refl; fine = f }

pub ended : (s old out : List ℕ) (at : ℕ) → length s ≤ length old → length s ≤ at → Turn s old out at → out ≡ s ++ drop (length s) old
ended s old out at room h t =
    sym (t.stored ∙ ap (sets out at) (drop_of_length-le s h)) ∙ sets-eq s old 0 (omega arith) ∙ rw (zero-add (length s))
