-- An object that is taken apart at its place of a pool and written at the same place of a buffer: the fields of its fixed part, and what follows them.
use Prim.Native.Nat.{ℕ, ◌+◌, ◌-◌, ◌≤◌}
use native.Mathlib.Omega.{arith}
use mathlib.Core.Path.{◌≡◌, sym, ap, ◌∙◌}
use mathlib.Core.List.{List}
use mathlib.Core.Bool.{true, false}
use lib.ListN.{length, take, drop, length-drop}
use lib.Seq.{sets, drop-drop, take-add, length-take-le}
use borrow.Author.Tests.{le-ltb}
use Rattle.octets.specs.Pick.{pick}
use Rattle.octets.proofs.Laws.{Bytes, then_sets}
use Rattle.pool.specs.declared.Head.{Head}
use Rattle.pool.specs.Fields.{head_at, size_at}
use Rattle.std.specs.Prelude.{Ok}
use Rattle.objects.specs.Objects.{Kind, parts_of, size_of, whole_at, is_at, next_at, found_at, head_fields, bytes_of_fields, no_room, write_out}
use Rattle.objects.specs.declared.parts.Parts.{Parts}
use Rattle.objects.proofs.Stores.{total}
use Rattle.objects.proofs.Limits.{total_head}
use Rattle.objects.proofs.Passed.{IsAt, Passed, is_at_lem, at_is, passed}
use Rattle.objects.proofs.Fields.{fields_written, head_reads}
use Rattle.objects.proofs.Trips.{size_is, whole_written, whole_legal, decoded}

-- what is taken of the object at a place: how many bytes its fixed part has, and how many it has itself
pub record Taken (s : List ℕ) (at fixed size : ℕ) : Type 0 where
  pub is : IsAt s at
  pub part : fixed ≡ (parts_of (Ok (head_at s at))).fixed
  pub whole : size ≡ size_of (Ok (head_at s at))
  pub first : fixed ≤ size
  pub room : at + size ≤ length s

pub taken : (s : List ℕ) (at : ℕ) (h : Head) (q : Parts) (size : ℕ) → is_at s at ≡ true → h ≡ head_at s at → q ≡ parts_of (Ok h) → size ≡ size_of (Ok h) → Taken s at q.fixed size
taken s at h q size e eh eq ez =
    let i = is_at_lem s at e in
    let p = passed s at i.right in
    let z : size ≡ size_of (Ok (head_at s at)) = ez ∙ ap (λ (g : Head). size_of (Ok g)) eh in
    let f : q.fixed ≡ (parts_of (Ok (head_at s at))).fixed = ap (λ (r : Parts). r.fixed) eq ∙ ap (λ (g : Head). (parts_of (Ok g)).fixed) eh in
    record { is = i; part = f; whole = z; first = omega arith; room = omega (arith, size_is s at p.kind, p.room) }

module _ (s : List ℕ) (at : ℕ) (i : IsAt s at) where
  here : Passed s at
  here = passed s at i.right

  pub next_is : (found_at s at).next ≡ at + size_at s at
  unfolding next_at pick
  next_is = rw (at_is s at i)

  -- the bytes that it has there are stored
  module _ (B : Bytes s) (out : List ℕ) (room : length s ≤ length out) where
    kept : no_room (whole_at s at) out at ≡ false
    unfolding whole_at
    kept = le-ltb (length out) (at + size_of (whole_at s at).kind) (omega (arith, size_is s at here.kind, here.room))

    pub out_is : write_out (found_at s at).object out at ≡ sets out at (take (size_at s at) (drop at s))
    unfolding write_out pick
    out_is = rw (decoded s at i, kept, (whole_legal s at B here).right) (ap (sets out at) (whole_written s at B here))

-- and so they are where the fields of its fixed part are stored, and then the bytes that follow them
module _ (s : List ℕ) (at fixed size : ℕ) (t : Taken s at fixed size) where
  pub next_taken : at + size ≡ (found_at s at).next
  next_taken = rw (t.whole, ← size_is s at (here s at t.is).kind) (sym (next_is s at t.is))

  pub out_taken : Bytes s → (out : List ℕ) → length s ≤ length out → sets (sets out at (bytes_of_fields (head_fields (Ok (head_at s at))))) (at + fixed) (take (at + size - (at + fixed)) (drop (at + fixed) s)) ≡ write_out (found_at s at).object out at
  out_taken B out room =
      let k : Kind = Ok (head_at s at) in
      let p = here s at t.is in
      let n : ℕ = at + size - (at + fixed) in
      let all : fixed + n ≡ size_at s at = omega (arith, size_is s at p.kind) in
      let fields : total (head_fields k) ≡ fixed = total_head k ∙ sym t.part in
      let head : bytes_of_fields (head_fields k) ≡ take fixed (drop at s) =
      fields_written s (head_fields k) at B (head_reads s at p.kind) (omega (arith, p.room)) ∙ ap (λ (m : ℕ). take m (drop at s)) fields in
      let long : length (take fixed (drop at s)) ≡ fixed = length-take-le fixed (drop at s) (omega (arith, p.room, length-drop at s)) in
      rw (head, ← drop-drop fixed at s)
      (sym (then_sets out at fixed (take fixed (drop at s)) (take n (drop fixed (drop at s))) long)
      ∙ ap (sets out at) (sym (take-add fixed n (drop at s)) ∙ ap (λ (m : ℕ). take m (drop at s)) all)
      ∙ sym (out_is s at t.is B out room))
