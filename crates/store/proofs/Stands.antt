-- What stands at a place of the bytes, and what is read there: parts of it, a byte, a number, zeros.
use Prim.Native.Nat.{ℕ, ◌+◌, ◌-◌, ◌^◌, ◌≤◌, ◌<◌}
use native.Mathlib.Omega.{arith}
use mathlib.Core.Path.{◌≡◌, sym, ap, ◌∙◌}
use mathlib.Core.Bool.{true}
use mathlib.Core.List.{List, [], ◌++◌, append_assoc, append-nil}
use lib.Dec.{eqb}
use lib.ListN.{length, drop, get_or, replicate, length-replicate, get_or-replicate, get_or-append}
use lib.Seq.{get_or-drop}
use borrow.Author.Tests.{eq-eqb}
use Rattle.octets.specs.Octets.{number_at, bytes_of}
use Rattle.octets.proofs.Laws.{past, number_of_bytes}
use Rattle.store.specs.Loaded.{byte_at, is_blank}
use Rattle.store.proofs.Below.{range_below, every_below_lem}

-- the list l stands at place p of s
pub record At (s : List ℕ) (p : ℕ) (l : List ℕ) : Type 0 where
  pub rest : List ℕ
  pub stands : drop p s ≡ l ++ rest

pub at_start : (s l : List ℕ) → s ≡ l → At s 0 l
at_start s l e = record { rest = []; stands = e ∙ sym (append-nil l) }

module _ {s : List ℕ} {p : ℕ} where
  pub at_left : (a b : List ℕ) → At s p (a ++ b) → At s p a
  at_left a b h = record { rest = b ++ h.rest; stands = h.stands ∙ append_assoc a b h.rest }

  pub at_right : (a b : List ℕ) (n : ℕ) → length a ≡ n → At s p (a ++ b) → At s (p + n) b
  at_right a b n e h = record { rest = h.rest; stands = past s p n a (b ++ h.rest) e (h.stands ∙ append_assoc a b h.rest) }

  -- the last two of three
  pub at_last : (a b c : List ℕ) (n : ℕ) → length a ≡ n → At s p (a ++ b ++ c) → At s (p + n) (b ++ c)
  at_last a b c n e h = at_right a (b ++ c) n e (rw (append_assoc a b c) at h)

  -- a byte of it
  pub at_byte : {l : List ℕ} (k : ℕ) → At s p l → k < length l → get_or s (p + k) 0 ≡ get_or l k 0
  at_byte {l} k h b = sym (get_or-drop p s k 0) ∙ ap (λ (m : List ℕ). get_or m k 0) h.stands ∙ get_or-append l h.rest 0 k b

  -- a number
  pub at_number : (w v : ℕ) → At s p (bytes_of w v) → v < 256 ^ w → number_at w s p ≡ v
  at_number w v h b = number_of_bytes w v s p h.rest h.stands b

  -- fill
  pub at_blank : (m j : ℕ) → At s p (replicate m 0) → j - p ≤ m → is_blank s p j ≡ true
  at_blank m j h e =
      range_below (λ at. eqb (byte_at s at) 0) p (j - p)
      ∙ every_below_lem (λ k. eqb (byte_at s (p + k)) 0) (j - p) (λ k b.
      eq-eqb (get_or s (p + k) 0) 0 (at_byte k h (omega (arith, length-replicate {A = ℕ} m 0)) ∙ get_or-replicate m k 0 0 (omega arith)))
