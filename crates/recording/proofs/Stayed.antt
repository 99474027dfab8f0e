-- A loop that copies the steps that stay: what it has copied when it has looked at i steps.
use Prim.Native.Nat.{ℕ, ◌+◌, ◌≤◌, ◌<◌}
use mathlib.Core.Path.{◌≡◌, sym, ap, ◌∙◌}
use mathlib.Core.Bool.{true, false, cond}
use mathlib.Core.List.{List, [], ◌∷◌, ◌++◌, map, append-nil, map-append}
use native.Mathlib.Numerals.{add-one}
use native.Mathlib.Omega.{arith}
use lib.ListN.{take, length, get_or, set, length-take, length-append, length-map}
use lib.Seq.{take-suc}
use Rattle.arrays.specs.Arrays.{those, pad_to}
use Rattle.arrays.proofs.Fill.{those_append, those_short, pad_set}
use Rattle.sequence.specs.Sequence.{blank_step}
use Rattle.recording.specs.Kept.{stays, stayed, step_in}
use Rattle.recording.specs.declared.Taken.{Taken}

pub stayed_short : (l : List Taken) → length (stayed l) ≤ length l
stayed_short l = omega (arith, length-map (those stays l) step_in, those_short stays l)

pub stayed_fits : (l : List Taken) (n : ℕ) → length l ≡ 64 → length (stayed (take n l)) ≤ 64
stayed_fits l n e = omega (arith, stayed_short (take n l), length-take n l)

module _ (l : List Taken) (i : ℕ) (d : Taken) (h : i < length l) where
  grown : stayed (take (i + 1) l) ≡ stayed (take i l) ++ map step_in (cond (stays (get_or l i d)) (get_or l i d ∷ []) [])
  grown = rw (add-one, take-suc l i d h, those_append stays (take i l) (get_or l i d ∷ [])) (map-append step_in (those stays (take i l)) (those stays (get_or l i d ∷ [])))

  pub skips : stays (get_or l i d) ≡ false → stayed (take (i + 1) l) ≡ stayed (take i l)
  skips e = grown ∙ rw e (append-nil _)

  pub copies : stays (get_or l i d) ≡ true → stayed (take (i + 1) l) ≡ stayed (take i l) ++ (get_or l i d).step ∷ []
  copies e = grown ∙ rw e

  pub counts : stays (get_or l i d) ≡ true → length (stayed (take i l)) + 1 ≡ length (stayed (take (i + 1) l))
  counts e = sym (ap length (copies e) ∙ length-append (stayed (take i l)) ((get_or l i d).step ∷ []))

  pub stores :
      (n : ℕ) → n ≡ length (stayed (take i l)) → i < 64 → stays (get_or l i d) ≡ true
      → set (pad_to blank_step 64 (stayed (take i l))) n (get_or l i d).step ≡ pad_to blank_step 64 (stayed (take (i + 1) l))
  stores n c r e =
      pad_set blank_step 64 (stayed (take i l)) n (get_or l i d).step c (omega (arith, stayed_short (take i l), length-take i l))
      ∙ ap (pad_to blank_step 64) (sym (copies e))
