-- A label of a pool. 01, "The pool": "A.3 lets labels reach 64, D.9 and the six-bit length of D.3 stop at 63: 63 decides."
use Rattle.std.specs.Prelude.{ℕ, zero, suc, ◌+◌, ◌-◌, min, List, [], ◌∷◌, ◌++◌, get_or, replicate}
use Rattle.octets.specs.declared.label.Label.{Label}

-- the label of no bytes
abbrev pub blank : Label
blank = record { length = 0; bytes = replicate 63 0 }

-- n numbers: f 0, f 1, ..
abbrev pub row_of : ℕ → (ℕ → ℕ) → List ℕ
row_of zero f = []
row_of (suc n) f = row_of n f ++ f n ∷ []

-- the n bytes that start at place i of s; a byte past the end counts as 0
abbrev pub bytes_at : List ℕ → ℕ → ℕ → List ℕ
bytes_at s i n = row_of n (λ k. get_or s (i + k) 0)

-- the label of n bytes that starts at place i of s, or the first 63 of them; the cells past them are 0
unfoldable pub label_at : List ℕ → ℕ → ℕ → Label
label_at s i n = record { length = min n 63; bytes = bytes_at s i (min n 63) ++ replicate (63 - min n 63) 0 }
