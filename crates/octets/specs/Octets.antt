-- Numbers in lists of bytes. 01, "The pool": "Numbers are least significant byte first (ISO 11783-3 and -6)."
-- One definition each way, over the width in bytes.
use Rattle.std.specs.Prelude.{ℕ, zero, suc, ◌+◌, ◌*◌, ◌/◌, ◌%◌, List, [], ◌∷◌, get_or}

-- the number of w bytes that starts at place i of s; a byte past the end counts as 0
unfoldable pub number_at : ℕ → List ℕ → ℕ → ℕ
number_at zero s i = 0
number_at (suc w) s i = get_or s i 0 + 256 * number_at w s (i + 1)

-- the w bytes of the number v; what does not fit into them is left out
unfoldable pub bytes_of : ℕ → ℕ → List ℕ
bytes_of zero v = []
bytes_of (suc w) v = v % 256 ∷ bytes_of w (v / 256)
