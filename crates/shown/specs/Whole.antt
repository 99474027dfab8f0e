-- The exact product as whole numbers: a sum and the 32 bits of a scale. An f32 that is finite and above zero has eight bits of exponent and 23 of digits, and is
-- digits · 2 ^ power / 2 ^ 149. Definitions only.
use Rattle.std.specs.Prelude.{ℕ, ◌+◌, ◌-◌, ◌*◌, ◌/◌, ◌%◌, Bool, cond, ◌&&◌, ◌||◌, ℤ, nat_abs, eqb, ltb}
use Rattle.shown.specs.Value.{sum_of, negative}
use Rattle.shown.specs.declared.Fraction.{Fraction}

-- the exponent's field is 0 where there is no leading one
abbrev pub digits_of : ℕ → ℕ
digits_of bits = cond (eqb (bits / 0x80_0000) 0) (bits % 0x80_0000) (0x80_0000 + bits % 0x80_0000)

-- a field of 0 counts as 1
abbrev pub power_of : ℕ → ℕ
power_of bits = bits / 0x80_0000 - 1

-- sum · scale is size · 2 ^ power / 2 ^ 149, and below zero where the sum is
unfoldable pub fraction_of : ℕ → ℤ → ℕ → Fraction
fraction_of value offset bits =
    record { below = negative (sum_of value offset); size = nat_abs (sum_of value offset) * digits_of bits; power = power_of bits }

-- An f64 has 53 digits. A size below 2 ^ 57 has up to four more, and those have to be zeros. It is how the code tells that the f64 is exact; what is
-- promised of it is `is_product`.
abbrev pub is_held : ℕ → Bool
is_held size =
    ltb size 0x20_0000_0000_0000
    || (eqb (size % 2) 0 && ltb (size / 2) 0x20_0000_0000_0000)
    || (eqb (size % 4) 0 && ltb (size / 4) 0x20_0000_0000_0000)
    || (eqb (size % 8) 0 && ltb (size / 8) 0x20_0000_0000_0000)
    || eqb (size % 16) 0
