-- Worked examples: the scale by its bits. 0.1 is 3DCCCCCD, which is 13421773 / 2^27. Definitions only.
use Rattle.std.specs.Prelude.{◌≡◌, ℕ, ◌*◌, ◌-◌, ◌^◌, List, [], ◌∷◌, ℤ, pos, negsuc, length}
use Rattle.std.specs.Float.{binary32}
use Rattle.std.specs.Float.Ieee.{of_bits}
use Rattle.shown.specs.Value.{sum_of}
use Rattle.printed.specs.Number.{Nearest}
use Rattle.printed.specs.Text.{text_of}

-- value, offset, scale and decimals are printed as n last digits, and n as the text
abbrev pub ShowsAs : ℕ → ℤ → ℕ → ℕ → ℤ → List ℕ → Type 0
ShowsAs value offset scale decimals n text = Nearest n (sum_of value offset) (of_bits binary32 scale) decimals × (text_of decimals n ≡ text)

-- with seven decimals they are printed as n last digits, in 57 characters
abbrev pub IsLongest : ℕ → ℤ → ℕ → ℤ → Type 0
IsLongest value offset scale n = Nearest n (sum_of value offset) (of_bits binary32 scale) 7 × (length (text_of 7 n) ≡ 57)

pub record PrintedExamples : Type 0 where
  -- 240 at 0.1, one decimal: 24.0
  pub value_240 : ShowsAs 240 (pos 0) 0x3dcc_cccd 1 (pos 240) (50 ∷ 52 ∷ 46 ∷ 48 ∷ [])
  -- 220 at 0.1, no decimal: 22
  pub value_220 : ShowsAs 220 (pos 0) 0x3dcc_cccd 0 (pos 22) (50 ∷ 50 ∷ [])
  -- 240 at 0.1, seven decimals: 24.0000004, since the scale is a little more than 0.1
  pub seven : ShowsAs 240 (pos 0) 0x3dcc_cccd 7 (pos 240_000_004) (50 ∷ 52 ∷ 46 ∷ 48 ∷ 48 ∷ 48 ∷ 48 ∷ 48 ∷ 48 ∷ 52 ∷ [])
  -- 12345 at 0.001, three decimals to six: 12.345, 12.3450, 12.34500, 12.345001
  pub three : ShowsAs 12_345 (pos 0) 0x3a83_126f 3 (pos 12_345) (49 ∷ 50 ∷ 46 ∷ 51 ∷ 52 ∷ 53 ∷ [])
  pub four : ShowsAs 12_345 (pos 0) 0x3a83_126f 4 (pos 123_450) (49 ∷ 50 ∷ 46 ∷ 51 ∷ 52 ∷ 53 ∷ 48 ∷ [])
  pub five : ShowsAs 12_345 (pos 0) 0x3a83_126f 5 (pos 1_234_500) (49 ∷ 50 ∷ 46 ∷ 51 ∷ 52 ∷ 53 ∷ 48 ∷ 48 ∷ [])
  pub six : ShowsAs 12_345 (pos 0) 0x3a83_126f 6 (pos 12_345_001) (49 ∷ 50 ∷ 46 ∷ 51 ∷ 52 ∷ 53 ∷ 48 ∷ 48 ∷ 49 ∷ [])
  -- 0 less 40 at 0.5, two decimals: -20.00
  pub below_zero : ShowsAs 0 (negsuc 39) 0x3f00_0000 2 (negsuc 1_999) (45 ∷ 50 ∷ 48 ∷ 46 ∷ 48 ∷ 48 ∷ [])
  -- 5 and 7 halves, no decimal, lie between 2 and 3 and between 3 and 4: 2 and 4
  pub tie_down : ShowsAs 5 (pos 0) 0x3f00_0000 0 (pos 2) (50 ∷ [])
  pub tie_up : ShowsAs 7 (pos 0) 0x3f00_0000 0 (pos 4) (52 ∷ [])
  -- 0 less 7 halves, no decimal: -4; 5 eighths, two decimals: 0.62
  pub tie_below : ShowsAs 0 (negsuc 6) 0x3f00_0000 0 (negsuc 3) (45 ∷ 52 ∷ [])
  pub tie_behind : ShowsAs 5 (pos 0) 0x3e00_0000 2 (pos 62) (48 ∷ 46 ∷ 54 ∷ 50 ∷ [])
  -- 0 less 1 at 0.5, no decimal: 0, without a minus sign
  pub no_minus : ShowsAs 0 (negsuc 0) 0x3f00_0000 0 (pos 0) (48 ∷ [])
  -- 0 less 1 at 0.5, one decimal: -0.5
  pub half : ShowsAs 0 (negsuc 0) 0x3f00_0000 1 (negsuc 4) (45 ∷ 48 ∷ 46 ∷ 53 ∷ [])
  -- the greatest sum and the least at the greatest scale, 16777215 · 2^104
  pub longest_above : IsLongest 0xffff_ffff (pos 0x7fff_ffff) 0x7f7f_ffff (pos (0x1_7fff_fffe * 16_777_215 * 2 ^ 104 * 10 ^ 7))
  pub longest_below : IsLongest 0 (negsuc 0x7fff_ffff) 0x7f7f_ffff (negsuc (0x8000_0000 * 16_777_215 * 2 ^ 104 * 10 ^ 7 - 1))
