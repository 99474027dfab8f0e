-- Worked examples: the scale and the value by their bits. 0.1 is 3DCCCCCD, which is 13421773 / 2^27. Definitions only.
use Rattle.std.specs.Prelude.{◌≡◌, ℕ, ℤ, pos, negsuc}
use Rattle.std.specs.Float.{binary32, binary64}
use Rattle.std.specs.Float.Ieee.{of_bits}
use Rattle.octets.specs.Numbers.{completed, wrong_value}
use Rattle.shown.specs.Value.{shown_of}

abbrev pub Shows : ℕ → ℤ → ℕ → ℕ → ℕ → ℕ → Type 0
Shows value offset scale number exact shown = shown_of value offset (of_bits binary32 scale) ≡ record { number = number; exact = exact; value = of_bits binary64 shown }

pub record ShownExamples : Type 0 where
  -- 240 at 0.1: 24.00000035762787
  pub value_240 : Shows 240 (pos 0) 0x3dcc_cccd completed 1 0x4038_0000_0600_0000
  -- 220 at 0.1: 22.000000327825546
  pub value_220 : Shows 220 (pos 0) 0x3dcc_cccd completed 1 0x4036_0000_0580_0000
  -- 0 less 40 at 0.5: -20
  pub below_zero : Shows 0 (negsuc 39) 0x3f00_0000 completed 1 0xc034_0000_0000_0000
  -- the greatest value at 0.1, rounded: 429496735.9
  pub rounded : Shows 0xffff_ffff (pos 0) 0x3dcc_cccd completed 0 0x41b9_9999_9fe6_6666
  -- a sum of 2^32, far above 2^29, at 0.1: exact
  pub far : Shows 0xffff_ffff (pos 1) 0x3dcc_cccd completed 1 0x41b9_9999_a000_0000
  -- style 00, all one bits
  pub style_00 : Shows 240 (pos 0) 0xffff_ffff wrong_value 0 0
