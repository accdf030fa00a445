-- Worked rows: patterns, and the patterns of their roots. `EveryRow` is proved in proofs/Rows.antt, by computation.
use Rattle.std.specs.Prelude.{ℕ, ◌≡◌}
use Rattle.std.specs.Float.{binary64}
use Rattle.std.specs.Float.Ieee.{of_bits}
use Rattle.root.specs.Value.{root}

abbrev pub HasRoot : ℕ → ℕ → Type 0
HasRoot b r = root (of_bits binary64 b) ≡ of_bits binary64 r

pub record EveryRow : Type 0 where
  pub of_zero : HasRoot 0 0
  pub of_minus_zero : HasRoot 0x8000_0000_0000_0000 0x8000_0000_0000_0000
  pub of_infinity : HasRoot 0x7ff0_0000_0000_0000 0x7ff0_0000_0000_0000
  pub of_minus_infinity : HasRoot 0xfff0_0000_0000_0000 0x7ff8_0000_0000_0000
  pub of_nan : HasRoot 0x7ff8_0000_0000_0000 0x7ff8_0000_0000_0000
  pub of_minus_one : HasRoot 0xbff0_0000_0000_0000 0x7ff8_0000_0000_0000
  pub of_four : HasRoot 0x4010_0000_0000_0000 0x4000_0000_0000_0000
  pub of_two : HasRoot 0x4000_0000_0000_0000 0x3ff6_a09e_667f_3bcd
  -- the least double above zero, the greatest subnormal, the least normal and the greatest double
  pub of_least : HasRoot 1 0x1e60_0000_0000_0000
  pub of_greatest_subnormal : HasRoot 0xf_ffff_ffff_ffff 0x1fff_ffff_ffff_ffff
  pub of_least_normal : HasRoot 0x10_0000_0000_0000 0x2000_0000_0000_0000
  pub of_greatest : HasRoot 0x7fef_ffff_ffff_ffff 0x5fef_ffff_ffff_ffff
