-- What the private function `taken_apart` promises. Only its proof and its caller's use it; the public promise speaks of
-- `Root`.
use Rattle.std.specs.Prelude.{ℕ, ◌*◌, ◌^◌, ◌≡◌}
use Rattle.std.specs.Float.{binary64}
use Rattle.std.specs.Float.Ieee.{of_bits}
use Rattle.root.specs.Root.{Units}

-- the double with the pattern b is m * 2 ^ e / 2 ^ 52 units
abbrev pub Scales : ℕ → ℕ → ℕ → Type 0
Scales b m e = (n : ℕ) × Units (of_bits binary64 b) n × (n * 2 ^ 52 ≡ m * 2 ^ e)
