-- The whole, and behind it the point and the decimals where there are any.
use Rattle.std.proofs.Common.{◌≡◌, ℕ, ◌<◌, arith}
use Rattle.imaging.proofs.Text.{three_parts}
use Rattle.imaging.proofs.digits.write_decimals.Goals as goal

above_zero : (n : ℕ) → (n ≡ 0 → ⊥) → 0 < n
above_zero n h = omega arith

pub returns : goal.returns
returns c =
    three_parts c.args.out.now c.args.n c.args.places c.requires.0 c.requires.1
    (rw c.without.ensures at c.write_decimal-point.ensures) c.write_text-decimals.ensures c.write_digits.ensures
    (above_zero _ c.if-places-eq0.false)
