-- By the exponent's field.
use mathlib.Core.Path.{◌≡◌}
use Prim.Native.Nat.{suc, ◌-◌, ◌/◌}
use native.Mathlib.Omega.{arith}
use Rattle.forward.proofs.Rest.{split_low, split_high}
use Rattle.forward.proofs.remainder.split.Goals as goal

pub returns-then-exponent-eq0 : goal.returns-then-exponent-eq0
returns-then-exponent-eq0 c = split_low c.args.b c.requires c.if-exponent-eq0.true

pub returns-else-exponent-eq0 : goal.returns-else-exponent-eq0
returns-else-exponent-eq0 c =
    let field : c.args.b / 0x10_0000_0000_0000 ≡ suc (c.args.b / 0x10_0000_0000_0000 - 1) = let some = c.if-exponent-eq0.false in omega (arith, some) in
    split_high c.args.b (c.args.b / 0x10_0000_0000_0000 - 1) c.requires field
