-- One digit more still fits.
use Prim.Native.Nat.{◌+◌, ◌*◌, ◌^◌, ◌<◌}
use native.Mathlib.Omega.{arith}
use mathlib.Core.Path.{sym, ◌∙◌}
use Rattle.text.proofs.Reading.{one_fits}
use Rattle.text.proofs.read.value.Goals as goal

fits : (c : goal.In-Some) → c.args.base * c.loop-byte.n + c.in-Some.digit < 2 ^ 64
fits c = one_fits c.loop-byte.invariant c.loop-byte-test.true (sym c.digit_value.ensures ∙ c.in-Some.is) c.requires.1

pub overflow_mul-n : goal.overflow_mul-n
overflow_mul-n c = omega (arith, fits c)

pub overflow_add-n : goal.overflow_add-n
overflow_add-n c = omega (arith, fits c)
