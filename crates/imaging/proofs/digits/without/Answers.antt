-- One digit less is left to take off.
use Rattle.std.proofs.Common.{◌≡◌, ℕ, suc, ◌+◌, ◌-◌, ◌/◌, ◌<◌, arith}
use Rattle.imaging.specs.Text.{without}
use Rattle.imaging.proofs.digits.without.Goals as goal

one_off : (places i rest : ℕ) {n : ℕ} → i < places → without (places - i) rest ≡ n → without (places - (i + 1)) (rest / 10) ≡ n
one_off places i rest h e = let left : places - i ≡ suc (places - (i + 1)) = omega arith in rw left at e

pub loop-preserved : goal.loop-preserved
loop-preserved c = one_off c.args.places c.loop.counter c.loop.rest c.loop-test.true c.loop.invariant
