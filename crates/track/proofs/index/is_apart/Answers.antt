-- One of the two differences is 0.
use Rattle.std.proofs.Common.{◌≡◌, ℕ, ◌+◌, ◌-◌, arith}
use Rattle.std.specs.Int.{abs_diff}
use Rattle.track.specs.Index.{apart}
use Rattle.track.proofs.index.is_apart.Goals as goal

both : (m n : ℕ) → abs_diff m n ≡ (m - n) + (n - m)
both m n = omega arith

pub returns : goal.returns
unfolding apart
returns c = rw (c.abs_diff.ensures, both c.args.time c.args.median)
