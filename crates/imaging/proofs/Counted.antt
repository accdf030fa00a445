-- A file more is one file more, whether it was fitted or not.
use Rattle.std.proofs.Common.{◌≡◌, ◌+◌, Bool, true, false, arith}
use Rattle.imaging.specs.Tally.{tallied, files}
use Rattle.imaging.specs.declared.tally.Tally.{Tally}

one_more : (fitted : Bool) (t : Tally) → files (tallied fitted t) ≡ files t + 1
unfolding tallied
one_more true t = omega arith
one_more false t = omega arith

pub counted : {after : Tally} (fitted : Bool) (t : Tally) → after ≡ tallied fitted t → files after ≡ files t + 1
counted fitted t e = rw e (one_more fitted t)
