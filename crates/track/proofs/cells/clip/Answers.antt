-- By the same division.
use Rattle.std.proofs.Common.{◌≡◌, refl}
use lib.Ieee.{binary64, of_int, of_bits}
use Rattle.track.specs.Cells.{float, clip}
use Rattle.track.proofs.cells.clip.Goals as goal

one : of_bits binary64 0x3ff0_0000_0000_0000 ≡ float 1
unfolding of_int of_bits
one = refl

pub returns : goal.returns
unfolding clip
returns c = rw (one, c.nearest_usize_to_f64.ensures)
