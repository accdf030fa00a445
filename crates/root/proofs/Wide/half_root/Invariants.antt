-- `root::Wide::half_root` meets its contract. The invariant: the guess is the root's whole part or above. Assumes nothing.
use Prim.Native.Nat.{◌+◌, ◌*◌, ◌^◌, ◌≤◌, ◌<◌}
use Rattle.root.proofs.Wide.half_root.Given as goal

abbrev pub invariant-loop-r : goal.invariant-loop-r
invariant-loop-r l = (l.self.m < (l.r + 1) * (l.r + 1)) × (l.r ≤ 2 ^ 30)

abbrev pub decreases-loop-r : goal.decreases-loop-r
decreases-loop-r l = l.r
