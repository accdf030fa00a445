-- By the place of the highest digit. Assumes nothing.
use mathlib.Core.Path.{◌≡◌, sym, subst}
use Prim.Native.Nat.{ℕ, ◌-◌, ◌*◌, ◌^◌, ◌≤◌, ◌<◌}
use native.Mathlib.Omega.{arith}
use lib.Count.{count_leading_zeros}
use Rattle.root.proofs.Places.{zeros_enough, moved_low, moved_high, moved, the_same}
use Rattle.root.proofs.shifted_up.Goals as goal

abbrev Shifted : ℕ → ℕ → ℕ → Type 0
Shifted digits m e = (m * 2 ^ e ≡ digits * 2 ^ 52) × (2 ^ 52 ≤ m) × (m < 2 ^ 53) × (e ≤ 52)

pub overflow_sub-up : goal.overflow_sub-up
overflow_sub-up c = zeros_enough c.args.digits c.requires.0 c.requires.1

pub returns : goal.returns
returns c = let t = c.args.digits in
    let p = c.requires in
    subst (λ (m : ℕ). Shifted t m (52 - (count_leading_zeros 64 t - 11))) (sym (moved t p.0 p.1))
    (the_same t p.0 p.1, moved_low t p.0 p.1, moved_high t p.0 p.1, omega arith)
