-- What holds of the square root. Proved in proofs/, and gathered in proofs/Proved.antt.
use Rattle.std.specs.Prelude.{ℕ, ◌≡◌, false, ℤ, Float}
use Rattle.std.specs.Float.{fin}
use Rattle.root.specs.Root.{Double, Units, Root}
use Rattle.root.specs.Value.{root}

-- the function gives what the statement asks, for every double
abbrev pub Meets : Type 0
Meets = (x : Float) → Double x → Root x (root x)

-- of any x, a double or not, the statement lets one answer through at most
abbrev pub Only : Type 0
Only = (x r t : Float) → Root x r → Root x t → r ≡ t

-- every finite double without a sign is a whole number of units, so that "every other double" leaves none out
abbrev pub EveryDouble : Type 0
EveryDouble = (m : ℕ) (e : ℤ) → Double (fin false m e) → (a : ℕ) × Units (fin false m e) a
