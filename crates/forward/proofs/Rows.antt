-- The rows hold: both sides are computed.
use Prim.Native.Nat.{ℕ, zero, suc}
use mathlib.Core.Path.{◌≡◌, refl, sym, ap, subst, ◌∙◌}
use mathlib.Core.Bool.{true, false}
use lib.IntN.{pos, negsuc}
use lib.Ieee.{Float, fin, add, sub, mul, div, neg, round, of_int, of_bits, to_bits}
use Rattle.root.specs.Value.{root}
use Rattle.forward.specs.Forward.{Fwd, one, two, constant, variable, quotient, product_plain, sqrt}
use Rattle.forward.specs.Rows.{P9, P10, P11, P12, Seen, Holds, EveryRow, root_at_four}
use Rattle.forward.proofs.Pair.{pair}

p9 : Holds P9
unfolding add mul of_int of_bits
p9 = (refl, (refl, (refl, tt)))

p10 : Holds P10
unfolding add mul of_int of_bits
p10 = (refl, (refl, (refl, (refl, (refl, tt)))))

p11 : Holds P11
unfolding mul div of_int of_bits to_bits
p11 = refl

p12 : Holds P12
unfolding sub neg of_int of_bits to_bits
p12 = refl

pub every_row : EveryRow
every_row = (p9, (p10, (p11, (p12, tt))))

-- ---- the root at 4

of_four : root (fin false 1 (pos 2)) ≡ fin false 1 (pos 1)
unfolding root round
of_four = refl

-- 2, 1/4, -1/32, 3/256, -15/2048
abbrev derived : ℕ → Float
derived zero = fin false 1 (pos 1)
derived (suc zero) = fin false 1 (negsuc 1)
derived (suc (suc zero)) = fin true 1 (negsuc 4)
derived (suc (suc (suc zero))) = fin false 3 (negsuc 7)
derived (suc (suc (suc (suc k)))) = fin true 15 (negsuc 10)

-- the number whose value and derivatives are those from the k-th on
abbrev from : (k n : ℕ) → Fwd n
from k zero = derived k
from k (suc n) = (from k n, from (suc k) n)

-- the rule's derivative part, order by order
abbrev Next : ℕ → Type 0
Next n = quotient n (constant n one) (product_plain n (from 0 n) two) ≡ from 1 n

next_0 : Next 0
unfolding mul div of_bits
next_0 = refl

next_1 : Next 1
unfolding sub mul div of_bits
next_1 = refl

next_2 : Next 2
unfolding add sub mul div of_bits
next_2 = refl

next_3 : Next 3
unfolding add sub mul div of_bits
next_3 = refl

abbrev four : Float
four = fin false 1 (pos 2)

step : (n : ℕ) → sqrt n (variable n four) ≡ from 0 n → Next n → sqrt (suc n) (variable (suc n) four) ≡ from 0 (suc n)
step n e f = pair e (ap (λ s. quotient n (constant n one) (product_plain n s two)) e ∙ f)

derivatives_are : Seen 4 (from 0 4) root_at_four.sight
unfolding div neg of_int
derivatives_are = (refl, (refl, (refl, (refl, (refl, tt)))))

pub at_four : Holds root_at_four
unfolding of_int
at_four = subst (λ x. Seen 4 x root_at_four.sight) (sym (step 3 (step 2 (step 1 (step 0 of_four next_0) next_1) next_2) next_3)) derivatives_are
