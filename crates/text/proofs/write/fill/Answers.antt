-- The digits left to write, over those that were written, make the whole: a turn writes the last of them.
use Prim.Native.Nat.{ℕ, zero, suc, ◌+◌, ◌-◌, ◌/◌, ◌%◌, ◌≤◌, ◌<◌}
use native.Mathlib.Omega.{arith}
use mathlib.Core.Path.{◌≡◌, ◌∙◌}
use mathlib.Core.List.{List}
use borrow.Author.Rules.{rules}
use lib.ListN.{set, length-set}
use lib.Seq.{sets}
use Rattle.text.specs.Numerals.{digit, digits}
use Rattle.text.proofs.Numerals.{length_digits}
use Rattle.text.proofs.Stores.{last_first}
use Rattle.text.proofs.write.fill.Goals as goal

of_left : (out : List ℕ) (at base left rest : ℕ) → 0 < left → sets (set out (at + (left - 1)) (digit (rest % base))) at (digits base (left - 1) (rest / base)) ≡ sets out at (digits base left rest)
of_left out at base zero rest h = absurd (omega arith)
of_left out at base (suc k) rest h = let e : suc k - 1 ≡ k = omega arith in rw e (simp length_digits at (last_first out at (digits base k (rest / base)) (digit (rest % base))))

last_digit : (out : List ℕ) (at base place rest : ℕ) → at < place → sets (set out (place - 1) (digit (rest % base))) at (digits base (place - 1 - at) (rest / base)) ≡ sets out at (digits base (place - at) rest)
last_digit out at base place rest h =
    let f : place - 1 - at ≡ place - at - 1 = omega arith in
    let e : place - 1 ≡ at + (place - at - 1) = omega arith in
    rw (f, e) (of_left out at base (place - at) rest (omega arith))

none_left : {out whole : List ℕ} (at base place rest : ℕ) → place ≤ at → sets out at (digits base (place - at) rest) ≡ whole → out ≡ whole
none_left at base place rest h e = let z : place - at ≡ 0 = omega arith in rw z at e

pub loop-place-preserved : goal.loop-place-preserved
loop-place-preserved c = (omega arith, simp length-set (search rules), rw c.digit.ensures (last_digit _ _ _ _ _ c.loop-place-test.true ∙ c.loop-place.invariant.2))

pub returns : goal.returns
returns c = let a = c.args in record { bytes = none_left _ _ _ _ c.loop-place-test.false c.loop-place.invariant.2; behind = rw (length_digits a.base a.places a.n) }
