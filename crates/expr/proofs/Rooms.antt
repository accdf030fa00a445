-- Where a machine that fits is not full, its arrays have room for a node.
use mathlib.Core.Path.{◌≡◌}
use mathlib.Core.Bool.{true}
use native.Mathlib.Omega.{arith}
use Rattle.tape.specs.Numbers.{floats}
use Rattle.tape.specs.Machine.{Arrays, machine, capacity}
use Rattle.tape.specs.Admission.{fits}
use Rattle.tape.specs.declared.tape.Tape.{Tape}
use Rattle.tape.proofs.Tests.{Fit, fit}
use Rattle.expr.specs.Inner.{Room}

pub room : (t : Tape) (A : Arrays floats) → fits true (machine t A) ≡ true → (t.length ≡ capacity A → ⊥) → Room t.length A
room t A shape free =
    let f : Fit (machine t A) = fit (machine t A) shape in
    record { value = omega arith; adjoint = omega arith; serial = omega arith; count = omega arith; child = omega arith; partial = omega arith }
