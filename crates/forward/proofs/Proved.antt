-- The statements of specs/, each with its proof.
use Prim.Native.Nat.{ℕ}
use Rattle.forward.specs.Forward.{Fwd}
use Rattle.forward.specs.Tests.{Operators, OperatorsOf}
use Rattle.forward.specs.Number.{NumbersOneToOne}
use Rattle.forward.specs.Rows.{Holds, EveryRow, root_at_four}
use Rattle.forward.specs.Values.{Values}
use Rattle.forward.proofs.Tests as tests
use Rattle.forward.proofs.OneToOne as answers
use Rattle.forward.proofs.Rows as rows
use Rattle.forward.proofs.Values as of_values

one_to_one : NumbersOneToOne
one_to_one = answers.one_to_one

operators : (n : ℕ) → Operators n
operators = tests.operators

operators_of : (n : ℕ) {T : Type 0} (number : T → Fwd n) → OperatorsOf n number
operators_of = tests.operators_of

values : (n : ℕ) → Values n
values = of_values.values

every_row : EveryRow
every_row = rows.every_row

at_four : Holds root_at_four
at_four = rows.at_four
