-- The statements of specs/, each with its proof.
use Rattle.laws.specs.Floats.{FloatLaws}
use Rattle.laws.specs.Laws.{AtEveryOrder}
use Rattle.laws.specs.Methods.{OfTheCode}
use Rattle.laws.specs.Regrouped.{Cases, AtNoOrder}
use Rattle.laws.specs.OnATape.{OnATape}
use Rattle.laws.specs.Examples.{Safe, NotSafe}
use Rattle.laws.proofs.Floats as floats
use Rattle.laws.proofs.Laws as every_order
use Rattle.laws.proofs.Methods as methods
use Rattle.laws.proofs.Regrouped as regrouped
use Rattle.laws.proofs.OnATape as recorded
use Rattle.laws.proofs.Examples as examples

float_laws : FloatLaws
float_laws = floats.float_laws

at_every_order : AtEveryOrder
at_every_order = every_order.laws

of_the_code : OfTheCode
of_the_code = methods.of_the_code

cases : Cases
cases = regrouped.cases

at_no_order : AtNoOrder
at_no_order = regrouped.at_no_order

safe : Safe
safe = examples.safe

not_safe : NotSafe
not_safe = examples.not_safe

on_a_tape : OnATape
on_a_tape = recorded.on_a_tape
