-- The statement of specs/, with its proof.
use Rattle.expr.specs.Outcome.{OneToOne}
use Rattle.expr.proofs.OneToOne as answers

one_to_one : OneToOne
one_to_one = answers.one_to_one
