-- The statement of specs/, with its proof.
use Rattle.dual.specs.Outcome.{OneToOne}
use Rattle.dual.proofs.OneToOne as answers

one_to_one : OneToOne
one_to_one = answers.one_to_one
