-- Every public function of crate root.
use Rattle.decided.specs.Decided.{Decided}
use Rattle.root.specs.contracts as root
use Rattle.root.proofs as told_root

pub record Root : Type 0 where
  pub sqrt : Decided root.sqrt.ended told_root.sqrt.Reads.Learnt
