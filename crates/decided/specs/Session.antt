-- Every public function of crate session.
use Rattle.decided.specs.Decided.{Decided}
use Rattle.session.specs.contracts as session
use Rattle.session.proofs as told_session

pub record Session : Type 0 where
  pub ingthabor_session : Decided session.ingthabor_session.ended told_session.ingthabor_session.Reads.Learnt
