-- Every public function of crate listing.
use Rattle.decided.specs.Decided.{Decided}
use Rattle.listing.specs.contracts as listing
use Rattle.listing.proofs as told_listing

pub record Listing : Type 0 where
  pub bits_of : Decided listing.bits_of.ended told_listing.bits_of.Reads.Learnt
  pub float_of : Decided listing.float_of.ended told_listing.float_of.Reads.Learnt
  pub list : Decided listing.listing.list.ended told_listing.listing.list.Reads.Learnt
