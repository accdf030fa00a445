-- Every public function of crate text.
use Rattle.decided.specs.Decided.{Decided}
use Rattle.text.specs.contracts as text
use Rattle.text.proofs as told_text

pub record Text : Type 0 where
  pub write_text : Decided text.write_text.ended told_text.write_text.Reads.Learnt
  pub write_hex : Decided text.write_hex.ended told_text.write_hex.Reads.Learnt
  pub write_decimal : Decided text.write_decimal.ended told_text.write_decimal.Reads.Learnt
  pub write_digits : Decided text.write_digits.ended told_text.write_digits.Reads.Learnt
  pub decimal_length : Decided text.decimal_length.ended told_text.decimal_length.Reads.Learnt
  pub read_hex : Decided text.read_hex.ended told_text.read_hex.Reads.Learnt
  pub read_hex_start : Decided text.read_hex_start.ended told_text.read_hex_start.Reads.Learnt
  pub read_digits : Decided text.read_digits.ended told_text.read_digits.Reads.Learnt
  pub read_decimal : Decided text.read_decimal.ended told_text.read_decimal.Reads.Learnt
