-- What was read, of eight digits at most, fits 32 bits.
use Rattle.std.proofs.Common.{sym, ◌∙◌, arith}
use Rattle.text.proofs.Reading.{digits_small}
use Rattle.imaging.proofs.digits.read_number.Goals as goal

pub overflow_cast-result : goal.overflow_cast-result
overflow_cast-result c =
    let small = digits_small 8 c.args.text.now c.in_ok-n.n (sym c.read_digits.ensures ∙ c.in_ok-n.was) in
    omega arith
