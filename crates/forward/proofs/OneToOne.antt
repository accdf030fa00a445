-- Two structs that hold the same number are the same struct, at each order.
use Rattle.forward.specs.Number.{NumbersOneToOne}
use Rattle.forward.specs.OneToOne.{of_parts_one_to_one}

pub one_to_one : NumbersOneToOne
one_to_one =
    let first = of_parts_one_to_one (λ x y e. e) in
    let second = of_parts_one_to_one first in
    let third = of_parts_one_to_one second in
    (first, second, third, of_parts_one_to_one third)
