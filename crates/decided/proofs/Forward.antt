-- Each function of the forward numbers answers what its rule gives: a float, a test, or a number that one value alone
-- holds.
use Rattle.forward.specs.OneToOne.{of_parts_one_to_one}
use Rattle.decided.specs.Forward.{Floats, Numbers, Operators, Others, Compared}
use Rattle.decided.proofs.Rules.{equal, through}

pub floats : Floats
floats = record {
  constant = record { same = equal };
  var = record { same = equal };
  value = record { same = equal };
  add = record { same = equal };
  sub = record { same = equal };
  mul = record { same = equal };
  div = record { same = equal };
  neg = record { same = equal };
  add_f64 = record { same = equal };
  sub_f64 = record { same = equal };
  mul_f64 = record { same = equal };
  sqrt = record { same = equal };
}

pub numbers : Numbers
numbers = record {
  constant = record { at = λ t. record { same = through (of_parts_one_to_one t.one_to_one) } };
  var = record { at = λ t. record { same = through (of_parts_one_to_one t.one_to_one) } };
  value = record { at = λ t. record { same = equal } };
  add = record { at = λ t. record { same = through (of_parts_one_to_one t.one_to_one) } };
  sub = record { at = λ t. record { same = through (of_parts_one_to_one t.one_to_one) } };
  mul = record { at = λ t. record { same = through (of_parts_one_to_one t.one_to_one) } };
  div = record { at = λ t. record { same = through (of_parts_one_to_one t.one_to_one) } };
  neg = record { at = λ t. record { same = through (of_parts_one_to_one t.one_to_one) } };
  add_f64 = record { at = λ t. record { same = through (of_parts_one_to_one t.one_to_one) } };
  sub_f64 = record { at = λ t. record { same = through (of_parts_one_to_one t.one_to_one) } };
  mul_f64 = record { at = λ t. record { same = through (of_parts_one_to_one t.one_to_one) } };
  sqrt = record { at = λ t. record { same = through (of_parts_one_to_one t.one_to_one) } };
}

pub operators : Operators
operators = record {
  add = record { at = λ t. record { same = through (of_parts_one_to_one t.one_to_one) } };
  sub = record { at = λ t. record { same = through (of_parts_one_to_one t.one_to_one) } };
  mul = record { at = λ t. record { same = through (of_parts_one_to_one t.one_to_one) } };
  div = record { at = λ t. record { same = through (of_parts_one_to_one t.one_to_one) } };
  rem = record { at = λ t. record { same = through (of_parts_one_to_one t.one_to_one) } };
  neg = record { at = λ t. record { same = through (of_parts_one_to_one t.one_to_one) } };
  add_f64 = record { at = λ t. record { same = through (of_parts_one_to_one t.one_to_one) } };
  sub_f64 = record { at = λ t. record { same = through (of_parts_one_to_one t.one_to_one) } };
  mul_f64 = record { at = λ t. record { same = through (of_parts_one_to_one t.one_to_one) } };
  div_f64 = record { at = λ t. record { same = through (of_parts_one_to_one t.one_to_one) } };
  rem_f64 = record { at = λ t. record { same = through (of_parts_one_to_one t.one_to_one) } };
  sub_from = record { at = λ t. record { same = through (of_parts_one_to_one t.one_to_one) } };
  div_into = record { at = λ t. record { same = through (of_parts_one_to_one t.one_to_one) } };
}

pub others : Others
others = record {
  zero = record { at = λ t. record { same = through (of_parts_one_to_one t.one_to_one) } };
  one = record { at = λ t. record { same = through (of_parts_one_to_one t.one_to_one) } };
  first_derivative = record { at = λ t. record { same = equal } };
  second_derivative = record { at = λ t. record { same = equal } };
  third_derivative = record { at = λ t. record { same = equal } };
  fourth_derivative = record { at = λ t. record { same = equal } };
  abs = record { at = λ t. record { same = through (of_parts_one_to_one t.one_to_one) } };
  max_val = record { at = λ t. record { same = through (of_parts_one_to_one t.one_to_one) } };
  min_val = record { at = λ t. record { same = through (of_parts_one_to_one t.one_to_one) } };
  eq = record { at = λ t. record { same = equal } };
  partial_cmp = record { at = λ t. record { same = equal } };
  eq_f64 = record { at = λ t. record { same = equal } };
  ne_f64 = record { at = λ t. record { same = equal } };
  lt_f64 = record { at = λ t. record { same = equal } };
  le_f64 = record { at = λ t. record { same = equal } };
  gt_f64 = record { at = λ t. record { same = equal } };
  ge_f64 = record { at = λ t. record { same = equal } };
  partial_cmp_f64 = record { at = λ t. record { same = equal } };
}

pub compared : Compared
compared = record {
  ne = record { at = λ t laws. record { same = equal } };
  lt = record { at = λ t laws. record { same = equal } };
  le = record { at = λ t laws. record { same = equal } };
  gt = record { at = λ t laws. record { same = equal } };
  ge = record { at = λ t laws. record { same = equal } };
}
