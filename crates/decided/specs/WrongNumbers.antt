-- Wrong answers that the promises of crates `root` and `forward` rule out, two or more for each function, at an order
-- where they show.
-- `Tried` says what a row is; `NumbersTried` is proved in proofs/Wrong.antt, by computation.
use Rattle.std.specs.Prelude.{ℕ, ◌≡◌, true, false, List, [], ◌∷◌, ◌++◌, map, Float, Option, Some, None}
use Rattle.std.specs.Float.{nan, inf, binary64}
use Rattle.std.specs.Float.Ieee.{of_bits, div, neg, eq, ne, lt, le}
use Rattle.root.specs.Value.{root}
use Rattle.forward.specs.Forward.{Fwd, nought, one, constant, variable, value, derivative, sum, difference, product, quotient, negation, sum_plain, difference_plain, plain_difference, product_plain, quotient_plain, plain_quotient, sqrt, remainder, remainder_plain, compared, compared_plain, gt, ge, comparison, abs, max_val, min_val}
use Rattle.forward.specs.Rows.{float, parts}
use Rattle.std.specs.declared.cmp.Ordering.{Ordering}
use Rattle.std.specs.declared.cmp.Ordering.TheVariants.{Less, Equal, Greater}
use Rattle.decided.specs.Tried.{Tried, tried, ruled_out, bits, a_bool}

-- ---- how answers are written out

abbrev pub at_1 : Fwd 1 → Fwd 1 → Tried
at_1 = tried (λ x. map bits (parts 1 x))

abbrev pub at_2 : Fwd 2 → Fwd 2 → Tried
at_2 = tried (λ x. map bits (parts 2 x))

abbrev pub a_float : Float → Float → Tried
a_float = tried (λ x. bits x ∷ [])

abbrev pub rank : Option Ordering → ℕ
rank (Some Less) = 0
rank (Some Equal) = 1
rank (Some Greater) = 2
rank None = 3

abbrev pub an_ordering : Option Ordering → Option Ordering → Tried
an_ordering = tried (λ o. rank o ∷ [])

-- ---- what they are tried on

abbrev pub x : Fwd 1
x = (float 3, float 5)

abbrev pub y : Fwd 1
y = (float 2, float 7)

-- the sixteen parts of an order 4 number, 0 to 15
abbrev pub sixteen : Fwd 4
sixteen =
    ((((float 0, float 1), (float 2, float 3)), ((float 4, float 5), (float 6, float 7))), (((float 8, float 9), (float 10, float 11)), ((float 12, float 13), (float 14, float 15))))

-- ---- the wrong answers

-- sqrt of a float: the digits of the root of 2 cut off, and those of the root of 3 rounded up; +0.0 for -0.0; for a
-- number below zero the root of its size; NaN for +infinity; the least double taken for 0
abbrev pub root_tried : List Tried
root_tried =
    a_float (root (float 2)) (of_bits binary64 0x3ff6_a09e_667f_3bcc)
    ∷ a_float (root (float 3)) (of_bits binary64 0x3ffb_b67a_e858_4cab)
    ∷ a_float (root (neg nought)) nought
    ∷ a_float (root (neg one)) one
    ∷ a_float (root (inf false)) nan
    ∷ a_float (root (of_bits binary64 1)) nought
    ∷ []

-- constant: a derivative part of 1; the value in both parts
abbrev pub constant_tried : List Tried
constant_tried = at_1 (constant 1 (float 3)) (float 3, float 1) ∷ at_1 (constant 1 (float 3)) (float 3, float 3) ∷ []

-- var: a derivative part of v; one of 0
abbrev pub var_tried : List Tried
var_tried = at_1 (variable 1 (float 3)) (float 3, float 3) ∷ at_1 (variable 1 (float 3)) (float 3, float 0) ∷ []

-- zero: -0.0 for 0.0; a variable
abbrev pub zero_tried : List Tried
zero_tried = at_1 (constant 1 nought) (neg nought, nought) ∷ at_1 (constant 1 nought) (variable 1 nought) ∷ []

-- one: a variable; constant 1.0 in both parts of order 2
abbrev pub one_tried : List Tried
one_tried = at_1 (constant 1 one) (variable 1 one) ∷ at_2 (constant 2 one) ((one, nought), (one, nought)) ∷ []

-- value: the derivative part; the sum of the parts
abbrev pub value_tried : List Tried
value_tried = a_float (value 1 x) (float 5) ∷ a_float (value 1 x) (float 8) ∷ []

-- first_derivative: the value; value parts taken first
abbrev pub first_derivative_tried : List Tried
first_derivative_tried = a_float (derivative 1 4 sixteen) (float 0) ∷ a_float (derivative 1 4 sixteen) (float 1) ∷ []

-- second_derivative: the first derivative; value parts taken first
abbrev pub second_derivative_tried : List Tried
second_derivative_tried = a_float (derivative 2 4 sixteen) (float 8) ∷ a_float (derivative 2 4 sixteen) (float 3) ∷ []

-- third_derivative: the second derivative; value parts taken first
abbrev pub third_derivative_tried : List Tried
third_derivative_tried = a_float (derivative 3 4 sixteen) (float 12) ∷ a_float (derivative 3 4 sixteen) (float 7) ∷ []

-- fourth_derivative: the third derivative; the value
abbrev pub fourth_derivative_tried : List Tried
fourth_derivative_tried = a_float (derivative 4 4 sixteen) (float 14) ∷ a_float (derivative 4 4 sixteen) (float 0) ∷ []

-- add: the derivative of one side alone; b + c in the value part
abbrev pub add_tried : List Tried
add_tried = at_1 (sum 1 x y) (float 5, float 5) ∷ at_1 (sum 1 x y) (float 7, float 12) ∷ []

-- sub: the sides exchanged; the right derivative added
abbrev pub sub_tried : List Tried
sub_tried = at_1 (difference 1 x y) (difference 1 y x) ∷ at_1 (difference 1 x y) (float 1, float 12) ∷ []

-- mul: the derivative as the product of the derivatives; ad alone
abbrev pub mul_tried : List Tried
mul_tried = at_1 (product 1 x y) (float 6, float 35) ∷ at_1 (product 1 x y) (float 6, float 21) ∷ []

-- div: the derivative divided by d; (bc - ad) / cc, equal in the reals and not in bits: with (1, 1) over (3, 1) that is
-- 2/9, and (1 - 1/3) / 3 is one unit in the last place more
abbrev pub div_tried : List Tried
div_tried =
    at_1 (quotient 1 x y) (value 1 (quotient 1 x y), neg (quotient 0 (float 11) (float 14)))
    ∷ at_1 (quotient 1 (variable 1 one) (variable 1 (float 3))) (quotient 0 one (float 3), quotient 0 (float 2) (float 9)) ∷ []

-- neg: the value part alone negated; 0.0 - x, which is +0.0 at +0.0
abbrev pub neg_tried : List Tried
neg_tried =
    at_1 (negation 1 x) (neg (float 3), float 5)
    ∷ at_1 (negation 1 (variable 1 nought)) (difference 1 (constant 1 nought) (variable 1 nought)) ∷ []

-- add_f64: k added to the derivative too; the derivative dropped
abbrev pub add_f64_tried : List Tried
add_f64_tried =
    at_1 (sum_plain 1 x (float 2)) (float 5, float 7) ∷ at_1 (sum_plain 1 x (float 2)) (constant 1 (float 5)) ∷ []

-- sub_f64: k taken from the derivative too; k - x
abbrev pub sub_f64_tried : List Tried
sub_f64_tried =
    at_1 (difference_plain 1 x (float 2)) (float 1, float 3)
    ∷ at_1 (difference_plain 1 x (float 2)) (plain_difference 1 (float 2) x) ∷ []

-- mul_f64: the derivative not multiplied; k made a constant first, which adds 0.0 * a
abbrev pub mul_f64_tried : List Tried
mul_f64_tried =
    at_1 (product_plain 1 x (float 2)) (float 6, float 5)
    ∷ at_1 (product_plain 1 (float 3, neg nought) (float 2)) (product 1 (float 3, neg nought) (constant 1 (float 2)))
    ∷ []

-- div_f64: a true division of the value; of the derivative alone
abbrev pub div_f64_tried : List Tried
div_f64_tried =
    at_1 (quotient_plain 1 (float 49, float 49) (float 49)) (one, value 1 (quotient_plain 1 (float 49, float 49) (float 49))) ∷ at_1 (quotient_plain 1 (float 49, float 49) (float 49)) (value 1 (quotient_plain 1 (float 49, float 49) (float 49)), one) ∷ []

-- sub_from: the derivative not negated; (constant k) - x, whose derivative 0.0 - d has another sign at +0.0
abbrev pub sub_from_tried : List Tried
sub_from_tried =
    at_1 (plain_difference 1 (float 2) x) (neg one, float 5)
    ∷ at_1 (plain_difference 1 (float 2) (constant 1 (float 3))) (difference 1 (constant 1 (float 2)) (constant 1 (float 3))) ∷ []

-- div_into: x / k; (1.0 / x) * k
abbrev pub div_into_tried : List Tried
div_into_tried =
    at_1 (plain_quotient 1 (float 6) x) (quotient_plain 1 x (float 6))
    ∷ at_1 (plain_quotient 1 (float 49) (constant 1 (float 49))) (product_plain 1 (plain_quotient 1 one (constant 1 (float 49))) (float 49)) ∷ []

-- sqrt: the derivative over s; the derivative times 1 / (s * 2.0), which rounds twice; at order 2 the derivative part
-- over twice the innermost value of s alone
abbrev pub sqrt_tried : List Tried
sqrt_tried =
    at_1 (sqrt 1 (float 9, float 5)) (float 3, div binary64 (float 5) (float 3))
    ∷ at_1 (sqrt 1 (float 9, float 5)) (float 3, product 0 (float 5) (div binary64 one (float 6)))
    ∷ at_2 (sqrt 2 ((float 9, float 6), (float 6, float 2))) ((float 3, one), quotient_plain 1 (float 6, float 2) (float 6)) ∷ []

-- rem: the derivative kept; the divisor's sign
abbrev pub rem_tried : List Tried
rem_tried =
    at_1 (remainder 1 x y) (one, float 5) ∷ at_1 (remainder 1 (constant 1 (neg (float 3))) y) (constant 1 one) ∷ []

-- rem_f64: the derivative kept; the divisor's sign
abbrev pub rem_f64_tried : List Tried
rem_f64_tried =
    at_1 (remainder_plain 1 x (float 2)) (one, float 5)
    ∷ at_1 (remainder_plain 1 (constant 1 (neg (float 3))) (float 2)) (constant 1 one) ∷ []

-- abs: a NaN kept with its derivative; -0.0 turned to +0.0
abbrev pub abs_tried : List Tried
abs_tried = at_1 (abs 1 (nan, float 5)) (nan, float 5) ∷ at_1 (abs 1 (neg nought, float 5)) (nought, float 5) ∷ []

-- max_val: the right number at a tie; the left one where a NaN stands on the right
abbrev pub max_val_tried : List Tried
max_val_tried = at_1 (max_val 1 x (float 3, float 7)) (float 3, float 7) ∷ at_1 (max_val 1 x (nan, float 7)) x ∷ []

-- min_val: the right number at a tie; the left one where a NaN stands on the right
abbrev pub min_val_tried : List Tried
min_val_tried = at_1 (min_val 1 x (float 3, float 7)) (float 3, float 7) ∷ at_1 (min_val 1 x (nan, float 7)) x ∷ []

-- eq: derivatives compared too; two NaNs equal
abbrev pub eq_tried : List Tried
eq_tried = a_bool (compared eq 1 x (float 3, float 7)) false ∷ a_bool (compared eq 1 (nan, one) (nan, one)) true ∷ []

-- ne: derivatives compared too; two NaNs equal
abbrev pub ne_tried : List Tried
ne_tried = a_bool (compared ne 1 x (float 3, float 7)) true ∷ a_bool (compared ne 1 (nan, one) (nan, one)) false ∷ []

-- lt: true at a tie; taken as not >=, true at a NaN
abbrev pub lt_tried : List Tried
lt_tried = a_bool (compared lt 1 x x) true ∷ a_bool (compared lt 1 x (nan, one)) true ∷ []

-- le: false at a tie; taken as not >, true at a NaN
abbrev pub le_tried : List Tried
le_tried = a_bool (compared le 1 x x) false ∷ a_bool (compared le 1 x (nan, one)) true ∷ []

-- gt: true at a tie; taken as not <=, true at a NaN
abbrev pub gt_tried : List Tried
gt_tried = a_bool (compared gt 1 x x) true ∷ a_bool (compared gt 1 x (nan, one)) true ∷ []

-- ge: false at a tie; taken as not <, true at a NaN
abbrev pub ge_tried : List Tried
ge_tried = a_bool (compared ge 1 x x) false ∷ a_bool (compared ge 1 x (nan, one)) true ∷ []

-- partial_cmp: Equal at a NaN; -0.0 below +0.0
abbrev pub partial_cmp_tried : List Tried
partial_cmp_tried =
    an_ordering (compared comparison 1 x (nan, one)) (Some Equal)
    ∷ an_ordering (compared comparison 1 (neg nought, one) (nought, one)) (Some Less) ∷ []

-- eq_f64: k compared with the derivative; two NaNs equal
abbrev pub eq_f64_tried : List Tried
eq_f64_tried = a_bool (compared_plain eq 1 x (float 5)) true ∷ a_bool (compared_plain eq 1 (nan, one) nan) true ∷ []

-- ne_f64: k compared with the derivative; two NaNs equal
abbrev pub ne_f64_tried : List Tried
ne_f64_tried = a_bool (compared_plain ne 1 x (float 5)) false ∷ a_bool (compared_plain ne 1 (nan, one) nan) false ∷ []

-- lt_f64: k compared with the derivative; the sides exchanged
abbrev pub lt_f64_tried : List Tried
lt_f64_tried = a_bool (compared_plain lt 1 x (float 4)) false ∷ a_bool (compared_plain lt 1 x (float 2)) true ∷ []

-- le_f64: k compared with the derivative; the sides exchanged
abbrev pub le_f64_tried : List Tried
le_f64_tried = a_bool (compared_plain le 1 x (float 4)) false ∷ a_bool (compared_plain le 1 x (float 2)) true ∷ []

-- gt_f64: k compared with the derivative; the sides exchanged
abbrev pub gt_f64_tried : List Tried
gt_f64_tried = a_bool (compared_plain gt 1 x (float 4)) true ∷ a_bool (compared_plain gt 1 x (float 2)) false ∷ []

-- ge_f64: k compared with the derivative; the sides exchanged
abbrev pub ge_f64_tried : List Tried
ge_f64_tried = a_bool (compared_plain ge 1 x (float 4)) true ∷ a_bool (compared_plain ge 1 x (float 2)) false ∷ []

-- partial_cmp_f64: Equal at a NaN; the sides exchanged
abbrev pub partial_cmp_f64_tried : List Tried
partial_cmp_f64_tried =
    an_ordering (compared_plain comparison 1 x nan) (Some Equal) ∷ an_ordering (compared_plain comparison 1 x (float 2)) (Some Less)
    ∷ []

-- of: Equal at a NaN; -0.0 below +0.0
abbrev pub of_tried : List Tried
of_tried = an_ordering (comparison nan nan) (Some Equal) ∷ an_ordering (comparison (neg nought) nought) (Some Less) ∷ []

abbrev pub numbers_tried : List Tried
numbers_tried =
    root_tried ++ constant_tried ++ var_tried ++ zero_tried ++ one_tried ++ value_tried ++ first_derivative_tried
    ++ second_derivative_tried ++ third_derivative_tried ++ fourth_derivative_tried ++ add_tried ++ sub_tried
    ++ mul_tried
    ++ div_tried ++ neg_tried ++ add_f64_tried ++ sub_f64_tried ++ mul_f64_tried ++ div_f64_tried
    ++ sub_from_tried ++ div_into_tried ++ sqrt_tried ++ rem_tried ++ rem_f64_tried ++ abs_tried ++ max_val_tried
    ++ min_val_tried ++ eq_tried ++ ne_tried ++ lt_tried ++ le_tried ++ gt_tried
    ++ ge_tried ++ partial_cmp_tried ++ eq_f64_tried ++ ne_f64_tried ++ lt_f64_tried ++ le_f64_tried
    ++ gt_f64_tried ++ ge_f64_tried ++ partial_cmp_f64_tried ++ of_tried

-- none of them is the rule's answer
abbrev pub NumbersTried : Type 0
NumbersTried = ruled_out numbers_tried ≡ true
