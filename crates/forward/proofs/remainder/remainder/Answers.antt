-- NaN, what has no remainder, an unbounded divisor; else by the sizes, with the first number's sign.
use mathlib.Core.Path.{◌≡◌, sym, ap, ◌∙◌, subst}
use mathlib.Core.Bool.{Bool, true}
use borrow.Author.Tests.{lt-leb, le-leb}
use lib.Dec.{T}
use lib.Ieee.{Float, binary64, fits, of_bits}
use Rattle.root.proofs.Cases.{no_nan}
use Rattle.forward.proofs.Rest.{signed, no_nan_left, no_nan_right, finite_size, of_nan, of_no_rest, of_unbounded, of_rest}
use Rattle.forward.proofs.remainder.remainder.Goals as goal

-- what owning an `f64` tells: the format holds it
held : (x : Float) → fits binary64 x ≡ true → T (fits binary64 x)
held x h = subst T (sym h) tt

pub returns-then-is_nan : goal.returns-then-is_nan
returns-then-is_nan c = of_nan c.args.x c.args.y (rw (c.is_nan.ensures.value, c.is_nan-2.ensures.value) at c.if-is_nan.true)

pub float_to_bits-bits : goal.float_to_bits-bits
float_to_bits-bits c = no_nan_left c.args.x c.args.y (rw (c.is_nan.ensures.value, c.is_nan-2.ensures.value) at c.if-is_nan.false)

pub float_to_bits-divisor : goal.float_to_bits-divisor
float_to_bits-divisor c = no_nan_right c.args.x c.args.y (rw (c.is_nan.ensures.value, c.is_nan-2.ensures.value) at c.if-is_nan.false)

pub returns-then-size-divisor : goal.returns-then-size-divisor
returns-then-size-divisor c = of_no_rest c.args.x c.args.y (held c.args.x c.well_formed.0.1) (held c.args.y c.well_formed.1.0.1) c.if-size-divisor.true

pub returns-then-divisor-ge-INFINITY : goal.returns-then-divisor-ge-INFINITY
returns-then-divisor-ge-INFINITY c =
    of_unbounded c.args.x c.args.y (held c.args.x c.well_formed.0.1) (held c.args.y c.well_formed.1.0.1) (no_nan_right c.args.x c.args.y (rw (c.is_nan.ensures.value, c.is_nan-2.ensures.value) at c.if-is_nan.false)) (finite_size _ _ c.if-size-divisor.false).0 c.if-divisor-ge-INFINITY.true

pub float_from_bits-rest : goal.float_from_bits-rest
float_from_bits-rest c = no_nan c.rest_of-rest.result c.rest_of-rest.ensures.below

pub returns-then-bits-lt-SIGN : goal.returns-then-bits-lt-SIGN
returns-then-bits-lt-SIGN c =
    let r = c.rest_of-rest in
    sym
    (of_rest c.args.x c.args.y r.result (held c.args.x c.well_formed.0.1) (held c.args.y c.well_formed.1.0.1) r.ensures
    ∙ ap (λ (s : Bool). signed s (of_bits binary64 r.result)) (lt-leb _ _ c.if-bits-lt-SIGN.true))

pub returns-else-bits-lt-SIGN : goal.returns-else-bits-lt-SIGN
returns-else-bits-lt-SIGN c =
    let r = c.rest_of-rest in
    sym
    (of_rest c.args.x c.args.y r.result (held c.args.x c.well_formed.0.1) (held c.args.y c.well_formed.1.0.1) r.ensures
    ∙ ap (λ (s : Bool). signed s (of_bits binary64 r.result)) (le-leb _ _ c.if-bits-lt-SIGN.false))
