-- Case by case; that `Root` holds says what `root` is.
use native.Mathlib.Omega.{arith}
use mathlib.Core.Path.{◌≡◌, refl, sym, subst, ◌∙◌}
use mathlib.Core.Bool.{true}
use lib.Dec.{T}
use lib.Ieee.{Float, nan, binary64, fits, to_bits, of_bits}
use lib.Ieee.Bits.{to_bits-lt, of_bits-to_bits}
use Rattle.root.specs.Root.{Root}
use Rattle.root.proofs.Cases.{of_nan, Own, of_own, between, not_minus_zero, of_negative, no_nan, of_positive}
use Rattle.root.proofs.Value.{by_value}
use Rattle.root.proofs.sqrt.Goals.{Then-is_nan, In-0, Then-b-gt-INFINITY, After-root_pattern}
use Rattle.root.proofs.sqrt.Goals as goal

the_nan : of_bits binary64 0x7ff8_0000_0000_0000 ≡ nan
unfolding of_bits
the_nan = refl

-- what owning an `f64` tells: the format holds it
held : (x : Float) → fits binary64 x ≡ true → T (fits binary64 x)
held x h = subst T (sym h) tt

-- what is said of a pattern is said of x
back : (x r : Float) → T (fits binary64 x) → Root (of_bits binary64 (to_bits binary64 x)) r → Root x r
back x r h = subst (λ (z : Float). Root z r) (of_bits-to_bits binary64 x h)

itself_nan : (c : Then-is_nan) → Root c.args.x c.args.x
itself_nan c = of_nan c.args.x (sym c.is_nan.ensures.value ∙ c.if-is_nan.true)

itself_own : (c : In-0) → Root c.args.x c.args.x
itself_own c = of_own c.args.x (held c.args.x c.well_formed.0.1) c.in-0.is

none_below : (c : Then-b-gt-INFINITY) → Root c.args.x (of_bits binary64 0x7ff8_0000_0000_0000)
none_below c =
    let x = c.args.x in
    let h = held x c.well_formed.0.1 in
    let not_own : Own (to_bits binary64 x) → ⊥ = grind arith in
    subst (λ (r : Float). Root x r) (sym the_nan)
    (back x nan h (of_negative (to_bits binary64 x) c.if-b-gt-INFINITY.true (not_minus_zero _ not_own) (to_bits-lt binary64 x h)))

nearest : (c : After-root_pattern) → Root c.args.x (of_bits binary64 c.root_pattern.result)
nearest c =
    let x = c.args.x in
    let not_own : Own (to_bits binary64 x) → ⊥ = grind arith in
    let k = between _ not_own c.if-b-gt-INFINITY.false in
    back x _ (held x c.well_formed.0.1) (of_positive (to_bits binary64 x) _ k.0 k.1 c.root_pattern.ensures.0)

pub float_from_bits-result : goal.float_from_bits-result
float_from_bits-result c = no_nan c.root_pattern.result c.root_pattern.ensures.1

pub returns-then-is_nan-clause-root : goal.returns-then-is_nan-clause-root
returns-then-is_nan-clause-root c = itself_nan c

pub returns-then-is_nan-clause-value : goal.returns-then-is_nan-clause-value
returns-then-is_nan-clause-value c = by_value c.args.x _ (held c.args.x c.well_formed.0.1) (itself_nan c)

pub returns-in-0-clause-root : goal.returns-in-0-clause-root
returns-in-0-clause-root c = itself_own c

pub returns-in-0-clause-value : goal.returns-in-0-clause-value
returns-in-0-clause-value c = by_value c.args.x _ (held c.args.x c.well_formed.0.1) (itself_own c)

pub returns-in_default-clause-root : goal.returns-in_default-clause-root
returns-in_default-clause-root c = none_below c

pub returns-in_default-clause-value : goal.returns-in_default-clause-value
returns-in_default-clause-value c = by_value c.args.x _ (held c.args.x c.well_formed.0.1) (none_below c)

pub returns-in_default-2-clause-root : goal.returns-in_default-2-clause-root
returns-in_default-2-clause-root c = nearest c

pub returns-in_default-2-clause-value : goal.returns-in_default-2-clause-value
returns-in_default-2-clause-value c = by_value c.args.x _ (held c.args.x c.well_formed.0.1) (nearest c)
