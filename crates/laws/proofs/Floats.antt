-- Laws of the floats, over `lib.Ieee`, for any format. Assumes nothing: x and y are any floats, and need not fit the
-- format.
-- Either way round the exact sum or product is the same fraction with the same sign, and `round` is handed the same
-- one.
use Prim.Native.Nat.{ℕ, ◌+◌, ◌-◌, ◌*◌, ◌<◌, ◌≤◌}
use native.Mathlib.Omega.{arith}
use mathlib.Core.Path.{◌≡◌, refl, sym, ap, ◌∙◌}
use mathlib.Core.Bool.{Bool, true, false, not, cond}
use lib.Dec.{T, ltb, eqb, ltb→lt, nltb→le}
use lib.Ieee.{Float, nan, inf, fin, Format, unlike, up, down, round, add, sub, mul, neg}
use lib.Ieee as ieee
use Rattle.laws.specs.Floats.{FloatLaws}

-- ---- signs

twice_not : (s : Bool) → not (not s) ≡ s
twice_not true = refl
twice_not false = refl

unlike_exchanged : (s t : Bool) → unlike s t ≡ unlike t s
unlike_exchanged true true = refl
unlike_exchanged true false = refl
unlike_exchanged false true = refl
unlike_exchanged false false = refl

-- ---- whole numbers

plus_exchanged : (a b : ℕ) → a + b ≡ b + a
plus_exchanged a b = omega arith

times_exchanged : (a b : ℕ) → a * b ≡ b * a
times_exchanged a b = omega arith

-- ---- sums

-- Of unlike signs u = a - b or v = b - a is what is left, by which of a and b is below the other
left_over : (f : Format) (c u v : ℕ) (p q : Bool) → (T p → T q → ⊥) → (T (not p) → T (not q) → u ≡ v) → cond p (round f false v c) (round f q u c) ≡ cond q (round f true u c) (round f false v c)
left_over f c u v true true not_both level = absurd (not_both tt tt)
left_over f c u v true false not_both level = refl
left_over f c u v false true not_both level = refl
left_over f c u v false false not_both level = ap (λ w. round f false w c) (level tt tt)

not_both_below : (a b : ℕ) → T (ltb a b) → T (ltb b a) → ⊥
not_both_below a b s t = below (ltb→lt a b s) (ltb→lt b a t)
  where
    below : a < b → b < a → ⊥
    below g h = absurd (omega arith)

neither_below : (a b : ℕ) → T (not (ltb a b)) → T (not (ltb b a)) → a - b ≡ b - a
neither_below a b s t = level (nltb→le a b s) (nltb→le b a t)
  where
    level : b ≤ a → a ≤ b → a - b ≡ b - a
    level g h = omega arith

unlike_sum : (f : Format) (a b c : ℕ) → ieee.sum f true a false b c ≡ ieee.sum f false b true a c
unfolding ieee.sum
unlike_sum f a b c = left_over f c (a - b) (b - a) (ltb a b) (ltb b a) (not_both_below a b) (neither_below a b)

added : (f : Format) (s t : Bool) (a b c : ℕ) → ieee.sum f s a t b c ≡ ieee.sum f t b s a c
unfolding ieee.sum
added f true true a b c = ap (λ w. round f true w c) (plus_exchanged a b)
added f true false a b c = unlike_sum f a b c
added f false true a b c = sym (unlike_sum f b a c)
added f false false a b c = ap (λ w. round f false w c) (plus_exchanged a b)

sum_exchanged : (f : Format) (x y : Float) → add f x y ≡ add f y x
unfolding add
sum_exchanged f nan nan = refl
sum_exchanged f nan (inf t) = refl
sum_exchanged f nan (fin t n d) = refl
sum_exchanged f (inf s) nan = refl
sum_exchanged f (inf true) (inf true) = refl
sum_exchanged f (inf true) (inf false) = refl
sum_exchanged f (inf false) (inf true) = refl
sum_exchanged f (inf false) (inf false) = refl
sum_exchanged f (inf s) (fin t n d) = refl
sum_exchanged f (fin s m e) nan = refl
sum_exchanged f (fin s m e) (inf t) = refl
sum_exchanged f (fin s m e) (fin t n d) = added f s t (m * up e * down d) (n * up d * down e) (down e * down d) ∙ ap (λ c. ieee.sum f t (n * up d * down e) s (m * up e * down d) c) (times_exchanged (down e) (down d))

-- ---- products

multiplied : (f : Format) (s t : Bool) (a b c d : ℕ) → round f (unlike s t) (a * b) (c * d) ≡ round f (unlike t s) (b * a) (d * c)
multiplied f s t a b c d = rw (unlike_exchanged s t, times_exchanged a b, times_exchanged c d)

product_exchanged : (f : Format) (x y : Float) → mul f x y ≡ mul f y x
unfolding mul
product_exchanged f nan nan = refl
product_exchanged f nan (inf t) = refl
product_exchanged f nan (fin t n d) = refl
product_exchanged f (inf s) nan = refl
product_exchanged f (inf s) (inf t) = ap inf (unlike_exchanged s t)
product_exchanged f (inf s) (fin t n d) = ap (λ u. cond (eqb n 0) nan (inf u)) (unlike_exchanged s t)
product_exchanged f (fin s m e) nan = refl
product_exchanged f (fin s m e) (inf t) = ap (λ u. cond (eqb m 0) nan (inf u)) (unlike_exchanged s t)
product_exchanged f (fin s m e) (fin t n d) = multiplied f s t (m * up e) (n * up d) (down e) (down d)

-- ---- negations

negated_twice : (x : Float) → neg (neg x) ≡ x
unfolding neg
negated_twice nan = refl
negated_twice (inf s) = ap inf (twice_not s)
negated_twice (fin s m e) = ap (λ t. fin t m e) (twice_not s)

minus_is_plus_negated : (f : Format) (x y : Float) → sub f x y ≡ add f x (neg y)
unfolding sub
minus_is_plus_negated f x y = refl

pub float_laws : FloatLaws
float_laws = record { sum_exchanged = sum_exchanged; product_exchanged = product_exchanged; minus_is_plus_negated = minus_is_plus_negated; negated_twice = negated_twice }
