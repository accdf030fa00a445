-- 0.5 over a root is 1.0 over twice the root: a root is so far from the largest double that twice it is exact, and then
-- the two quotients are one fraction, rounded once. Assumes nothing.
use Prim.Native.Nat.{ℕ, zero, suc, ◌+◌, ◌*◌, ◌^◌, ◌≤◌, ◌<◌}
use native.Mathlib.Nat.{lt_of_lt_of_le, lt_of_not-le, lt_irrefl, mul-pos, mul_assoc, mul_right_comm, mul-le-mul, mul-lt-mul_of_pos_left, zero-lt-suc, zero-mul, add-zero, lt_trans, le_of_eq, le_trans}
use native.Mathlib.Omega.{arith}
use mathlib.Core.Path.{◌≡◌, refl, sym, ap, subst, ◌∙◌}
use mathlib.Core.Bool.{Bool, true, false, true≢false}
use borrow.Author.Tests.{ne_eqb}
use lib.Dec.{lit<, lit≤}
use lib.IntN.{ℤ, pos, negsuc}
use lib.Pow.{pow_pos, pow-add, shl_lt, pow_mono}
use lib.Ieee.{Float, nan, inf, fin, binary64, up, down, round, mul, div, fits}
use lib.Ieee.Fits.{up_pos, down_pos}
use lib.Ieee.Exact.{HasValue, round_exact}
use lib.Ieee.Scale.{round_same}
use Rattle.root.specs.Root.{Double, NearestRoot, Root}
use Rattle.root.specs.Value.{root}
use Rattle.root.proofs.Grid.{placed, low_enough, short}
use Rattle.root.proofs.Cases.{no_value}
use Rattle.root.proofs.Only.{zero_exp}
use Rattle.root.proofs.Value.{ceiling, root_is}

abbrev pub half : Float
half = fin false 1 (negsuc 0)

abbrev pub one : Float
one = fin false 1 (pos 0)

abbrev pub two : Float
two = fin false 1 (pos 1)

-- ---- the quotients of a number and of twice it

module _ (m : ℕ) (e : ℤ) where
  abbrev x : Float
  x = fin false (suc m) e

  -- twice x, as a fraction
  abbrev num : ℕ
  num = suc m * up e * (1 * 2)

  abbrev den : ℕ
  den = down e * 1

  size_pos : 0 < suc m * up e
  size_pos = mul-pos (zero-lt-suc m) (up_pos e)

  not_zero : (n : ℕ) → suc n ≡ 0 → ⊥
  not_zero n k = omega arith

  fraction : (n : ℕ) (d : ℤ) → suc n * up d * den ≡ num * down d → 1 * down e * (suc n * up d * 1) ≡ 1 * down d * (suc m * up e * 2)
  fraction n d v = turned (suc n * up d) (down e) (suc m * up e) (down d) v where
    turned : (p q r s : ℕ) → p * (q * 1) ≡ r * (1 * 2) * s → 1 * q * (p * 1) ≡ 1 * s * (r * 2)
    turned p q r s v = omega arith

  quotients : (y : Float) → HasValue y false num den → div binary64 half x ≡ div binary64 one y
  unfolding div
  quotients nan v = absurd v
  quotients (inf s) v = absurd v
  quotients (fin s zero d) v = absurd (no_value d num den (mul-pos size_pos (lit< tt)) v.1)
  quotients (fin true (suc n) d) v = absurd (true≢false v.0)
  quotients (fin false (suc n) d) v =
      rw (ne_eqb (suc m) 0 (not_zero m), ne_eqb (suc n) 0 (not_zero n))
      (round_same binary64 false (1 * down e) (suc m * up e * 2) (1 * down d) (suc n * up d * 1)
      (mul-pos size_pos (lit< tt)) (mul-pos (mul-pos (zero-lt-suc n) (up_pos d)) (lit< tt)) (fraction n d v.1))

  -- twice x is exact
  module _ (double : Double x) (a : ℕ) (units : suc m * up e * 2 ^ 1074 ≡ a * down e) (small : a < 2 ^ 2097) where
    twice : HasValue (round binary64 false num den) false num den
    twice =
        let p = placed 1074 (suc m) e a (low_enough false (suc m) e double) units in
        let j = p.0 in
        round_exact binary64 false num den (suc m) (j + 1) (mul-pos (down_pos e) (lit< tt)) (short false (suc m) e double)
        (subst (λ (z : ℕ). z < 2 ^ 2098) (doubled (suc m) j a p.1) (twice_small a small))
        (scaled (suc m * up e) (2 ^ 1074) a (down e) (suc m * 2 ^ (j + 1)) units (sym (doubled (suc m) j a p.1)))
      where
        doubled : (q j a : ℕ) → a ≡ q * 2 ^ j → a * 2 ≡ q * 2 ^ (j + 1)
        doubled q j a h = ap (λ (z : ℕ). z * 2) h ∙ mul_assoc q (2 ^ j) 2 ∙ ap (λ (z : ℕ). q * z) (sym (pow-add 2 j 1))

        twice_small : (a : ℕ) → a < 2 ^ 2097 → a * 2 < 2 ^ 2098
        twice_small a h = shl_lt 2097 1 h

        scaled : (r l a d w : ℕ) → r * l ≡ a * d → w ≡ a * 2 → r * (1 * 2) * l ≡ w * (d * 1)
        scaled r l a d w h k = mul_right_comm r (1 * 2) l ∙ ap (λ (z : ℕ). z * (1 * 2)) h ∙ moved a d ∙ ap (λ (z : ℕ). z * (d * 1)) (sym k) where
          moved : (a d : ℕ) → a * d * (1 * 2) ≡ a * 2 * (d * 1)
          moved a d = omega arith

    pub of_small : div binary64 half x ≡ div binary64 one (mul binary64 x two)
    unfolding mul
    of_small = quotients (round binary64 false num den) twice

-- ---- a root is small, and of a number above zero it is above zero

below_four : (n : ℕ) → n < 2 ^ 2098 → 4 * (n * 2 ^ 1074) < 2 ^ 3174
below_four n h = mul-lt-mul_of_pos_left (shl_lt 2098 1074 h) (lit< tt)

module _ (x r : Float) (near : NearestRoot x r) where
  -- r is nearer to the root than 0 is
  square_small : near.n < 2 ^ 2098 → 0 < near.a → near.a * near.a < 2 ^ 3174
  unfolding fits
  square_small small h =
      lt_trans (subst (λ (z : ℕ). z * z < 4 * (near.n * 2 ^ 1074)) (add-zero near.a) (near.under (fin false 0 (pos 0)) 0 tt (refl, refl) h))
      (below_four near.n small)

  root_small : near.n < 2 ^ 2098 → near.a < 2 ^ 2097
  root_small small =
      lt_of_not-le (λ (g : 2 ^ 2097 ≤ near.a).
      lt_irrefl (near.a * near.a) (lt_of_lt_of_le (square_small small (lt_of_lt_of_le (pow_pos 2097) g)) (le_trans (pow_mono {i = 3174} {j = 4194} (lit≤ tt)) (le_trans (le_of_eq (pow-add 2 2097 2097)) (mul-le-mul g g)))))

  -- r is nearer to it than the least double is
  not_nought : 0 < near.n → near.a ≡ 0 → ⊥
  unfolding fits
  not_nought n_pos z =
      least (near.n * 2 ^ 1074) (mul-pos n_pos (pow_pos 1074))
      (subst (λ (a : ℕ). 4 * (near.n * 2 ^ 1074) < (a + 1) * (a + 1)) z (near.over (fin false 1 (negsuc 1073)) 1 tt (refl, refl) (subst (λ (a : ℕ). a < 1) (sym z) (lit< tt))))
    where
      least : (k : ℕ) → 0 < k → 4 * k < (0 + 1) * (0 + 1) → ⊥
      least k p h = omega arith

-- ---- every case

abbrev pub Halved : Float → Type 0
Halved r = div binary64 half r ≡ div binary64 one (mul binary64 r two)

of_zero : (s : Bool) → Halved (fin s zero (pos 0))
unfolding div mul round
of_zero true = refl
of_zero false = refl

of_nan : Halved nan
unfolding div mul
of_nan = refl

of_infinity : Halved (inf false)
unfolding div mul
of_infinity = refl

above_zero : (m : ℕ) (e : ℤ) (n : ℕ) → suc m * up e * 2 ^ 1074 ≡ n * down e → 0 < n
above_zero m e zero v = absurd (lt_irrefl 0 (subst (λ (z : ℕ). 0 < z) (v ∙ zero-mul (down e)) (mul-pos (mul-pos (zero-lt-suc m) (up_pos e)) (pow_pos 1074))))
above_zero m e (suc n) v = zero-lt-suc n

no_units : (e : ℤ) (a : ℕ) → zero * up e * 2 ^ 1074 ≡ a * down e → a ≡ 0
no_units e zero v = refl
no_units e (suc a) v = absurd (no_value e (suc a) (2 ^ 1074) (zero-lt-suc a) v)

of_positive : (m : ℕ) (e : ℤ) (r : Float) → Double (fin false (suc m) e) → NearestRoot (fin false (suc m) e) r → Halved r
of_positive m e nan d near = absurd near.result
of_positive m e (inf s) d near = absurd near.result
of_positive m e (fin s zero k) d near =
    absurd (not_nought (fin false (suc m) e) (fin s zero k) near (above_zero m e near.n near.argument.1) (no_units k near.a near.result.1))
of_positive m e (fin true (suc q) k) d near = absurd (true≢false near.result.0)
of_positive m e (fin false (suc q) k) d near =
    of_small q k near.double near.a near.result.1 (root_small (fin false (suc m) e) (fin false (suc q) k) near (ceiling m e near.n d near.argument.1))

by_root : (x r : Float) → Double x → Root x r → Halved r
by_root nan r d h = subst Halved (sym h) of_nan
by_root (inf true) r d h = subst Halved (sym h) of_nan
by_root (inf false) r d h = subst Halved (sym h) of_infinity
by_root (fin true (suc m) e) r d h = subst Halved (sym h) of_nan
by_root (fin s zero e) r d h = subst Halved (sym h) (subst (λ (k : ℤ). Halved (fin s zero k)) (sym (zero_exp s e d)) (of_zero s))
by_root (fin false (suc m) e) r d near = of_positive m e r d near

pub halved : (x : Float) → Double x → Halved (root x)
halved x d = by_root x (root x) d (root_is x d)
