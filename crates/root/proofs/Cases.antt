-- The cases of `sqrt`: NaN, the zeros, the infinities, the negatives, and the positive patterns. Assumes nothing.
use mathlib.Core.Logic.{◌⊎◌, inl, inr}
use mathlib.Core.Path.{◌≡◌, refl, sym, ap, ◌∙◌, subst}
use Prim.Native.Nat.{ℕ, zero, suc, ◌+◌, ◌*◌, ◌/◌, ◌%◌, ◌^◌, ◌≤◌, ◌<◌}
use native.Mathlib.Nat.{lt_irrefl, mul-pos, zero-mul, pos_of_ne-zero}
use native.Mathlib.Omega.{arith}
use mathlib.Core.Bool.{Bool, true, false, not, cond, true≢false, false≢true}
use lib.IntN.{ℤ}
use lib.Dec.{T, leb, eqb, leb→le, nleb→lt, eqb→eq, ltb→lt, not_T}
use lib.Arith.{lt_of_le-ne}
use lib.Pow.{pow_pos}
use lib.Ieee.{Float, nan, inf, fin, binary64, up, down, odd, ne, fits, is_nan, nan_bits, of_fields, of_bits, to_bits}
use lib.Ieee.Bits.{of_bits-to_bits, nan_bits_above}
use lib.Ieee.Fits.{down_pos}
use lib.Ieee.Exact.{HasValue, odd_sign}
use Rattle.root.specs.Root.{Units, NearestRoot, Root}
use Rattle.root.proofs.Patterns.{of_bits_is, subnormal, normal}

-- ---- NaN
pub of_nan : (x : Float) → is_nan x ≡ true → Root x x
unfolding is_nan
of_nan nan e = refl
of_nan (inf s) e = absurd (false≢true e)
of_nan (fin s m d) e = absurd (false≢true e)

-- for a test that is written out, as crate `forward` has it
pub not_nan : (x : Float) → ne x x ≡ false → T (not (is_nan x))
unfolding ne is_nan
not_nan nan e = absurd (true≢false e)
not_nan (inf s) e = tt
not_nan (fin s m d) e = tt

-- ---- a pattern that the code names
read_back : (x : Float) (b : ℕ) → T (fits binary64 x) → to_bits binary64 x ≡ b → x ≡ of_bits binary64 b
read_back x b t e = sym (of_bits-to_bits binary64 x t) ∙ ap (λ (z : ℕ). of_bits binary64 z) e

itself : (x : Float) (b : ℕ) → T (fits binary64 x) → to_bits binary64 x ≡ b → Root (of_bits binary64 b) (of_bits binary64 b) → Root x x
itself x b t e r = subst (λ (z : Float). Root z z) (sym (read_back x b t e)) r

-- the patterns of what is its own root
abbrev pub Own : ℕ → Type 0
Own b = (b ≡ 0) ⊎ (b ≡ 0x7ff0_0000_0000_0000) ⊎ (b ≡ 0x8000_0000_0000_0000)

pub of_own : (x : Float) → T (fits binary64 x) → Own (to_bits binary64 x) → Root x x
unfolding of_bits
of_own x t (inl e) = itself x 0 t e refl
of_own x t (inr (inl e)) = itself x 0x7ff0_0000_0000_0000 t e refl
of_own x t (inr (inr e)) = itself x 0x8000_0000_0000_0000 t e refl

-- a pattern that is none of these and not above that of +infinity
pub between : (b : ℕ) → (Own b → ⊥) → b ≤ 0x7ff0_0000_0000_0000 → (0 < b) × (b < 0x7ff0_0000_0000_0000)
between b n h = (pos_of_ne-zero (λ e. n (inl e)), lt_of_le-ne h (λ e. n (inr (inl e))))

pub not_minus_zero : (b : ℕ) → (Own b → ⊥) → b ≡ 0x8000_0000_0000_0000 → ⊥
not_minus_zero b n e = n (inr (inr e))

pub no_value : (e : ℤ) (a c : ℕ) → 0 < a → zero * up e * c ≡ a * down e → ⊥
no_value e a c h v = lt_irrefl 0 (subst (λ (z : ℕ). 0 < z) (sym v ∙ ap (λ (z : ℕ). z * c) (zero-mul (up e)) ∙ zero-mul c) (mul-pos h (down_pos e)))

below_zero : (x : Float) (a c : ℕ) → HasValue x true a c → 0 < a → Root x nan
below_zero nan a c v h = absurd v
below_zero (inf s) a c v h = absurd v
below_zero (fin false m e) a c v h = absurd (false≢true v.0)
below_zero (fin true zero e) a c v h = absurd (no_value e a c h v.1)
below_zero (fin true (suc m) e) a c v h = refl

of_odd : (q k : ℕ) → 0 < q → Root (odd 53 true q k 1074) nan
of_odd q k h = below_zero (odd 53 true q k 1074) (q * 2 ^ k) (2 ^ 1074) (odd_sign 53 true q k 1074) (mul-pos h (pow_pos k))

wide : (t : ℕ) → 0 < 0x10_0000_0000_0000 + t
wide t = omega arith

minus_fields : (x t : ℕ) → 0 < x + t → Root (of_fields binary64 true x t) nan
unfolding of_fields
minus_fields zero t h = of_odd t 0 (let g : 0 < t = omega arith in g)
minus_fields (suc x) t h = go (eqb (suc x) 2047) (eqb t 0)
  where
    go : (a b : Bool) → Root (cond a (cond b (inf true) nan) (odd 53 true (0x10_0000_0000_0000 + t) x 1074)) nan
    go true true = refl
    go true false = refl
    go false b = of_odd (0x10_0000_0000_0000 + t) x (wide t)

plus_fields : (x t : ℕ) → x ≡ 2047 → 0 < t → Root (of_fields binary64 false x t) nan
unfolding of_fields
plus_fields x zero e h = absurd (lt_irrefl 0 h)
plus_fields x (suc t) e h = subst (λ (z : ℕ). Root (of_fields binary64 false z (suc t)) nan) (sym e) (go (eqb (suc t) 0) (eqb→eq (suc t) 0))
  where
    clash : suc t ≡ 0 → ⊥
    clash z = omega arith

    go : (b : Bool) → (T b → suc t ≡ 0) → Root (cond b (inf false) nan) nan
    go true z = absurd (clash (z tt))
    go false z = refl

pub of_negative : (b : ℕ) → 0x7ff0_0000_0000_0000 < b → (b ≡ 0x8000_0000_0000_0000 → ⊥) → b < 2 ^ 64 → Root (of_bits binary64 b) nan
of_negative b h k l =
    subst (λ (v : Float). Root v nan) (sym (of_bits_is b)) (go (leb 0x8000_0000_0000_0000 b) (leb→le 0x8000_0000_0000_0000 b) (nleb→lt 0x8000_0000_0000_0000 b))
  where
    above : 0x8000_0000_0000_0000 ≤ b → 0 < b % 0x8000_0000_0000_0000 / 0x10_0000_0000_0000 + b % 0x10_0000_0000_0000
    above g = strict (other g)
      where
        other : 0x8000_0000_0000_0000 ≤ b → 0x8000_0000_0000_0000 < b
        other g = lt_of_le-ne g (λ (e : 0x8000_0000_0000_0000 ≡ b). k (sym e))

        strict : 0x8000_0000_0000_0000 < b → 0 < b % 0x8000_0000_0000_0000 / 0x10_0000_0000_0000 + b % 0x10_0000_0000_0000
        strict g = omega arith

    field : b < 0x8000_0000_0000_0000 → b % 0x8000_0000_0000_0000 / 0x10_0000_0000_0000 ≡ 2047
    field g = omega arith

    digits : b < 0x8000_0000_0000_0000 → 0 < b % 0x10_0000_0000_0000
    digits g = omega arith

    go : (s : Bool) → (T s → 0x8000_0000_0000_0000 ≤ b) → (T (not s) → b < 0x8000_0000_0000_0000)
        → Root (of_fields binary64 s (b % 0x8000_0000_0000_0000 / 0x10_0000_0000_0000) (b % 0x10_0000_0000_0000)) nan
    go true p q = minus_fields (b % 0x8000_0000_0000_0000 / 0x10_0000_0000_0000) (b % 0x10_0000_0000_0000) (above (p tt))
    go false p q = plus_fields (b % 0x8000_0000_0000_0000 / 0x10_0000_0000_0000) (b % 0x10_0000_0000_0000) (field (q tt)) (digits (q tt))

-- ---- the positive patterns
pub no_nan : (r : ℕ) → r < 0x7ff0_0000_0000_0000 → T (not (nan_bits binary64 r))
no_nan r h =
    not_T (nan_bits binary64 r) (λ (t : T (nan_bits binary64 r)).
    clash (ltb→lt 0x7ff0_0000_0000_0000 (r % 0x8000_0000_0000_0000) (subst T (nan_bits_above binary64 r) t)))
  where
    clash : 0x7ff0_0000_0000_0000 < r % 0x8000_0000_0000_0000 → ⊥
    clash g = omega arith

above_zero : (x r : Float) (a : ℕ) → Units x a → 0 < a → NearestRoot x r → Root x r
above_zero nan r a v h n = absurd v
above_zero (inf s) r a v h n = absurd v
above_zero (fin true m e) r a v h n = absurd (true≢false v.0)
above_zero (fin false zero e) r a v h n = absurd (no_value e a (2 ^ 1074) h v.1)
above_zero (fin false (suc m) e) r a v h n = n

pub of_positive : (b : ℕ) (r : Float) → 0 < b → b < 0x7ff0_0000_0000_0000 → NearestRoot (of_bits binary64 b) r → Root (of_bits binary64 b) r
of_positive b r h k n = go (b / 0x10_0000_0000_0000) refl
  where
    low : b / 0x10_0000_0000_0000 ≡ 0 → 0 < b % 0x10_0000_0000_0000
    low e = omega arith

    go : (f : ℕ) → b / 0x10_0000_0000_0000 ≡ f → Root (of_bits binary64 b) r
    go zero e = above_zero (of_bits binary64 b) r (b % 0x10_0000_0000_0000) (subnormal b k e) (low e) n
    go (suc f) e =
        above_zero (of_bits binary64 b) r ((0x10_0000_0000_0000 + b % 0x10_0000_0000_0000) * 2 ^ f) (normal b f k e) (mul-pos (wide (b % 0x10_0000_0000_0000)) (pow_pos f)) n
