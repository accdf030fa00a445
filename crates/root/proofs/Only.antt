-- `Root` decides the result: a double has one square root. Assumes nothing.
use mathlib.Core.Path.{◌≡◌, refl, sym, ap, ◌∙◌, subst}
use Prim.Native.Nat.{ℕ, zero, suc, ◌+◌, ◌*◌, ◌^◌, ◌≤◌, ◌<◌}
use native.Mathlib.Nat.{lt_irrefl, mul-pos, zero-mul, one-mul, mul-one, zero-lt-suc, eq_of_mul-eq-mul_right, pow-succ', add_comm, le_antisymm, lt_of_not-le}
use native.Mathlib.Decide.{dec_le}
use native.Mathlib.Omega.{arith}
use mathlib.Core.Bool.{Bool, true, false}
use lib.IntN.{ℤ, pos, negsuc}
use lib.Dec.{T, eqb→eq}
use lib.Pow.{pow_pos}
use lib.Ieee.{Float, nan, inf, fin, binary64, up, down, minus, fits}
use lib.Ieee.Fits.{down_pos}
use Rattle.root.specs.Root.{Units, NearestRoot, Root}
use Rattle.root.proofs.Grid.{low_enough, is_odd, placed, odd_pow}

-- ---- a zero that fits is written with the exponent 0
two_up : (p : ℕ) → 0 < p → 2 * p ≡ 1 → ⊥
two_up p h e = omega arith

flat : (e : ℤ) → up e * down e ≡ 1 → e ≡ pos 0
flat (pos zero) h = refl
flat (pos (suc k)) h = absurd (two_up (2 ^ k) (pow_pos k) (sym (pow-succ' 2 k) ∙ sym (mul-one (2 ^ suc k)) ∙ h))
flat (negsuc k) h = absurd (two_up (2 ^ k) (pow_pos k) (sym (pow-succ' 2 k) ∙ sym (one-mul (2 ^ suc k)) ∙ h))

pub zero_exp : (s : Bool) (e : ℤ) → T (fits binary64 (fin s zero e)) → e ≡ pos 0
unfolding fits
zero_exp s e t = flat e (eqb→eq (up e * down e) 1 t)

no_units : (a m j k : ℕ) → a ≡ zero * 2 ^ j → a ≡ suc m * 2 ^ k → ⊥
no_units a m j k p q = lt_irrefl 0 (subst (λ (z : ℕ). 0 < z) (sym q ∙ p ∙ zero-mul (2 ^ j)) (mul-pos (zero-lt-suc m) (pow_pos k)))

-- ---- the units say which double it is
pub same_units : (r t : Float) (a : ℕ) → T (fits binary64 r) → T (fits binary64 t) → Units r a → Units t a → r ≡ t
same_units nan t a p q u v = absurd u
same_units (inf s) t a p q u v = absurd u
same_units (fin s m e) nan a p q u v = absurd v
same_units (fin s m e) (inf t) a p q u v = absurd v
same_units (fin s zero e) (fin t zero d) a p q u v = λ i. fin ((u.0 ∙ sym v.0) i) zero ((zero_exp s e p ∙ sym (zero_exp t d q)) i)
same_units (fin s zero e) (fin t (suc n) d) a p q u v =
    let x = placed 1074 zero e a (low_enough s zero e p) u.1 in
    let y = placed 1074 (suc n) d a (low_enough t (suc n) d q) v.1 in
    absurd (no_units a n x.0 y.0 x.1 y.1)
same_units (fin s (suc m) e) (fin t zero d) a p q u v =
    let x = placed 1074 (suc m) e a (low_enough s (suc m) e p) u.1 in
    let y = placed 1074 zero d a (low_enough t zero d q) v.1 in
    absurd (no_units a m y.0 x.0 y.1 x.1)
same_units (fin s (suc m) e) (fin t (suc n) d) a p q u v =
    let x = placed 1074 (suc m) e a (low_enough s (suc m) e p) u.1 in
    let y = placed 1074 (suc n) d a (low_enough t (suc n) d q) v.1 in
    let w = odd_pow (suc m) (suc n) x.0 y.0 (is_odd s m e p) (is_odd t n d q) (sym x.1 ∙ y.1) in
    λ i. fin ((u.0 ∙ sym v.0) i) (w.0 i) ((sym x.2 ∙ ap (λ (j : ℕ). minus j 1074) w.1 ∙ y.2) i)

-- a double is a whole number of units in one way
one_size : (x : Float) (a b : ℕ) → Units x a → Units x b → a ≡ b
one_size nan a b u v = absurd u
one_size (inf s) a b u v = absurd u
one_size (fin s m e) a b u v = eq_of_mul-eq-mul_right (down e) (down_pos e) a b (sym u.1 ∙ v.1)

clash : (x y : ℕ) → x < y → y < x → ⊥
clash x y h k = omega arith

nearest_only : (x r t : Float) → NearestRoot x r → NearestRoot x t → r ≡ t
nearest_only x r t p q =
    same_units r t p.a p.double q.double p.result (subst (λ (z : ℕ). Units t z) (sym (equal (dec_le p.a q.a) (dec_le q.a p.a))) q.result)
  where
    n_same : p.n ≡ q.n
    n_same = one_size x p.n q.n p.argument q.argument

    less : p.a < q.a → ⊥
    less l =
        clash (4 * (p.n * 2 ^ 1074)) ((p.a + q.a) * (p.a + q.a)) (p.over t q.a q.double q.result l)
        (subst (λ (z : ℕ). z * z < 4 * (p.n * 2 ^ 1074)) (add_comm q.a p.a)
        (subst (λ (z : ℕ). (q.a + p.a) * (q.a + p.a) < 4 * (z * 2 ^ 1074)) (sym n_same) (q.under r p.a p.double p.result l)))

    more : q.a < p.a → ⊥
    more l =
        clash (4 * (q.n * 2 ^ 1074)) ((q.a + p.a) * (q.a + p.a)) (q.over r p.a p.double p.result l)
        (subst (λ (z : ℕ). z * z < 4 * (q.n * 2 ^ 1074)) (add_comm p.a q.a)
        (subst (λ (z : ℕ). (p.a + q.a) * (p.a + q.a) < 4 * (z * 2 ^ 1074)) n_same (p.under t q.a q.double q.result l)))

    equal : Dec (p.a ≤ q.a) → Dec (q.a ≤ p.a) → p.a ≡ q.a
    equal (yes g) (yes h) = le_antisymm g h
    equal (no f) d = absurd (more (lt_of_not-le f))
    equal (yes g) (no f) = absurd (less (lt_of_not-le f))

pub only : (x r t : Float) → Root x r → Root x t → r ≡ t
only nan r t p q = p ∙ sym q
only (inf true) r t p q = p ∙ sym q
only (inf false) r t p q = p ∙ sym q
only (fin s zero e) r t p q = p ∙ sym q
only (fin true (suc m) e) r t p q = p ∙ sym q
only (fin false (suc m) e) r t p q = nearest_only (fin false (suc m) e) r t p q
