-- The doubles as whole numbers of the smallest one: each is an m below 2 ^ 53 times a power of two, so that from
-- 2 ^ (52 + k) on each is a multiple of 2 ^ k; and the number of units says which double it is. Assumes nothing.
use mathlib.Core.Path.{◌≡◌, refl, sym, ap, ◌∙◌, subst}
use Prim.Native.Nat.{ℕ, zero, suc, ◌+◌, ◌-◌, ◌*◌, ◌%◌, ◌^◌, ◌≤◌, ◌<◌}
use native.Mathlib.Nat.{le_trans, le_of_eq, lt_of_lt_of_le, lt_of_not-le, lt_irrefl, le_of_suc-le-suc, mul-one, mul_assoc, one-mul, zero-lt-suc, eq_of_mul-eq-mul_right, mul_left_comm, pow-succ', pow-suc, add-sub_cancel, le-add_left}
use native.Mathlib.Omega.{arith}
use mathlib.Core.Bool.{Bool, true, false, ◌&&◌, cond}
use lib.IntN.{ℤ, pos, negsuc}
use lib.Dec.{T, leb, ltb, eqb, ltb→lt, leb→le, eqb→eq, le→leb}
use lib.Arith.{lt→nleb, comp_comp}
use lib.Pow.{pow-add, pow_pos, pow_mono, pow-lt, shl_lt}
use lib.Ieee.{Float, nan, inf, fin, binary64, up, down, minus, fits}
use lib.Ieee.Fits.{and_l, and_r}
use lib.Ieee.Bits.{cond_no}
use Rattle.root.specs.Root.{Units}

-- ---- what `fits` says
one_low : (e : ℤ) → up e * down e ≡ 1 → down e ≤ 2 ^ 1074
one_low (pos k) h = pow_pos 1074
one_low (negsuc k) h = le_trans (le_of_eq (sym (one-mul (2 ^ suc k)) ∙ h)) (pow_pos 1074)

-- of a number that is not 0
record Fitting (m : ℕ) (e : ℤ) : Type 0 where
  is_odd : m % 2 ≡ 1
  short : m < 2 ^ 53
  low : down e ≤ 2 ^ 1074
  under_top : m * up e < 2 ^ 1024 * down e

fitting : (s : Bool) (m : ℕ) (e : ℤ) → T (fits binary64 (fin s (suc m) e)) → Fitting (suc m) e
unfolding fits
fitting s m e t =
    let a = eqb (suc m % 2) 1 in
    let b = ltb (suc m) (2 ^ 53) in
    let c = leb (down e) (2 ^ 1074) in
    let d = ltb (suc m * up e) (2 ^ 1024 * down e) in
    let abc = and_l (a && b && c) d t in
    let ab = and_l (a && b) c abc in
    record {
      is_odd = eqb→eq (suc m % 2) 1 (and_l a b ab);
      short = ltb→lt (suc m) (2 ^ 53) (and_r a b ab);
      low = leb→le (down e) (2 ^ 1074) (and_r (a && b) c abc);
      under_top = ltb→lt (suc m * up e) (2 ^ 1024 * down e) (and_r (a && b && c) d t);
    }

pub low_enough : (s : Bool) (m : ℕ) (e : ℤ) → T (fits binary64 (fin s m e)) → down e ≤ 2 ^ 1074
unfolding fits
low_enough s zero e t = one_low e (eqb→eq (up e * down e) 1 t)
low_enough s (suc m) e t = (fitting s m e t).low

pub short : (s : Bool) (m : ℕ) (e : ℤ) → T (fits binary64 (fin s m e)) → m < 2 ^ 53
short s zero e t = pow_pos 53
short s (suc m) e t = (fitting s m e t).short

pub is_odd : (s : Bool) (m : ℕ) (e : ℤ) → T (fits binary64 (fin s (suc m) e)) → suc m % 2 ≡ 1
is_odd s m e t = (fitting s m e t).is_odd

pub under_top : (s : Bool) (m : ℕ) (e : ℤ) → T (fits binary64 (fin s (suc m) e)) → suc m * up e < 2 ^ 1024 * down e
under_top s m e t = (fitting s m e t).under_top

-- ---- m * 2 ^ e, in units of 2 ^ -l
pow_le_back : (a l : ℕ) → 2 ^ a ≤ 2 ^ l → a ≤ l
pow_le_back a l h = le_of_suc-le-suc (lt_of_not-le (λ (g : suc l ≤ a). lt_irrefl (2 ^ l) (lt_of_lt_of_le (pow-lt g) h)))

below : (k l : ℕ) → suc k ≤ l → l - suc k < l
below k l h = omega arith

joined : (j k : ℕ) → k ≤ j → j - k + k ≡ j
joined j k h = omega arith

cond_yes : {X : Type 0} (b : Bool) (x y : X) → T b → cond b x y ≡ x
cond_yes true x y t = refl
cond_yes false x y t = absurd t

pub placed : (l m : ℕ) (e : ℤ) (a : ℕ) → down e ≤ 2 ^ l → m * up e * 2 ^ l ≡ a * down e → (j : ℕ) × (a ≡ m * 2 ^ j) × (minus j l ≡ e)
placed l m (pos k) a h v = (
  k + l,
  sym (mul-one a) ∙ sym v ∙ mul_assoc m (2 ^ k) (2 ^ l) ∙ ap (λ (z : ℕ). m * z) (sym (pow-add 2 k l)),
  cond_yes (leb l (k + l)) (pos (k + l - l)) (negsuc (l - suc (k + l))) (le→leb l (k + l) (le-add_left l k)) ∙ ap pos (add-sub_cancel k l),
)
placed l m (negsuc k) a h v =
    let le : suc k ≤ l = pow_le_back (suc k) l h in (
      l - suc k,
      eq_of_mul-eq-mul_right (2 ^ suc k) (pow_pos (suc k)) a (m * 2 ^ (l - suc k))
          (sym v
          ∙ ap (λ (z : ℕ). z * 2 ^ l) (mul-one m)
          ∙ ap (λ (z : ℕ). m * z) (ap (λ (z : ℕ). 2 ^ z) (sym (joined l (suc k) le)) ∙ pow-add 2 (l - suc k) (suc k))
          ∙ sym (mul_assoc m (2 ^ (l - suc k)) (2 ^ suc k))),
      cond_no (leb l (l - suc k)) (pos (l - suc k - l)) (negsuc (l - suc (l - suc k))) (lt→nleb l (l - suc k) (below k l le)) ∙ ap negsuc (comp_comp le),
    )

-- ---- from 2 ^ (52 + k) on, a double is a multiple of 2 ^ k
pub multiple : (k : ℕ) (y : Float) (b : ℕ) → T (fits binary64 y) → Units y b → 2 ^ (52 + k) ≤ b → (w : ℕ) × (b ≡ w * 2 ^ k)
multiple k nan b t u h = absurd u
multiple k (inf s) b t u h = absurd u
multiple k (fin s m e) b t u h =
    let p = placed 1074 m e b (low_enough s m e t) u.1 in
    let j = p.0 in
    let f : k ≤ j = reaches j p.1 in
    (m * 2 ^ (j - k), p.1 ∙ sym (mul_assoc m (2 ^ (j - k)) (2 ^ k) ∙ ap (λ (z : ℕ). m * z) (sym (pow-add 2 (j - k) k) ∙ ap (λ (z : ℕ). 2 ^ z) (joined j k f))))
  where
    more : (j : ℕ) → suc j ≤ k → 53 + j ≤ 52 + k
    more j g = omega arith

    reaches : (j : ℕ) → b ≡ m * 2 ^ j → k ≤ j
    reaches j v =
        le_of_suc-le-suc (lt_of_not-le (λ (g : suc j ≤ k).
        lt_irrefl b (lt_of_lt_of_le (subst (λ (z : ℕ). z < 2 ^ (53 + j)) (sym v) (shl_lt 53 j (short s m e t))) (le_trans (pow_mono (more j g)) h))))

-- ---- the units say which double it is
even_odd : (m t : ℕ) → m % 2 ≡ 1 → m ≡ 2 * t → ⊥
even_odd m t o h = omega arith

pub odd_pow : (m n a b : ℕ) → m % 2 ≡ 1 → n % 2 ≡ 1 → m * 2 ^ a ≡ n * 2 ^ b → (m ≡ n) × (a ≡ b)
odd_pow m n zero zero o p h = (sym (mul-one m) ∙ h ∙ mul-one n, refl)
odd_pow m n zero (suc b) o p h = absurd (even_odd m (n * 2 ^ b) o (sym (mul-one m) ∙ h ∙ ap (λ (x : ℕ). n * x) (pow-succ' 2 b) ∙ mul_left_comm n 2 (2 ^ b)))
odd_pow m n (suc a) zero o p h = absurd (even_odd n (m * 2 ^ a) p (sym (mul-one n) ∙ sym h ∙ ap (λ (x : ℕ). m * x) (pow-succ' 2 a) ∙ mul_left_comm m 2 (2 ^ a)))
odd_pow m n (suc a) (suc b) o p h =
    let r = odd_pow m n a b o p (eq_of_mul-eq-mul_right 2 (zero-lt-suc 1) (m * 2 ^ a) (n * 2 ^ b)
    (mul_assoc m (2 ^ a) 2 ∙ ap (λ (x : ℕ). m * x) (sym (pow-suc 2 a)) ∙ h ∙ ap (λ (x : ℕ). n * x) (pow-suc 2 b) ∙ sym (mul_assoc n (2 ^ b) 2))) in
    (r.0, ap suc r.1)

-- ---- every double that is finite and not negative is a whole number of units
in_units : (l m : ℕ) (e : ℤ) → down e ≤ 2 ^ l → (a : ℕ) × (m * up e * 2 ^ l ≡ a * down e)
in_units l m (pos k) h = (m * 2 ^ k * 2 ^ l, sym (mul-one (m * 2 ^ k * 2 ^ l)))
in_units l m (negsuc k) h =
    let le : suc k ≤ l = pow_le_back (suc k) l h in (
      m * 2 ^ (l - suc k),
      ap (λ (z : ℕ). z * 2 ^ l) (mul-one m)
          ∙ ap (λ (z : ℕ). m * z) (ap (λ (z : ℕ). 2 ^ z) (sym (joined l (suc k) le)) ∙ pow-add 2 (l - suc k) (suc k))
          ∙ sym (mul_assoc m (2 ^ (l - suc k)) (2 ^ suc k)),
    )

pub has_units : (m : ℕ) (e : ℤ) → T (fits binary64 (fin false m e)) → (a : ℕ) × Units (fin false m e) a
has_units m e t = let u = in_units 1074 m e (low_enough false m e t) in (u.0, (refl, u.1))
