-- The function `root` gives what `Root` asks. Assumes nothing.
use mathlib.Core.Path.{◌≡◌, refl, sym, ap, ◌∙◌, subst}
use mathlib.Core.Logic.{inl, inr}
use Prim.Native.Nat.{ℕ, zero, suc, ◌+◌, ◌-◌, ◌*◌, ◌/◌, ◌%◌, ◌^◌, ◌≤◌, ◌<◌, zero-le, compare, Ordering}
use native.Mathlib.Nat.{le_trans, le_of_eq, lt_of_lt_of_le, lt_of_le_of_lt, lt_of_not-le, not-le_of_lt, eq-or-lt_of_le, zero-lt-suc, mul-pos, mul_assoc, mul_comm, mul_left_comm, mul_right_comm, mul-le-mul, mul-le-mul_right, mul-lt-mul_of_pos_right, le_of_mul-le-mul_right, lt_of_mul-lt-mul_right, mul-div_cancel, div-lt_iff_lt-mul, le-div_iff_mul-le, div-add-mod', mod-lt, pow-suc, pow-le-pow_left}
use native.Mathlib.Omega.{arith}
use mathlib.Core.Bool.{Bool, true, false, not, cond}
use lib.Dec.{T, leb, is_le, compare_is_eq, eqb, leb→le, nleb→lt, eqb→eq, eqb_refl, lit≤}
use lib.Arith.{lt_of_le-ne}
use lib.Pow.{pow-add, pow_pos, pow_mono, shl_lt}
use lib.IntN.{ℤ}
use lib.Ieee.{Float, nan, inf, fin, binary64, up, down, fits, size, nearest, round}
use lib.Ieee.Fits.{down_pos, round-fits}
use lib.Ieee.Digits.{size-lt, size_reaches}
use lib.Ieee.Nearest.{closest, closest_same, nearest-ge}
use lib.Ieee.Scale.{grid, round_val}
use Rattle.root.specs.Root.{Units, NearestRoot, Root}
use Rattle.root.specs.Value.{whole_root, rounded, root}
use Rattle.root.proofs.Squares.{over_at, under_low, under_high, odd_squared, scaled}
use Rattle.root.proofs.Halves.{root_small, root_large}
use Rattle.root.proofs.Grid.{odd_pow, has_units, placed, low_enough, is_odd, short, under_top}
use Rattle.root.proofs.Answer.{next_up, next_down}
use Rattle.root.proofs.Only.{only}

-- ---- the whole part of a root
root_of : (k n : ℕ) → n < 4 ^ k → (whole_root k n * whole_root k n ≤ n) × (n < (whole_root k n + 1) * (whole_root k n + 1))
unfolding whole_root
root_of zero n h = (zero-le, h)
root_of (suc k) n h =
    let t = whole_root k (n / 4) in
    let r = root_of k (n / 4) ((div-lt_iff_lt-mul (zero-lt-suc 3)).1 (subst (λ (z : ℕ). n < z) (pow-suc 4 k) h)) in
    go t r.0 r.1 (leb ((2 * t + 1) * (2 * t + 1)) n) (leb→le ((2 * t + 1) * (2 * t + 1)) n) (nleb→lt ((2 * t + 1) * (2 * t + 1)) n)
  where
    go : (t : ℕ) → t * t ≤ n / 4 → n / 4 < (t + 1) * (t + 1) → (b : Bool) → (T b → (2 * t + 1) * (2 * t + 1) ≤ n) → (T (not b) → n < (2 * t + 1) * (2 * t + 1))
        → (cond b (2 * t + 1) (2 * t) * cond b (2 * t + 1) (2 * t) ≤ n) × (n < (cond b (2 * t + 1) (2 * t) + 1) * (cond b (2 * t + 1) (2 * t) + 1))
    go t l u true y x = (y tt, omega arith)
    go t l u false y x = (omega arith, x tt)

pub whole_root_so : (n : ℕ) → (whole_root (size n) n * whole_root (size n) n ≤ n) × (n < (whole_root (size n) n + 1) * (whole_root (size n) n + 1))
whole_root_so n = root_of (size n) n (lt_of_lt_of_le (size-lt n) (pow-le-pow_left (lit≤ tt) (size n)))

-- ---- what `compare` says
abbrev Cmp : Ordering → ℕ → ℕ → Type 0
Cmp Ordering.lt a b = a < b
Cmp Ordering.eq a b = a ≡ b
Cmp Ordering.gt a b = b < a

cmp : (a b : ℕ) → Cmp (compare a b) a b
cmp a b = go (compare a b) (leb→le a b) (nleb→lt a b) (eqb→eq a b) (λ (e : a ≡ b). subst (λ (x : ℕ). T (eqb a x)) e (eqb_refl a))
  where
    go : (o : Ordering) → (T (is_le o) → a ≤ b) → (T (not (is_le o)) → b < a) → (T (compare_is_eq o) → a ≡ b) → (a ≡ b → T (compare_is_eq o)) → Cmp o a b
    go Ordering.lt h k e n = lt_of_le-ne (h tt) n
    go Ordering.eq h k e n = e tt
    go Ordering.gt h k e n = k tt

-- ---- an odd number of halves, rounded to a multiple of 4 g: there is no tie
record Near (s g q : ℕ) : Type 0 where
  low : 2 * q * g ≤ s + g
  high : s + 1 ≤ (2 * q + 1) * g

near_at : (s g p r : ℕ) (o : Ordering) → p * (4 * g) + r ≡ 2 * s + 1 → r < 4 * g → Cmp o (r * 2) (4 * g) → Near s g (nearest p o)
near_at s g p r Ordering.lt e h c = record { low = omega arith; high = omega arith }
near_at s g p r Ordering.eq e h c =
    let f : r ≡ 2 * g = omega arith in
    absurd (parity (p * g) g s (ap (λ (z : ℕ). z + 2 * g) (sym (mul_left_comm p 4 g)) ∙ ap (λ (z : ℕ). p * (4 * g) + z) (sym f) ∙ e))
  where
    parity : (w g s : ℕ) → 4 * w + 2 * g ≡ 2 * s + 1 → ⊥
    parity w g s e = omega arith
near_at s g p r Ordering.gt e h c = record { low = omega arith; high = omega arith }

near : (s g : ℕ) → 0 < g → Near s g (closest (2 * s + 1) (4 * g))
near s g h =
    let t = 2 * s + 1 in
    let d : 0 < 4 * g = omega arith in
    near_at s g (t / (4 * g)) (t % (4 * g)) (compare (t % (4 * g) * 2) (4 * g)) (div-add-mod' t (4 * g)) (mod-lt t d) (cmp (t % (4 * g) * 2) (4 * g))

-- ---- how many digits `round` drops of (2 s + 1) / 2 ^ 593, for an s of more than 55 digits
regroup : (a b c d g : ℕ) → a ≡ b * c * d → a * g ≡ b * (c * g) * d
regroup a b c d g e = ap (λ (z : ℕ). z * g) e ∙ simp (mul_assoc, mul_comm)

spread : (s : ℕ) → 2 ^ 55 ≤ s → (i : ℕ) × (size ((2 * s + 1) * 2 ^ 481) - 53 ≡ 483 + i) × (2 ^ 52 * (4 * 2 ^ i) ≤ 2 * s + 1)
spread s h = (
  size w - 53 - 483,
  dropped (size w) size_big,
  le_of_mul-le-mul_right
      (le_trans (le_of_eq (sym (ap (λ (z : ℕ). 2 ^ z) (last (size w) size_big) ∙ pow-add 2 535 (size w - 53 - 483) ∙ regroup (2 ^ 535) (2 ^ 52) 4 (2 ^ 481) (2 ^ (size w - 53 - 483)) refl)))
      (size_reaches w (size w - 1) (below (size w) size_big)))
      (pow_pos 481),
)
  where
    w : ℕ
    w = (2 * s + 1) * 2 ^ 481

    t_big : (s : ℕ) → 2 ^ 55 ≤ s → 2 ^ 56 ≤ 2 * s + 1
    t_big s h = omega arith

    size_big : 538 ≤ size w
    size_big =
        lt_of_not-le (λ (f : size w ≤ 537).
        not-le_of_lt (lt_of_lt_of_le (size-lt w) (pow_mono f)) (le_trans (le_of_eq (pow-add 2 56 481)) (mul-le-mul_right (2 ^ 481) (t_big s h))))

    dropped : (z : ℕ) → 538 ≤ z → z - 53 ≡ 483 + (z - 53 - 483)
    dropped z h = omega arith

    last : (z : ℕ) → 538 ≤ z → z - 1 ≡ 535 + (z - 53 - 483)
    last z h = omega arith

    below : (z : ℕ) → 538 ≤ z → z - 1 < z
    below z h = omega arith

-- ---- the units of what `round` gives
grid_is : (t i : ℕ) → size (t * 2 ^ 481) - 53 ≡ 483 + i → grid binary64 t (2 ^ 593) ≡ closest t (4 * 2 ^ i) * 2 ^ (483 + i)
grid_is t i e =
    let n = t * 2 ^ 1074 in
    let d : size (n / 2 ^ 593) - 53 ≡ 483 + i = ap (λ (z : ℕ). size z - 53) (ap (λ (z : ℕ). z / 2 ^ 593) (sym (mul_assoc t (2 ^ 481) (2 ^ 593))) ∙ mul-div_cancel (t * 2 ^ 481) (pow_pos 593)) ∙ e in
    ap (λ (z : ℕ). closest n (2 ^ 593 * 2 ^ z) * 2 ^ z) d
    ∙ ap (λ (z : ℕ). z * 2 ^ (483 + i))
    (closest_same n (2 ^ 593 * 2 ^ (483 + i)) t (4 * 2 ^ i) (mul-pos (pow_pos 593) (pow_pos (483 + i))) (mul-pos (zero-lt-suc 3) (pow_pos i))
    (mul_assoc t (2 ^ 1074) (4 * 2 ^ i) ∙ ap (λ (z : ℕ). t * z) (same (2 ^ 1074) 4 (2 ^ 593) (2 ^ 483) (2 ^ i) refl ∙ ap (λ (z : ℕ). 2 ^ 593 * z) (sym (pow-add 2 483 i)))))
  where
    same : (a b c d g : ℕ) → a * b ≡ c * d → a * (b * g) ≡ c * (d * g)
    same a b c d g f = sym (mul_assoc a b g) ∙ ap (λ (z : ℕ). z * g) f ∙ mul_assoc c d g

-- ---- no tie: an odd square of more than 53 digits is no m of at most 53 with zeros after it
no_tie : (y m j k : ℕ) → y % 2 ≡ 1 → m % 2 ≡ 1 → m < 2 ^ 53 → 2 ^ 53 ≤ y → y * y * (2 ^ k * 2 ^ k) ≡ 4 * (m * 2 ^ j * 2 ^ 1074) → ⊥
no_tie y m j k o p h l e =
    let r = odd_pow (y * y) m (k + k) (j + 1076) (odd_squared y o) p
    (ap (λ (z : ℕ). y * y * z) (pow-add 2 k k) ∙ e ∙ mul_comm 4 (m * 2 ^ j * 2 ^ 1074) ∙ mul_assoc (m * 2 ^ j) (2 ^ 1074) 4 ∙ mul_assoc m (2 ^ j) (2 ^ 1074 * 4) ∙ ap (λ (z : ℕ). m * z) (sym (pow-add 2 j 1076))) in
    let a : 2 ^ 53 * 2 ^ 53 ≤ y * y = mul-le-mul l l in
    clash (y * y) m r.0 h a
  where
    clash : (x m : ℕ) → x ≡ m → m < 2 ^ 53 → 2 ^ 53 * 2 ^ 53 ≤ x → ⊥
    clash x m e h a = omega arith

-- ---- the whole
rounded_is : (n : ℕ) → rounded n ≡ round binary64 false (2 * whole_root (size (n * 2 ^ 110)) (n * 2 ^ 110) + 1) (2 ^ 593)
unfolding rounded
rounded_is n = refl

pub rounded_root : (x : Float) (n m j : ℕ) → Units x n → n ≡ m * 2 ^ j → m % 2 ≡ 1 → m < 2 ^ 53 → 0 < n → n < 2 ^ 2098 → NearestRoot x (rounded n)
rounded_root x n m j ux is_m m_odd m_short n_pos n_small =
    let v = n * 2 ^ 110 in
    let s = whole_root (size v) v in
    let W = whole_root_so v in
    let s_big : 2 ^ 55 ≤ s = root_large s (2 ^ 55) v (mul-le-mul_right (2 ^ 110) n_pos) W.1 in
    let s_small : s < 2 ^ 1104 = root_small s (2 ^ 1104) v W.0 (shl_lt 2098 110 n_small) in
    let sp = spread s s_big in
    let i = sp.0 in
    let g = 2 ^ i in
    let t = 2 * s + 1 in
    let q = closest t (4 * g) in
    let k = 483 + i in
    let N = near s g (pow_pos i) in
    let P_is : 2 ^ k ≡ 2 ^ 483 * g = pow-add 2 483 i in
    let q_low : 2 ^ 52 ≤ q = le_trans ((le-div_iff_mul-le (mul-pos (zero-lt-suc 3) (pow_pos i))).1 sp.2) (nearest-ge (t / (4 * g)) (compare (t % (4 * g) * 2) (4 * g))) in
    let fine : q * 2 ^ k < 2 ^ 2098 = lt_of_lt_of_le (held q g s (2 ^ k) P_is N.low sp.2 s_small) (pow_mono {i = 1587} {j = 2098} (lit≤ tt)) in
    let units : Units (round binary64 false t (2 ^ 593)) (q * 2 ^ k) =
    subst (λ (z : ℕ). Units (round binary64 false t (2 ^ 593)) z) (grid_is t i sp.1) (round_val binary64 t (2 ^ 593) (subst (λ (z : ℕ). z < 2 ^ 2098) (sym (grid_is t i sp.1)) fine)) in
    let c : 4 * (n * 2 ^ 1074) ≡ v * 2 ^ 966 = scaled n (2 ^ 1074) (2 ^ 110) (2 ^ 966) refl in
    let tie : (y : ℕ) → y % 2 ≡ 1 → 2 ^ 53 ≤ y → y * y * (2 ^ k * 2 ^ k) ≡ v * 2 ^ 966 → ⊥ =
    λ y o l e. no_tie y m j k o m_odd m_short l (e ∙ sym c ∙ ap (λ (z : ℕ). 4 * (z * 2 ^ 1074)) is_m) in
    record {
      n = n;
      a = q * 2 ^ k;
      argument = ux;
      result = subst (λ (z : Float). Units z (q * 2 ^ k)) (sym (rounded_is n)) units;
      double = subst (λ (z : Float). T (fits binary64 z)) (sym (rounded_is n)) (round-fits binary64 false t (2 ^ 593));
      over = λ y b f u l.
          subst (λ (z : ℕ). z < (q * 2 ^ k + b) * (q * 2 ^ k + b)) (sym c)
          (over_at v (2 ^ 966) (2 ^ 483) g q s b (2 ^ k) refl P_is (pow_pos 966) W.1 N.high (next_up k q q_low y b f u l));
      under = λ y b f u l.
          subst (λ (z : ℕ). (q * 2 ^ k + b) * (q * 2 ^ k + b) < z) (sym c)
          (elim (eq-or-lt_of_le q_low) [
            | inl e ↦ under_low v (2 ^ 966) (2 ^ 483) g q s b (2 ^ k) refl P_is W.0 (reaches q g s e sp.2) l
            | inr h ↦
                under_high v (2 ^ 966) (2 ^ 483) g q s b (2 ^ k) (2 * q - 1) refl P_is W.0 (pair q h) N.low (next_down k q h y b f u l)
                (tie (2 * q - 1) (is_odd_number q h) (enough q h))
          ]);
    }
  where
    held : (q g s P : ℕ) → P ≡ 2 ^ 483 * g → 2 * q * g ≤ s + g → 2 ^ 52 * (4 * g) ≤ 2 * s + 1 → s < 2 ^ 1104 → q * P < 2 ^ 1587
    held q g s P e h k l =
        lt_of_le_of_lt (le_trans (le_of_eq (ap (λ (z : ℕ). q * z) (e ∙ mul_comm (2 ^ 483) g) ∙ sym (mul_assoc q g (2 ^ 483)))) (mul-le-mul_right (2 ^ 483) (inner q g s h k))) (shl_lt 1104 483 l)
      where
        inner : (q g s : ℕ) → 2 * q * g ≤ s + g → 2 ^ 52 * (4 * g) ≤ 2 * s + 1 → q * g ≤ s
        inner q g s h k = omega arith

    reaches : (q g s : ℕ) → 2 ^ 52 ≡ q → 2 ^ 52 * (4 * g) ≤ 2 * s + 1 → 2 * q * g ≤ s
    reaches q g s e h = subst (λ (z : ℕ). 2 * z * g ≤ s) e (at g s h)
      where
        at : (g s : ℕ) → 2 ^ 52 * (4 * g) ≤ 2 * s + 1 → 2 * 2 ^ 52 * g ≤ s
        at g s h = omega arith

    pair : (q : ℕ) → 2 ^ 52 < q → 2 * q - 1 + 1 ≡ 2 * q
    pair q h = omega arith

    is_odd_number : (q : ℕ) → 2 ^ 52 < q → (2 * q - 1) % 2 ≡ 1
    is_odd_number q h = omega arith

    enough : (q : ℕ) → 2 ^ 52 < q → 2 ^ 53 ≤ 2 * q - 1
    enough q h = omega arith

-- ---- every case
pub ceiling : (m : ℕ) (e : ℤ) (n : ℕ) → T (fits binary64 (fin false (suc m) e)) → suc m * up e * 2 ^ 1074 ≡ n * down e → n < 2 ^ 2098
ceiling m e n t h =
    lt_of_mul-lt-mul_right (down e)
    (lt_of_le_of_lt (le_of_eq (sym h))
    (lt_of_lt_of_le (mul-lt-mul_of_pos_right (under_top false m e t) (pow_pos 1074)) (le_of_eq (mul_right_comm (2 ^ 1024) (down e) (2 ^ 1074)))))

pub root_is : (x : Float) → T (fits binary64 x) → Root x (root x)
unfolding root
root_is nan t = refl
root_is (inf true) t = refl
root_is (inf false) t = refl
root_is (fin s zero e) t = refl
root_is (fin true (suc m) e) t = refl
root_is (fin false (suc m) e) t =
    let u = has_units (suc m) e t in
    let n = u.0 in
    let n_is : suc m * up e * 2 ^ 1074 / down e ≡ n = ap (λ (z : ℕ). z / down e) u.1.1 ∙ mul-div_cancel n (down_pos e) in
    let p = placed 1074 (suc m) e n (low_enough false (suc m) e t) u.1.1 in
    subst (λ (z : ℕ). NearestRoot (fin false (suc m) e) (rounded z)) (sym n_is)
    (rounded_root (fin false (suc m) e) n (suc m) p.0 u.1 p.1 (is_odd false m e t) (short false (suc m) e t)
    (subst (λ (z : ℕ). 0 < z) (sym p.1) (mul-pos (zero-lt-suc m) (pow_pos p.0))) (ceiling m e n t u.1.1))

-- what `Root` decides is what `root` gives
pub by_value : (x r : Float) → T (fits binary64 x) → Root x r → r ≡ root x
by_value x r t h = only x r (root x) h (root_is x t)
