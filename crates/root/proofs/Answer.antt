-- The pattern that `root_pattern` puts together stands for the double nearest to the root. Assumes nothing.
use mathlib.Core.Path.{◌≡◌, refl, sym, ap, ◌∙◌, subst}
use mathlib.Core.Logic.{◌⊎◌, inl, inr}
use Prim.Native.Nat.{ℕ, zero, suc, ◌+◌, ◌-◌, ◌*◌, ◌/◌, ◌%◌, ◌^◌, ◌≤◌, ◌<◌}
use native.Mathlib.Nat.{mul-one, eq_of_mul-eq-mul_right, le_trans, le_of_eq, le_of_lt, lt_of_lt_of_le, lt_of_not-le, mul-le-mul_left, mul-le-mul_right, lt_of_mul-lt-mul_right, mul-pos, mul_assoc, mul_left_comm}
use native.Mathlib.Decide.{dec_le}
use native.Mathlib.Omega.{arith}
use lib.Dec.{T}
use lib.Pow.{pow-add, pow_pos}
use lib.Ieee.{Float, binary64, fits, of_bits}
use lib.Ieee.Bits.{of_bits-fits}
use Rattle.root.specs.Root.{Units, NearestRoot}
use Rattle.root.specs.Inner.{Scales}
use Rattle.root.proofs.Squares.{over_at, under_low, under_high, odd_square, scaled}
use Rattle.root.proofs.Halves.{root_small, root_large}
use Rattle.root.proofs.Grid.{multiple}
use Rattle.root.proofs.Patterns.{subnormal, normal}

-- ---- what `taken_apart` gives
field_of : (f : ℕ) → (f ≡ 0 → ⊥) → f ≡ suc (f - 1)
field_of zero h = absurd (h refl)
field_of (suc f) h = omega arith

lifted : (f : ℕ) → (f ≡ 0 → ⊥) → f - 1 + 52 ≡ f + 51
lifted f h = let e : f ≡ suc (f - 1) = field_of f h in omega arith

pub scales_low : (b m e : ℕ) → b < 0x7ff0_0000_0000_0000 → b / 0x10_0000_0000_0000 ≡ 0 → m * 2 ^ e ≡ b % 0x10_0000_0000_0000 * 2 ^ 52 → Scales b m e
scales_low b m e h z k = (b % 0x10_0000_0000_0000, subnormal b h z, sym k)

pub scales_high : (b : ℕ) → b < 0x7ff0_0000_0000_0000 → (b / 0x10_0000_0000_0000 ≡ 0 → ⊥) → Scales b (0x10_0000_0000_0000 + b % 0x10_0000_0000_0000) (b / 0x10_0000_0000_0000 + 51)
scales_high b h k =
    let f = b / 0x10_0000_0000_0000 in
    let m = 0x10_0000_0000_0000 + b % 0x10_0000_0000_0000 in
    (m * 2 ^ (f - 1), normal b (f - 1) h (field_of f k), mul_assoc m (2 ^ (f - 1)) (2 ^ 52) ∙ ap (λ (z : ℕ). m * z) (sym (pow-add 2 (f - 1) 52) ∙ ap (λ (z : ℕ). 2 ^ z) (lifted f k)))

-- ---- 4 * x, in units squared
bit_pow : (o : ℕ) → o < 2 → 2 ^ o ≡ o + 1
bit_pow zero h = refl
bit_pow (suc zero) h = refl
bit_pow (suc (suc o)) h = absurd (no o h)
  where
    no : (o : ℕ) → suc (suc o) < 2 → ⊥
    no o h = omega arith

halves : (e : ℕ) → e ≡ e / 2 + e / 2 + e % 2
halves e = omega arith

pub bit_lt : (e : ℕ) → e % 2 < 2
bit_lt e = omega arith

pub scale_eq : (n m e : ℕ) → n * 2 ^ 52 ≡ m * 2 ^ e → 4 * (n * 2 ^ 1074) ≡ m * (e % 2 + 1) * 2 ^ 54 * (2 ^ (e / 2 + 485) * 2 ^ (e / 2 + 485))
scale_eq n m e k =
    let h = 2 ^ (e / 2) in
    let o = e % 2 in
    let p : 2 ^ e ≡ h * h * (o + 1) =
    ap (λ (z : ℕ). 2 ^ z) (halves e) ∙ pow-add 2 (e / 2 + e / 2) o ∙ ap (λ (z : ℕ). z * 2 ^ o) (pow-add 2 (e / 2) (e / 2)) ∙ ap (λ (z : ℕ). h * h * z) (bit_pow o (bit_lt e)) in
    let q : n * 2 ^ 52 ≡ m * (h * h * (o + 1)) = k ∙ ap (λ (z : ℕ). m * z) p in
    let r : 2 ^ (e / 2 + 485) ≡ h * 2 ^ 485 = pow-add 2 (e / 2) 485 in
    scaled n (2 ^ 1074) (2 ^ 52) (2 ^ 1024) refl ∙ ap (λ (z : ℕ). z * 2 ^ 1024) q ∙ second m h (o + 1) (2 ^ 1024) (2 ^ 54) (2 ^ 485) refl ∙ ap (λ (z : ℕ). m * (o + 1) * 2 ^ 54 * (z * z)) (sym r)
  where
    second : (m h g d b a : ℕ) → d ≡ b * (a * a) → m * (h * h * g) * d ≡ m * g * b * (h * a * (h * a))
    second m h g d b a f = ap (λ (z : ℕ). m * (h * h * g) * z) f ∙ simp (mul_assoc, mul_left_comm)

-- ---- the digits kept
parity : (s : ℕ) → (s % 2 ≡ 0) ⊎ (s % 2 ≡ 1)
parity s = go (s % 2) refl
  where
    go : (r : ℕ) → s % 2 ≡ r → (s % 2 ≡ 0) ⊎ (s % 2 ≡ 1)
    go zero e = inl e
    go (suc r) e = inr (omega arith)

-- m once or twice
pub once_or_twice : (m o : ℕ) → o < 2 → (m ≤ m * (o + 1)) × (m * (o + 1) ≤ m + m)
once_or_twice m o h =
    let a : 1 ≤ o + 1 = omega arith in
    let b : o + 1 ≤ 2 = omega arith in
    let c : m * 1 ≤ m * (o + 1) = mul-le-mul_left m a in
    let d : m * (o + 1) ≤ m * 2 = mul-le-mul_left m b in
    (omega arith, omega arith)

module _ (k q : ℕ) (big : 2 ^ 52 ≤ q) where
  reach : (b : ℕ) → q * 2 ^ k ≤ b → 2 ^ (52 + k) ≤ b
  reach b h = le_trans (le_of_eq (pow-add 2 52 k)) (le_trans (mul-le-mul_right (2 ^ k) big) h)

  pub next_up : (y : Float) (b : ℕ) → T (fits binary64 y) → Units y b → q * 2 ^ k < b → (q + 1) * 2 ^ k ≤ b
  next_up y b t u h =
      let w = multiple k y b t u (reach b (le_of_lt h)) in
      let l : q < w.0 = lt_of_mul-lt-mul_right (2 ^ k) (subst (λ (z : ℕ). q * 2 ^ k < z) w.1 h) in
      let g : q + 1 ≤ w.0 = omega arith in
      le_trans (mul-le-mul_right (2 ^ k) g) (le_of_eq (sym w.1))

pub next_down : (k q : ℕ) → 2 ^ 52 < q → (y : Float) (b : ℕ) → T (fits binary64 y) → Units y b → b < q * 2 ^ k → b + 2 ^ k ≤ q * 2 ^ k
next_down k q big y b t u h = go (dec_le (2 ^ (52 + k)) b)
  where
    go : Dec (2 ^ (52 + k) ≤ b) → b + 2 ^ k ≤ q * 2 ^ k
    go (yes g) =
        let w = multiple k y b t u g in
        let l : w.0 < q = lt_of_mul-lt-mul_right (2 ^ k) (subst (λ (z : ℕ). z < q * 2 ^ k) w.1 h) in
        let i : w.0 + 1 ≤ q = omega arith in
        let j : (w.0 + 1) * 2 ^ k ≤ q * 2 ^ k = mul-le-mul_right (2 ^ k) i in
        let v : b ≡ w.0 * 2 ^ k = w.1 in
        omega arith
    go (no f) =
        let l : b < 2 ^ 52 * 2 ^ k = lt_of_lt_of_le (lt_of_not-le f) (le_of_eq (pow-add 2 52 k)) in
        let i : 2 ^ 52 + 1 ≤ q = omega arith in
        let j : (2 ^ 52 + 1) * 2 ^ k ≤ q * 2 ^ k = mul-le-mul_right (2 ^ k) i in
        omega arith

-- ---- the whole
pub answer : (b m e s : ℕ) → 2 ^ 52 ≤ m → m < 2 ^ 53 → e ≤ 2097 → Scales b m e
    → s * s ≤ m * (e % 2 + 1) * 2 ^ 54 → m * (e % 2 + 1) * 2 ^ 54 < (s + 1) * (s + 1)
    → NearestRoot (of_bits binary64 b) (of_bits binary64 ((e / 2 + 485) * 0x10_0000_0000_0000 + (s + 1) / 2)) × ((e / 2 + 485) * 0x10_0000_0000_0000 + (s + 1) / 2 < 0x7ff0_0000_0000_0000)
answer b m e s m_low m_high e_high sc s_low s_high =
    let k = e / 2 + 485 in
    let q = (s + 1) / 2 in
    let r = k * 0x10_0000_0000_0000 + q in
    let M = m * (e % 2 + 1) in
    let two = once_or_twice m (e % 2) (bit_lt e) in
    let M_low : 2 ^ 52 ≤ M = le_trans m_low two.0 in
    let M_high : M ≤ 2 ^ 54 - 2 = le_trans two.1 (omega arith) in
    let s_big : 2 ^ 53 ≤ s = root_large s (2 ^ 53) (M * 2 ^ 54) (omega arith) s_high in
    let s_small : s < 2 ^ 54 - 1 = root_small s (2 ^ 54 - 1) (M * 2 ^ 54) s_low (omega arith) in
    let q_low : 2 ^ 52 ≤ q = omega arith in
    let q_high : q < 2 ^ 53 = omega arith in
    let r_lt : r < 0x7ff0_0000_0000_0000 = omega arith in
    let field : r / 0x10_0000_0000_0000 ≡ suc k = omega arith in
    let digits : 0x10_0000_0000_0000 + r % 0x10_0000_0000_0000 ≡ q = omega arith in
    let c = scale_eq sc.0 m e sc.2 in
    let one : 2 ^ k ≡ 2 ^ k * 1 = sym (mul-one (2 ^ k)) in
    let p2 = mul-pos (pow_pos k) (pow_pos k) in (
      record {
        n = sc.0;
        a = q * 2 ^ k;
        argument = sc.1;
        result = subst (λ (z : ℕ). Units (of_bits binary64 r) (z * 2 ^ k)) digits (normal r k r_lt field);
        double = of_bits-fits binary64 r;
        over = λ y b t u l.
            subst (λ (z : ℕ). z < (q * 2 ^ k + b) * (q * 2 ^ k + b)) (sym c)
            (over_at (M * 2 ^ 54) (2 ^ k * 2 ^ k) (2 ^ k) 1 q s b (2 ^ k) refl one p2 s_high (omega arith) (next_up k q q_low y b t u l));
        under = λ y b t u l.
            subst (λ (z : ℕ). (q * 2 ^ k + b) * (q * 2 ^ k + b) < z) (sym c)
            (elim (parity s) [
              | inl even ↦ under_low (M * 2 ^ 54) (2 ^ k * 2 ^ k) (2 ^ k) 1 q s b (2 ^ k) refl one s_low (omega arith) l
              | inr odd ↦
                  under_high (M * 2 ^ 54) (2 ^ k * 2 ^ k) (2 ^ k) 1 q s b (2 ^ k) s refl one s_low (omega arith) (omega arith) (next_down k q (omega arith) y b t u l)
                  (λ e. odd_square s M odd (eq_of_mul-eq-mul_right (2 ^ k * 2 ^ k) p2 (s * s) (M * 2 ^ 54) e))
            ]);
      },
      r_lt,
    )
