-- The two halves of the root's digits: Newton's steps for the upper, one division for the lower. Assumes nothing.
use mathlib.Core.Path.{◌≡◌, sym, ap, ◌∙◌}
use Prim.Native.Nat.{ℕ, zero, suc, ◌+◌, ◌-◌, ◌*◌, ◌/◌, ◌%◌, ◌^◌, ◌≤◌, ◌<◌}
use native.Mathlib.Nat.{le_trans, le_of_eq, lt_of_lt_of_le, lt_of_not-le, zero-lt-suc, mul-le-mul, le_of_mul-le-mul_right, div-lt_iff_lt-mul, div-add-mod', mod-lt}
use native.Mathlib.Omega.{arith}
use Rattle.root.proofs.Newton.{sq_pos}

pub positive : (m r : ℕ) → 2 ^ 52 ≤ m → m < (r + 1) * (r + 1) → 0 < r
positive m zero h k = let l : m < 1 = k in omega arith
positive m (suc r) h k = zero-lt-suc r

pub quotient_lt : (m r : ℕ) → 0 < r → m < (r + 1) * (r + 1) → m / r < r + 3
quotient_lt m r p h = (div-lt_iff_lt-mul p).1 (let k : m < (r + 3) * r = omega arith in k)

-- ---- a and b are below a power of two whose square is known
pub square_small : (r k : ℕ) → r ≤ k → r * r ≤ k * k
square_small r k h = mul-le-mul h h

pub root_small : (r k m : ℕ) → r * r ≤ m → m < k * k → r < k
root_small r k m h l = lt_of_not-le (λ (g : k ≤ r). let a : k * k ≤ r * r = mul-le-mul g g in omega arith)

pub root_large : (r k m : ℕ) → k * k ≤ m → m < (r + 1) * (r + 1) → k ≤ r
root_large r k m h l = let g : k < r + 1 = lt_of_not-le (λ (g : r + 1 ≤ k). let a : (r + 1) * (r + 1) ≤ k * k = mul-le-mul g g in omega arith) in omega arith

-- ---- the lower half. d is what is left of m, and d * 2 ^ 27 is q times 2 a and u more.
module _ (m a : ℕ) (low : a * a ≤ m) (high : m < (a + 1) * (a + 1)) (big : 2 ^ 52 ≤ m) (small : m < 2 ^ 54) where
  a_low : 2 ^ 26 ≤ a
  a_low = root_large a (2 ^ 26) m big high

  a_high : a < 2 ^ 27
  a_high = root_small a (2 ^ 27) m low small

  left_le : m - a * a ≤ a * 2
  left_le = omega arith

  twice_pos : 0 < a * 2
  twice_pos = let l = a_low in omega arith

  module _ (q u : ℕ) (parts : q * (a * 2) + u ≡ (m - a * a) * 0x800_0000) (rest : u < a * 2) where
    q_le : q ≤ 0x800_0000
    q_le = le_of_mul-le-mul_right (let l = left_le in let g : q * (a * 2) ≤ 0x800_0000 * (a * 2) = omega arith in g) twice_pos

    q_square : q * q ≤ a * 2 * 0x800_0000
    q_square = let l = a_low in le_trans (mul-le-mul q_le q_le) (omega arith)

    sum : m * 2 ^ 54 + q * q ≡ (a * 0x800_0000 + q) * (a * 0x800_0000 + q) + u * 0x800_0000
    sum =
        let d : m ≡ (m - a * a) + a * a = omega arith in
        omega arith

    pub kept : q * q ≤ u * 0x800_0000 → ((a * 0x800_0000 + q) * (a * 0x800_0000 + q) ≤ m * 2 ^ 54) × (m * 2 ^ 54 < (a * 0x800_0000 + q + 1) * (a * 0x800_0000 + q + 1)) × (a * 0x800_0000 + q < 2 ^ 54)
    kept h =
        let e = sum in
        let b : (a * 0x800_0000 + q) * (a * 0x800_0000 + q) ≤ m * 2 ^ 54 = omega arith in
        (b, omega arith, root_small (a * 0x800_0000 + q) (2 ^ 54) (m * 2 ^ 54) b (omega arith))

    pub lowered : u * 0x800_0000 < q * q → ((a * 0x800_0000 + q - 1) * (a * 0x800_0000 + q - 1) ≤ m * 2 ^ 54) × (m * 2 ^ 54 < (a * 0x800_0000 + q - 1 + 1) * (a * 0x800_0000 + q - 1 + 1)) × (a * 0x800_0000 + q - 1 < 2 ^ 54)
    lowered h =
        let s = a * 0x800_0000 + q in
        let l = a_low in
        let e = sum in
        let k = q_square in
        let j = sq_pos (u * 0x800_0000) q h in
        let p : s - 1 + 1 ≡ s = omega arith in
        let v : (s - 1 + 1) * (s - 1 + 1) ≡ s * s = ap (λ (z : ℕ). z * z) p in
        let f : m * 2 ^ 54 + q * q ≡ s * s + u * 0x800_0000 = e in
        let w : (s - 1) * (s - 1) + 2 * (s - 1) + 1 ≡ s * s = sym (square (s - 1)) ∙ v in
        let b : (s - 1) * (s - 1) ≤ m * 2 ^ 54 = least (m * 2 ^ 54) (q * q) (s * s) (u * 0x800_0000) ((s - 1) * (s - 1)) (s - 1) f w (omega arith) in
        (b, lt_of_lt_of_le (under (m * 2 ^ 54) (q * q) (s * s) (u * 0x800_0000) f h) (le_of_eq (sym v)), root_small (s - 1) (2 ^ 54) (m * 2 ^ 54) b (omega arith))
      where
        square : (z : ℕ) → (z + 1) * (z + 1) ≡ z * z + 2 * z + 1
        square z = omega arith

        under : (N qq ss uu : ℕ) → N + qq ≡ ss + uu → uu < qq → N < ss
        under N qq ss uu f h = omega arith

        least : (N qq ss uu tt' t : ℕ) → N + qq ≡ ss + uu → tt' + 2 * t + 1 ≡ ss → qq ≤ 2 * t + 1 → tt' ≤ N
        least N qq ss uu tt' t f w h = omega arith

  -- ---- at the quotient and the remainder
  pub divided : (m - a * a) * 0x800_0000 / (a * 2) * (a * 2) + (m - a * a) * 0x800_0000 % (a * 2) ≡ (m - a * a) * 0x800_0000
  divided = div-add-mod' ((m - a * a) * 0x800_0000) (a * 2)

  pub rest_lt : (m - a * a) * 0x800_0000 % (a * 2) < a * 2
  rest_lt = mod-lt ((m - a * a) * 0x800_0000) twice_pos

  pub bounds : (a < 2 ^ 27) × (2 ^ 26 ≤ a) × (m - a * a ≤ a * 2) × ((m - a * a) * 0x800_0000 / (a * 2) ≤ 0x800_0000) × ((m - a * a) * 0x800_0000 % (a * 2) < a * 2)
  bounds = (a_high, a_low, left_le, q_le ((m - a * a) * 0x800_0000 / (a * 2)) ((m - a * a) * 0x800_0000 % (a * 2)) divided rest_lt, rest_lt)
