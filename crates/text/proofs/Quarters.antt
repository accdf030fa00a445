-- Four digits in one number, a byte for each, worked out at once: no byte reaches into the next.
use Prim.Native.Nat.{ℕ, suc, ◌+◌, ◌*◌, ◌/◌, ◌%◌, ◌^◌, ◌≤◌, ◌<◌}
use native.Mathlib.Nat.{mod-lt}
use native.Mathlib.Omega.{arith}
use mathlib.Core.Path.{◌≡◌, refl, ap, ◌∙◌}
use mathlib.Core.Bool.{Bool, true, false, cond}
use mathlib.Core.List.{List, [], ◌∷◌}
use borrow.Author.Tests.{ltb-true, ltb-false}
use lib.Bits.{bit_and, and_block, and_le_r, and_mask, and_zero_r}
use lib.Dec.{ltb}
use lib.ListN.{set}
use lib.Seq.{sets}
use Rattle.text.specs.Numerals.{digit, digits}
use Rattle.text.specs.Inner.{packed}

-- a digit's byte with no test
worked_out : (d : ℕ) → d < 16 → 48 + d + (d + 6) / 16 * 39 ≡ digit d
worked_out d h = by_test (ltb d 10) refl
  where
    by_test : (t : Bool) → ltb d 10 ≡ t → 48 + d + (d + 6) / 16 * 39 ≡ cond t (48 + d) (87 + d)
    by_test true e = omega (arith, ltb-true d 10 e)
    by_test false e = omega (arith, ltb-false d 10 e)

-- a mask keeps of each byte what its own byte keeps
masked : (r m s n : ℕ) → r < 256 → m < 256 → bit_and (r + 256 * s) (m + 256 * n) ≡ bit_and r m + 256 * bit_and s n
masked r m s n h i =
    let e : r + 256 * s ≡ s * 2 ^ 8 + r = omega arith in
    let f : m + 256 * n ≡ n * 2 ^ 8 + m = omega arith in
    rw (e, f, and_block 8 s n r m h i) (omega arith)

all_masked : (a b c d k l m n : ℕ) → a < 256 → b < 256 → c < 256 → d < 256 → k < 256 → l < 256 → m < 256 → n < 256
    → bit_and (packed (a ∷ b ∷ c ∷ d ∷ [])) (packed (k ∷ l ∷ m ∷ n ∷ [])) ≡ packed (bit_and a k ∷ bit_and b l ∷ bit_and c m ∷ bit_and d n ∷ [])
all_masked a b c d k l m n ha hb hc hd hk hl hm hn =
    masked a k _ _ ha hk ∙ ap (λ r. bit_and a k + 256 * r) (masked b l _ _ hb hl ∙ ap (λ r. bit_and b l + 256 * r) (masked c m _ _ hc hm ∙ ap (λ r. bit_and c m + 256 * r) (masked d n 0 0 hd hn)))

lower_four : (x y : ℕ) → y < 16 → bit_and (16 * x + y) 15 ≡ y
lower_four x y h = and_mask (16 * x + y) 4 ∙ omega arith

no_more : (x : ℕ) → x < 16 → bit_and x 15 ≡ x
no_more x h = and_mask x 4 ∙ omega arith

a_letter : (x rest : ℕ) → x < 16 → bit_and ((x + 6) / 16 + 16 * rest) 1 ≡ (x + 6) / 16
a_letter x rest h = and_mask ((x + 6) / 16 + 16 * rest) 1 ∙ omega arith

-- ---- as the code works them out, of the upper pair of digits and the lower

abbrev pub pairs : ℕ → ℕ → ℕ
pairs u l = u + l * 0x1_0000

abbrev pub values : ℕ → ℕ → ℕ
values u l = bit_and (pairs u l / 16) 0xf_000f + bit_and (pairs u l) 0xf_000f * 256

abbrev pub letters : ℕ → ℕ
letters v = bit_and ((v + 0x0606_0606) / 16) 0x0101_0101

-- no sum passes 32 bits, since a mask bounds what it keeps
pub values_below : (u l : ℕ) → values u l ≤ 0x0f0f_0f0f
values_below u l = omega (arith, and_le_r (pairs u l / 16) 0xf_000f, and_le_r (pairs u l) 0xf_000f)

pub letters_below : (v : ℕ) → letters v ≤ 0x0101_0101
letters_below v = and_le_r ((v + 0x0606_0606) / 16) 0x0101_0101

-- the value of each digit in its byte
module _ (a b c d : ℕ) (ha : a < 16) (hb : b < 16) (hc : c < 16) (hd : d < 16) where
  values_of : values (16 * a + b) (16 * c + d) ≡ packed (a ∷ b ∷ c ∷ d ∷ [])
  values_of =
      let e : pairs (16 * a + b) (16 * c + d) / 16 ≡ packed (a ∷ (16 * d) ∷ c ∷ 0 ∷ []) = omega arith in
      let f : pairs (16 * a + b) (16 * c + d) ≡ packed ((16 * a + b) ∷ 0 ∷ (16 * c + d) ∷ 0 ∷ []) = omega arith in
      let upper = all_masked a (16 * d) c 0 15 0 15 0 (omega arith) (omega arith) (omega arith) (omega arith) (omega arith) (omega arith) (omega arith) (omega arith) in
      let lower = all_masked (16 * a + b) 0 (16 * c + d) 0 15 0 15 0 (omega arith) (omega arith) (omega arith) (omega arith) (omega arith) (omega arith) (omega arith) (omega arith) in
      rw (e, f, upper, lower, no_more a ha, and_zero_r (16 * d), no_more c hc, lower_four a b hb, lower_four c d hd) (omega arith)

  -- 1 where it is a letter's
  letters_of : letters (packed (a ∷ b ∷ c ∷ d ∷ [])) ≡ packed ((a + 6) / 16 ∷ (b + 6) / 16 ∷ (c + 6) / 16 ∷ (d + 6) / 16 ∷ [])
  letters_of =
      let i = (a + 6) / 16 + 16 * ((b + 6) % 16) in
      let j = (b + 6) / 16 + 16 * ((c + 6) % 16) in
      let k = (c + 6) / 16 + 16 * ((d + 6) % 16) in
      let l = (d + 6) / 16 + 16 * 0 in
      let e : (packed (a ∷ b ∷ c ∷ d ∷ []) + 0x0606_0606) / 16 ≡ packed (i ∷ j ∷ k ∷ l ∷ []) = omega arith in
      let each = all_masked i j k l 1 1 1 1 (omega arith) (omega arith) (omega arith) (omega arith) (omega arith) (omega arith) (omega arith) (omega arith) in
      rw (e, each, a_letter a ((b + 6) % 16) ha, a_letter b ((c + 6) % 16) hb, a_letter c ((d + 6) % 16) hc, a_letter d 0 hd)

  of_digits : let v = values (16 * a + b) (16 * c + d) in 0x3030_3030 + v + letters v * 39 ≡ packed (digit a ∷ digit b ∷ digit c ∷ digit d ∷ [])
  of_digits = rw (values_of, letters_of, ← worked_out a ha, ← worked_out b hb, ← worked_out c hc, ← worked_out d hd) (omega arith)

pub four_digits : (q : ℕ) → q < 0x1_0000 → let v = values (q / 256) (q % 256) in 0x3030_3030 + v + letters v * 39 ≡ packed (digits 16 4 q)
four_digits q h =
    let upper : q / 256 ≡ 16 * (q / 16 / 16 / 16 % 16) + q / 16 / 16 % 16 = omega arith in
    let lower : q % 256 ≡ 16 * (q / 16 % 16) + q % 16 = omega arith in
    rw (upper, lower) (of_digits (q / 16 / 16 / 16 % 16) (q / 16 / 16 % 16) (q / 16 % 16) (q % 16) (mod-lt _ (omega arith)) (mod-lt _ (omega arith)) (mod-lt _ (omega arith)) (mod-lt _ (omega arith)))

-- ---- each byte of the number is a digit's

abbrev stores : List ℕ → ℕ → ℕ → List ℕ
stores out at n = set (set (set (set out at (n % 256)) (at + 1) (n / 256 % 256)) (at + 2) (n / 0x1_0000 % 256)) (at + 3) (n / 0x100_0000)

module _ (a b c d : ℕ) (ha : a < 256) (hb : b < 256) (hc : c < 256) where
  abbrev all : ℕ
  all = packed (a ∷ b ∷ c ∷ d ∷ [])

  unpacked : (all % 256 ≡ a) × (all / 256 % 256 ≡ b) × (all / 0x1_0000 % 256 ≡ c) × (all / 0x100_0000 ≡ d)
  unpacked = (omega arith, omega arith, omega arith, omega arith)

  stored : (out : List ℕ) (at : ℕ) → stores out at all ≡ sets out at (a ∷ b ∷ c ∷ d ∷ [])
  stored out at =
      let (i, j, k, l) = unpacked in
      let e : at + 1 ≡ suc at = omega arith in
      let f : at + 2 ≡ suc (suc at) = omega arith in
      let g : at + 3 ≡ suc (suc (suc at)) = omega arith in
      rw (e, f, g, i, j, k, l)
