-- The remainder of two doubles by their sizes in units: what the one leaves over the other, with the first one's sign.
-- Assumes nothing.
use mathlib.Core.Path.{◌≡◌, refl, sym, ap, ◌∙◌, subst}
use Prim.Native.Nat.{ℕ, zero, suc, ◌+◌, ◌-◌, ◌*◌, ◌/◌, ◌%◌, ◌^◌, ◌≤◌, ◌<◌}
use native.Mathlib.Nat.{add-mul, pow-suc, pow-succ', pos_of_ne-zero, mul_assoc, mul_comm, mul_right_comm, mul-pos, mul-one, mul-lt-mul_of_pos_right, mul-le-mul_right, lt_of_lt_of_le, mod-eq_of_lt}
use native.Mathlib.Numerals.{add-one}
use native.Mathlib.Omega.{arith}
use mathlib.Core.Bool.{Bool, true, false, not, ◌&&◌, ◌||◌, cond, true≢false, false≢true}
use borrow.Author.Tests.{eqb-true, eqb-false, ne_eqb, ltb-true, ltb-false, leb-true, leb-false, lt-leb}
use lib.Dec.{T, leb, eqb, ltb}
use lib.Pow.{pow_pos, pow-add, pow_mono, shl_lt, mod-mod-pow}
use lib.IntN.{ℤ}
use lib.Ieee.{Float, nan, inf, fin, Format, binary64, prec, low, up, down, odd, units, round, neg, rem, fits, is_nan, of_fields, of_bits, to_bits}
use lib.Ieee.Bits.{of_bits-fits, of_bits-to_bits, to_bits-lt}
use lib.Ieee.Exact.{round_exact}
use lib.Ieee.Scale.{round_same}
use lib.Ieee.Fits.{round_is, round-fits, down_pos}
use lib.Ieee.Positive.{first_pos}
use Rattle.std.proofs.lemmas.Nat.{mod-mul-add, mul-mod_first}
use Rattle.root.specs.Root.{Units}
use Rattle.root.proofs.Cases.{no_value}
use Rattle.root.proofs.Only.{same_units}
use Rattle.root.proofs.Patterns.{of_bits_is, subnormal, normal}
use Rattle.forward.specs.Inner.{Split, Rest}

-- ---- whole numbers

-- over a multiple as over the number itself
pub mod_scale : (a b c : ℕ) → 0 < b → 0 < c → a * c % (b * c) ≡ a % b * c
mod_scale a b c hb hc =
    let whole : a ≡ a / b * b + a % b = omega arith in
    let parts : a * c ≡ a / b * (b * c) + a % b * c =
    ap (λ (x : ℕ). x * c) whole ∙ add-mul (a / b * b) (a % b) c ∙ ap (λ (x : ℕ). x + a % b * c) (mul_assoc (a / b) b c) in
    let below : a % b < b = omega arith in
    ap (λ (x : ℕ). x % (b * c)) parts ∙ mod-mul-add (a / b) (b * c) (a % b * c) (mul-lt-mul_of_pos_right below hc)

-- ---- patterns

pub split_low : (b : ℕ) → b < 0x7ff0_0000_0000_0000 → b / 0x10_0000_0000_0000 ≡ 0 → Split b (b % 0x10_0000_0000_0000) 0
split_low b h e = record {
  units = subst (λ (n : ℕ). Units (of_bits binary64 b) n) (sym (mul-one (b % 0x10_0000_0000_0000))) (subnormal b h e);
  small = omega arith;
  full = λ g. absurd (omega arith);
  low = omega arith;
  some = λ g. omega arith;
}

pub split_high : (b x : ℕ) → b < 0x7ff0_0000_0000_0000 → b / 0x10_0000_0000_0000 ≡ suc x → Split b (0x10_0000_0000_0000 + b % 0x10_0000_0000_0000) x
split_high b x h e = record {
  units = normal b x h e;
  small = omega arith;
  full = λ g. omega arith;
  low = omega arith;
  some = λ g. omega arith;
}

-- the digits below the leading one and the field above them are the pattern
pub join_low : (m : ℕ) → m < 0x10_0000_0000_0000 → Units (of_bits binary64 m) m
join_low m h =
    let zero_field : m / 0x10_0000_0000_0000 ≡ 0 = omega arith in
    subst (λ (n : ℕ). Units (of_bits binary64 m) n) (mod-eq_of_lt h) (subnormal m (omega arith) zero_field)

pub join_high : (m e : ℕ) → 2 ^ 52 ≤ m → m < 2 ^ 53 → e ≤ 2045 → Units (of_bits binary64 (e * 0x10_0000_0000_0000 + m)) (m * 2 ^ e)
join_high m e h k l =
    let b : ℕ = e * 0x10_0000_0000_0000 + m in
    let field : b / 0x10_0000_0000_0000 ≡ suc e = omega arith in
    let digits : 0x10_0000_0000_0000 + b % 0x10_0000_0000_0000 ≡ m = omega arith in
    subst (λ (n : ℕ). Units (of_bits binary64 b) (n * 2 ^ e)) digits (normal b e (omega arith) field)

-- ---- what one size leaves over another

-- where the exponent is lower, the size is below the other's
pub leaves_itself : (a b m e n d : ℕ) → a < 0x7ff0_0000_0000_0000 → 0 < b → Split a m e → Split b n d → e < d → Rest a b a
leaves_itself a b m e n d h some s t below =
    let wide : m * 2 ^ e < 2 ^ (52 + d) = lt_of_lt_of_le (shl_lt 53 e s.small) (pow_mono (omega arith)) in
    let full : 2 ^ (52 + d) ≤ n * 2 ^ d = subst (λ (x : ℕ). x ≤ n * 2 ^ d) (sym (pow-add 2 52 d)) (mul-le-mul_right (2 ^ d) (t.full (omega arith))) in
    record {
      x = m * 2 ^ e;
      y = n * 2 ^ d;
      q = m;
      j = e;
      whole = s.units;
      divisor = t.units;
      some = mul-pos (t.some some) (pow_pos d);
      left = mod-eq_of_lt (lt_of_lt_of_le wide full);
      small = s.small;
      low = s.low;
      result = s.units;
      below = h;
    }

-- else it is so many places up, and what is left is left of its digits
pub leaves_digits : (a b m e n d q r : ℕ) → 0 < b → Split a m e → Split b n d → d ≤ e → q ≡ m * 2 ^ (e - d) % n → Units (of_bits binary64 r) (q * 2 ^ d) → r < 0x7ff0_0000_0000_0000 → Rest a b r
leaves_digits a b m e n d q r some s t up found made below =
    let places : m * 2 ^ e ≡ m * 2 ^ (e - d) * 2 ^ d =
    let sum : e ≡ e - d + d = omega arith in
    ap (λ (x : ℕ). m * 2 ^ x) sum ∙ ap (λ (x : ℕ). m * x) (pow-add 2 (e - d) d) ∙ sym (mul_assoc m (2 ^ (e - d)) (2 ^ d))
    in
    let digits : q < n = let p = t.some some in omega arith in
    record {
      x = m * 2 ^ e;
      y = n * 2 ^ d;
      q = q;
      j = d;
      whole = s.units;
      divisor = t.units;
      some = mul-pos (t.some some) (pow_pos d);
      left = ap (λ (x : ℕ). x % (n * 2 ^ d)) places ∙ mod_scale (m * 2 ^ (e - d)) n (2 ^ d) (t.some some) (pow_pos d) ∙ ap (λ (x : ℕ). x * 2 ^ d) (sym found);
      small = let k = t.small in omega arith;
      low = t.low;
      result = made;
      below = below;
    }

-- ---- the sign

abbrev pub signed : Bool → Float → Float
signed false z = z
signed true z = neg z

cond_neg : (b : Bool) (x y u v : Float) → x ≡ neg u → y ≡ neg v → cond b x y ≡ neg (cond b u v)
cond_neg true x y u v e g = e
cond_neg false x y u v e g = g

odd_neg : (d q k l : ℕ) → odd d true q k l ≡ neg (odd d false q k l)
unfolding odd neg
odd_neg d zero k l = refl
odd_neg d (suc q) k l = refl

units_neg : (f : Format) (q k : ℕ) → units f true q k ≡ neg (units f false q k)
unfolding units neg
units_neg f q k = cond_neg _ _ _ _ _ (odd_neg (suc (prec f)) q k (low f)) refl

round_neg : (f : Format) (a c : ℕ) → round f true a c ≡ neg (round f false a c)
round_neg f a c = round_is f true a c ∙ units_neg f _ _ ∙ ap neg (sym (round_is f false a c))

fields_neg : (f : Format) (x t : ℕ) → of_fields f true x t ≡ neg (of_fields f false x t)
unfolding of_fields neg
fields_neg f zero t = odd_neg (prec f) t 0 (low f)
fields_neg f (suc x) t = cond_neg _ _ _ _ _ (cond_neg (eqb t 0) _ _ _ _ refl refl) (odd_neg (prec f) _ x (low f))

fields_signed : (s : Bool) (f : Format) (x t : ℕ) → of_fields f s x t ≡ signed s (of_fields f false x t)
fields_signed true f x t = fields_neg f x t
fields_signed false f x t = refl

-- a pattern is read as the rest of it, with its sign
pub read_signed : (b : ℕ) → b < 2 ^ 64 → of_bits binary64 b ≡ signed (leb 0x8000_0000_0000_0000 b) (of_bits binary64 (b % 0x8000_0000_0000_0000))
read_signed b h =
    let top : ℕ = 0x8000_0000_0000_0000 in
    let hid : ℕ = 0x10_0000_0000_0000 in
    let s : Bool = leb top b in
    let plain : leb top (b % top) ≡ false = lt-leb top (b % top) (omega arith) in
    let field : b % top % top / hid ≡ b % top / hid = omega arith in
    let digits : b % top % hid ≡ b % hid = mod-mod-pow b 11 52 in
    let read : of_bits binary64 (b % top) ≡ of_fields binary64 false (b % top / hid) (b % hid) =
    of_bits_is (b % top)
    ∙ ap (λ (w : Bool). of_fields binary64 w (b % top % top / hid) (b % top % hid)) plain
    ∙ ap (λ (x : ℕ). of_fields binary64 false x (b % top % hid)) field
    ∙ ap (λ (x : ℕ). of_fields binary64 false (b % top / hid) x) digits
    in
    of_bits_is b ∙ fields_signed s binary64 (b % top / hid) (b % hid) ∙ ap (signed s) (sym read)

-- ---- the remainder of what is finite

sizes : (m : ℕ) (e : ℤ) (n : ℕ) (d : ℤ) (x y : ℕ) → m * up e * 2 ^ 1074 ≡ x * down e → n * up d * 2 ^ 1074 ≡ y * down d → 0 < y
    → m * up e * down d % (n * up d * down e) * 2 ^ 1074 ≡ x % y * (down e * down d)
sizes m e n d x y h k some =
    let l : ℕ = 2 ^ 1074 in
    let a : ℕ = m * up e * down d in
    let b : ℕ = n * up d * down e in
    let c : ℕ = down e * down d in
    let whole : a * l ≡ x * c = mul_right_comm (m * up e) (down d) l ∙ ap (λ (z : ℕ). z * down d) h ∙ mul_assoc x (down e) (down d) in
    let divisor : b * l ≡ y * c = mul_right_comm (n * up d) (down e) l ∙ ap (λ (z : ℕ). z * down e) k ∙ mul_assoc y (down d) (down e) ∙ ap (λ (z : ℕ). y * z) (mul_comm (down d) (down e)) in
    let above : 0 < c = mul-pos (down_pos e) (down_pos d) in
    let positive : 0 < b = first_pos b l (subst (λ (z : ℕ). 0 < z) (sym divisor) (mul-pos some above)) in
    sym (mod_scale a b l positive (pow_pos 1074)) ∙ ap (λ (z : ℕ). z % (b * l)) whole ∙ ap (λ (z : ℕ). x * c % z) divisor ∙ mod_scale x y c some above

-- a fraction that is a double rounds to it
rounded : (a c q j : ℕ) (z : Float) → 0 < c → a * 2 ^ 1074 ≡ q * 2 ^ j * c → q < 2 ^ 53 → j ≤ 2045 → T (fits binary64 z) → Units z (q * 2 ^ j) → round binary64 false a c ≡ z
rounded a c q j z above same small lowered fine is =
    let few : q * 2 ^ j < 2 ^ 2098 = lt_of_lt_of_le (shl_lt 53 j small) (pow_mono {j = 2098} (omega arith)) in
    round_same binary64 false a c (q * 2 ^ j) (2 ^ 1074) above (pow_pos 1074) same
    ∙ same_units (round binary64 false (q * 2 ^ j) (2 ^ 1074)) z (q * 2 ^ j) (round-fits binary64 false (q * 2 ^ j) (2 ^ 1074)) fine
    (round_exact binary64 false (q * 2 ^ j) (2 ^ 1074) q j (pow_pos 1074) small few refl) is

no_divisor : (n : ℕ) (d : ℤ) (y : ℕ) → n * up d * 2 ^ 1074 ≡ y * down d → 0 < y → eqb n 0 ≡ false
no_divisor n d y k some = ne_eqb n 0 (λ e. no_value d y (2 ^ 1074) some (subst (λ (z : ℕ). z * up d * 2 ^ 1074 ≡ y * down d) e k))

finite : (s t : Bool) (m : ℕ) (e : ℤ) (n : ℕ) (d : ℤ) (x y q j : ℕ) (z : Float) → Units (fin false m e) x → Units (fin false n d) y → 0 < y → x % y ≡ q * 2 ^ j
    → q < 2 ^ 53 → j ≤ 2045 → T (fits binary64 z) → Units z (q * 2 ^ j) → rem binary64 (fin s m e) (fin t n d) ≡ signed s z
unfolding rem
finite s t m e n d x y q j z h k some left small lowered fine is =
    let a : ℕ = m * up e * down d % (n * up d * down e) in
    let c : ℕ = down e * down d in
    let same : a * 2 ^ 1074 ≡ q * 2 ^ j * c = sizes m e n d x y h.1 k.1 some ∙ ap (λ (w : ℕ). w * c) left in
    ap (λ (b : Bool). cond b nan (round binary64 s a c)) (no_divisor n d y k.1 some)
    ∙ by_sign s a c (rounded a c q j z (mul-pos (down_pos e) (down_pos d)) same small lowered fine is)
  where
    by_sign : (s : Bool) (a c : ℕ) → round binary64 false a c ≡ z → round binary64 s a c ≡ signed s z
    by_sign false a c e = e
    by_sign true a c e = round_neg binary64 a c ∙ ap neg e

signed_fin : (s : Bool) (m : ℕ) (e : ℤ) → signed s (fin false m e) ≡ fin s m e
unfolding neg
signed_fin true m e = refl
signed_fin false m e = refl

pub rem_signed : (s t : Bool) (u v : Float) (x y q j : ℕ) (z : Float) → Units u x → Units v y → 0 < y → x % y ≡ q * 2 ^ j
    → q < 2 ^ 53 → j ≤ 2045 → T (fits binary64 z) → Units z (q * 2 ^ j) → rem binary64 (signed s u) (signed t v) ≡ signed s z
rem_signed s t nan v x y q j z h k some left small lowered fine is = absurd h
rem_signed s t (inf w) v x y q j z h k some left small lowered fine is = absurd h
rem_signed s t (fin w m e) nan x y q j z h k some left small lowered fine is = absurd k
rem_signed s t (fin w m e) (inf w') x y q j z h k some left small lowered fine is = absurd k
rem_signed s t (fin true m e) (fin w n d) x y q j z h k some left small lowered fine is = absurd (true≢false h.0)
rem_signed s t (fin false m e) (fin true n d) x y q j z h k some left small lowered fine is = absurd (true≢false k.0)
rem_signed s t (fin false m e) (fin false n d) x y q j z h k some left small lowered fine is =
    ap (λ (w : Float). rem binary64 w (signed t (fin false n d))) (signed_fin s m e)
    ∙ ap (λ (w : Float). rem binary64 (fin s m e) w) (signed_fin t n d)
    ∙ finite s t m e n d x y q j z h k some left small lowered fine is

-- ---- the tests of the code

either : {P : Type 0} (a b : Bool) → a || b ≡ true → (a ≡ true → P) → (b ≡ true → P) → P
either true b e f g = f refl
either false b e f g = g e

neither : (a b : Bool) → a || b ≡ false → (a ≡ false) × (b ≡ false)
neither true b e = absurd (true≢false e)
neither false b e = (refl, e)

both : (a b : Bool) → a && b ≡ true → (a ≡ true) × (b ≡ true)
both true b e = (refl, e)
both false b e = absurd (false≢true e)

not_both : {P : Type 0} (a b : Bool) → a && b ≡ false → (a ≡ false → P) → (b ≡ false → P) → P
not_both true b e f g = g e
not_both false b e f g = f refl

not_nan : (x : Float) → is_nan x ≡ false → T (not (is_nan x))
not_nan x e = subst (λ b. T (not b)) (sym e) tt

pub no_nan_left : (x y : Float) → is_nan x || is_nan y ≡ false → T (not (is_nan x))
no_nan_left x y e = not_nan x (neither (is_nan x) (is_nan y) e).0

pub no_nan_right : (x y : Float) → is_nan x || is_nan y ≡ false → T (not (is_nan y))
no_nan_right x y e = not_nan y (neither (is_nan x) (is_nan y) e).1

pub finite_size : (a b : ℕ) → leb 0x7ff0_0000_0000_0000 a || eqb b 0 ≡ false → (a < 0x7ff0_0000_0000_0000) × (0 < b)
finite_size a b e =
    let n = neither (leb 0x7ff0_0000_0000_0000 a) (eqb b 0) e in
    (leb-false _ _ n.0, pos_of_ne-zero (eqb-false b 0 n.1))

-- ---- a loop's turn

pub one_place : (m i n r : ℕ) → r ≡ m * 2 ^ i % n → r * 2 % n ≡ m * 2 ^ (i + 1) % n
one_place m i n r e =
    ap (λ (x : ℕ). x * 2 % n) e
    ∙ mul-mod_first (m * 2 ^ i) 2 n
    ∙ ap (λ (x : ℕ). x % n) (mul_assoc m (2 ^ i) 2 ∙ ap (λ (x : ℕ). m * x) (sym (pow-suc 2 i)) ∙ ap (λ (x : ℕ). m * 2 ^ x) (sym (add-one i)))

pub moved_up : (m e n : ℕ) → ltb m 0x10_0000_0000_0000 && ltb 0 e ≡ true → e ≤ 2045 → m * 2 ^ e ≡ n → (m * 2 < 2 ^ 53) × (e - 1 ≤ 2045) × (m * 2 * 2 ^ (e - 1) ≡ n)
moved_up m e n t h k =
    let few : m < 0x10_0000_0000_0000 = ltb-true _ _ (both _ _ t).0 in
    let some : 0 < e = ltb-true _ _ (both _ _ t).1 in
    let whole : suc (e - 1) ≡ e = omega arith in
    (omega arith, omega arith, mul_assoc m 2 (2 ^ (e - 1)) ∙ ap (λ (x : ℕ). m * x) (sym (pow-succ' 2 (e - 1)) ∙ ap (λ (x : ℕ). 2 ^ x) whole) ∙ k)

join : (m e : ℕ) → m < 2 ^ 53 → e ≤ 2045 → ltb m 0x10_0000_0000_0000 && ltb 0 e ≡ false → Units (of_bits binary64 (e * 0x10_0000_0000_0000 + m)) (m * 2 ^ e)
join m zero h k t = by_size (ltb m 0x10_0000_0000_0000) refl where
  by_size : (b : Bool) → ltb m 0x10_0000_0000_0000 ≡ b → Units (of_bits binary64 (zero * 0x10_0000_0000_0000 + m)) (m * 2 ^ zero)
  by_size true e =
      let pattern : m ≡ zero * 0x10_0000_0000_0000 + m = omega arith in
      subst (λ (n : ℕ). Units (of_bits binary64 (zero * 0x10_0000_0000_0000 + m)) n) (sym (mul-one m))
      (subst (λ (b : ℕ). Units (of_bits binary64 b) m) pattern (join_low m (ltb-true _ _ e)))
  by_size false e = join_high m zero (ltb-false _ _ e) h k
join m (suc e) h k t = not_both _ _ t (λ f. join_high m (suc e) (ltb-false _ _ f) h k) (λ f. absurd (omega (arith, ltb-false _ _ f)))

pub joined_so : (m e n : ℕ) → m < 2 ^ 53 → e ≤ 2045 → ltb m 0x10_0000_0000_0000 && ltb 0 e ≡ false → m * 2 ^ e ≡ n
    → Units (of_bits binary64 (e * 0x10_0000_0000_0000 + m)) n × (e * 0x10_0000_0000_0000 + m < 0x7ff0_0000_0000_0000)
joined_so m e n h k t same = (subst (λ (x : ℕ). Units (of_bits binary64 (e * 0x10_0000_0000_0000 + m)) x) same (join m e h k t), omega arith)

-- ---- every case of the code

-- a double is its pattern's size with its sign
pub read_own : (x : Float) → T (fits binary64 x) → x ≡ signed (leb 0x8000_0000_0000_0000 (to_bits binary64 x)) (of_bits binary64 (to_bits binary64 x % 0x8000_0000_0000_0000))
read_own x h = sym (of_bits-to_bits binary64 x h) ∙ read_signed (to_bits binary64 x) (to_bits-lt binary64 x h)

-- f64::NAN
named_nan : of_bits binary64 0x7ff8_0000_0000_0000 ≡ nan
unfolding of_bits
named_nan = refl

only_nan : (x : Float) → is_nan x ≡ true → x ≡ nan
unfolding is_nan
only_nan nan e = refl
only_nan (inf s) e = absurd (false≢true e)
only_nan (fin s m d) e = absurd (false≢true e)

rem_nan : (x : Float) → rem binary64 x nan ≡ nan
unfolding rem
rem_nan nan = refl
rem_nan (inf s) = refl
rem_nan (fin s m e) = refl

nan_rem : (y : Float) → rem binary64 nan y ≡ nan
unfolding rem
nan_rem y = refl

pub of_nan : (x y : Float) → is_nan x || is_nan y ≡ true → of_bits binary64 0x7ff8_0000_0000_0000 ≡ rem binary64 x y
of_nan x y e =
    named_nan
    ∙ either (is_nan x) (is_nan y) e
    (λ t. sym (ap (λ (w : Float). rem binary64 w y) (only_nan x t) ∙ nan_rem y))
    (λ t. sym (ap (λ (w : Float). rem binary64 x w) (only_nan y t) ∙ rem_nan x))

-- a pattern from infinity's on is an infinity or NaN
top_of : (a : ℕ) → 0x7ff0_0000_0000_0000 ≤ a → a < 0x8000_0000_0000_0000 → of_bits binary64 a ≡ cond (eqb (a % 0x10_0000_0000_0000) 0) (inf false) nan
unfolding of_fields
top_of a h k =
    let top : ℕ = 0x8000_0000_0000_0000 in
    let hid : ℕ = 0x10_0000_0000_0000 in
    let plain : leb top a ≡ false = lt-leb top a k in
    let field : a % top / hid ≡ suc 2046 = omega arith in
    of_bits_is a
    ∙ ap (λ (s : Bool). of_fields binary64 s (a % top / hid) (a % hid)) plain
    ∙ ap (λ (x : ℕ). of_fields binary64 false x (a % hid)) field

rem_top : (s : Bool) (a : ℕ) (y : Float) → 0x7ff0_0000_0000_0000 ≤ a → a < 0x8000_0000_0000_0000 → rem binary64 (signed s (of_bits binary64 a)) y ≡ nan
unfolding rem neg
rem_top s a y h k = ap (λ (w : Float). rem binary64 (signed s w) y) (top_of a h k) ∙ by_kind s (eqb (a % 0x10_0000_0000_0000) 0) where
  by_kind : (s b : Bool) → rem binary64 (signed s (cond b (inf false) nan)) y ≡ nan
  by_kind true true = refl
  by_kind true false = refl
  by_kind false true = refl
  by_kind false false = refl

rem_none : (t : Bool) (x : Float) → rem binary64 x (signed t (of_bits binary64 0)) ≡ nan
unfolding rem neg of_bits
rem_none true nan = refl
rem_none true (inf s) = refl
rem_none true (fin s m e) = refl
rem_none false nan = refl
rem_none false (inf s) = refl
rem_none false (fin s m e) = refl

pub of_no_rest : (x y : Float) → T (fits binary64 x) → T (fits binary64 y)
    → leb 0x7ff0_0000_0000_0000 (to_bits binary64 x % 0x8000_0000_0000_0000) || eqb (to_bits binary64 y % 0x8000_0000_0000_0000) 0 ≡ true
    → of_bits binary64 0x7ff8_0000_0000_0000 ≡ rem binary64 x y
of_no_rest x y h k e =
    let top : ℕ = 0x8000_0000_0000_0000 in
    let a : ℕ = to_bits binary64 x in
    let b : ℕ = to_bits binary64 y in
    named_nan
    ∙ either (leb 0x7ff0_0000_0000_0000 (a % top)) (eqb (b % top) 0) e
    (λ t. sym (ap (λ (w : Float). rem binary64 w y) (read_own x h) ∙ rem_top (leb top a) (a % top) y (leb-true _ _ t) (omega arith)))
    (λ t.
    sym
    (ap (λ (w : Float). rem binary64 x w) (read_own y k)
    ∙ ap (λ (n : ℕ). rem binary64 x (signed (leb top b) (of_bits binary64 n))) (eqb-true (b % top) 0 t)
    ∙ rem_none (leb top b) x))

sized : (a : ℕ) → a < 0x7ff0_0000_0000_0000 → (n : ℕ) × Units (of_bits binary64 a) n
sized a h = by_field (a / 0x10_0000_0000_0000) refl where
  by_field : (k : ℕ) → a / 0x10_0000_0000_0000 ≡ k → (n : ℕ) × Units (of_bits binary64 a) n
  by_field zero e = (_, subnormal a h e)
  by_field (suc k) e = (_, normal a k h e)

stays : (s t : Bool) (u : Float) (n : ℕ) → Units u n → rem binary64 (signed s u) (signed t (inf false)) ≡ signed s u
unfolding rem neg
stays s t nan n h = absurd h
stays s t (inf w) n h = absurd h
stays true true (fin w m e) n h = refl
stays true false (fin w m e) n h = refl
stays false true (fin w m e) n h = refl
stays false false (fin w m e) n h = refl

still_nan : (t : Bool) → is_nan (signed t nan) ≡ true
unfolding neg is_nan
still_nan true = refl
still_nan false = refl

pub of_unbounded : (x y : Float) → T (fits binary64 x) → T (fits binary64 y) → T (not (is_nan y)) → to_bits binary64 x % 0x8000_0000_0000_0000 < 0x7ff0_0000_0000_0000
    → 0x7ff0_0000_0000_0000 ≤ to_bits binary64 y % 0x8000_0000_0000_0000 → x ≡ rem binary64 x y
of_unbounded x y h k own few many =
    let top : ℕ = 0x8000_0000_0000_0000 in
    by_kind (leb top (to_bits binary64 x)) (leb top (to_bits binary64 y)) (eqb (to_bits binary64 y % top % 0x10_0000_0000_0000) 0) _ _
    (sized (to_bits binary64 x % top) few) (read_own x h) (read_own y k) (top_of (to_bits binary64 y % top) many (omega arith))
  where
    by_kind : (s t w : Bool) (u v : Float) → (n : ℕ) × Units u n → x ≡ signed s u → y ≡ signed t v → v ≡ cond w (inf false) nan → x ≡ rem binary64 x y
    by_kind s t true u v is e g kind =
        e
        ∙ sym (stays s t u is.0 is.1)
        ∙ ap (λ (z : Float). rem binary64 z (signed t (inf false))) (sym e)
        ∙ ap (λ (z : Float). rem binary64 x (signed t z)) (sym kind)
        ∙ ap (λ (z : Float). rem binary64 x z) (sym g)
    by_kind s t false u v is e g kind =
        absurd (subst (λ b. T (not b)) (ap is_nan (g ∙ ap (signed t) kind) ∙ still_nan t) own)

pub of_rest : (x y : Float) (r : ℕ) → T (fits binary64 x) → T (fits binary64 y) → Rest (to_bits binary64 x % 0x8000_0000_0000_0000) (to_bits binary64 y % 0x8000_0000_0000_0000) r
    → rem binary64 x y ≡ signed (leb 0x8000_0000_0000_0000 (to_bits binary64 x)) (of_bits binary64 r)
of_rest x y r h k f =
    let top : ℕ = 0x8000_0000_0000_0000 in
    ap (λ (w : Float). rem binary64 w y) (read_own x h)
    ∙ ap (λ (w : Float). rem binary64 (signed (leb top (to_bits binary64 x)) (of_bits binary64 (to_bits binary64 x % top))) w) (read_own y k)
    ∙ rem_signed (leb top (to_bits binary64 x)) (leb top (to_bits binary64 y)) (of_bits binary64 (to_bits binary64 x % top)) (of_bits binary64 (to_bits binary64 y % top)) f.x f.y f.q f.j
    (of_bits binary64 r) f.whole f.divisor f.some f.left f.small f.low (of_bits-fits binary64 r) f.result
