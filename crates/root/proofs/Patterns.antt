-- The bit patterns of the doubles that are finite and have no sign, and how many units each stands for. Assumes nothing.
use mathlib.Core.Path.{◌≡◌, refl, sym, ap, ◌∙◌, subst}
use Prim.Native.Nat.{ℕ, suc, ◌+◌, ◌*◌, ◌/◌, ◌%◌, ◌^◌, ◌<◌}
use native.Mathlib.Nat.{mod-eq_of_lt, mul-one, not-le_of_lt}
use native.Mathlib.Omega.{arith}
use mathlib.Core.Bool.{Bool, false, cond}
use lib.Dec.{T, leb, eqb, leb→le, eqb→eq, not_T}
use lib.Ieee.{Float, nan, inf, binary64, odd, of_fields, of_bits}
use lib.Ieee.Bits.{is_false, cond_no}
use lib.Ieee.Exact.{odd_sign}
use Rattle.root.specs.Root.{Units}

pub of_bits_is : (b : ℕ) → of_bits binary64 b ≡ of_fields binary64 (leb 0x8000_0000_0000_0000 b) (b % 0x8000_0000_0000_0000 / 0x10_0000_0000_0000) (b % 0x10_0000_0000_0000)
unfolding of_bits
of_bits_is b = refl

small : (b : ℕ) → b < 0x7ff0_0000_0000_0000 → b < 0x8000_0000_0000_0000
small b h = omega arith

-- without a sign
pub plain : (b x : ℕ) → b < 0x7ff0_0000_0000_0000 → b / 0x10_0000_0000_0000 ≡ x → of_bits binary64 b ≡ of_fields binary64 false x (b % 0x10_0000_0000_0000)
plain b x h e =
    of_bits_is b
    ∙ ap (λ (s : Bool). of_fields binary64 s (b % 0x8000_0000_0000_0000 / 0x10_0000_0000_0000) (b % 0x10_0000_0000_0000))
    (is_false (leb 0x8000_0000_0000_0000 b) (not_T (leb 0x8000_0000_0000_0000 b) (λ (u : T (leb 0x8000_0000_0000_0000 b)). not-le_of_lt (small b h) (leb→le 0x8000_0000_0000_0000 b u))))
    ∙ ap (λ (z : ℕ). of_fields binary64 false (z / 0x10_0000_0000_0000) (b % 0x10_0000_0000_0000)) (mod-eq_of_lt (small b h))
    ∙ ap (λ (z : ℕ). of_fields binary64 false z (b % 0x10_0000_0000_0000)) e

at_zero : (t : ℕ) → of_fields binary64 false 0 t ≡ odd 53 false t 0 1074
unfolding of_fields
at_zero t = refl

differ : (x : ℕ) → suc x < 2047 → suc x ≡ 2047 → ⊥
differ x h e = omega arith

under_ones : (t x : ℕ) → suc x < 2047 → of_fields binary64 false (suc x) t ≡ odd 53 false (0x10_0000_0000_0000 + t) x 1074
unfolding of_fields
under_ones t x h = cond_no (eqb (suc x) 2047) (cond (eqb t 0) (inf false) nan) (odd 53 false (0x10_0000_0000_0000 + t) x 1074) (not_T (eqb (suc x) 2047) (λ (u : T (eqb (suc x) 2047)). differ x h (eqb→eq (suc x) 2047 u)))

-- a field of 0: the digits are the units
pub subnormal : (b : ℕ) → b < 0x7ff0_0000_0000_0000 → b / 0x10_0000_0000_0000 ≡ 0 → Units (of_bits binary64 b) (b % 0x10_0000_0000_0000)
subnormal b h e =
    subst (λ (x : Float). Units x (b % 0x10_0000_0000_0000)) (sym (plain b 0 h e ∙ at_zero (b % 0x10_0000_0000_0000)))
    (subst (λ (n : ℕ). Units (odd 53 false (b % 0x10_0000_0000_0000) 0 1074) n) (mul-one (b % 0x10_0000_0000_0000)) (odd_sign 53 false (b % 0x10_0000_0000_0000) 0 1074))

in_range : (b x : ℕ) → b < 0x7ff0_0000_0000_0000 → b / 0x10_0000_0000_0000 ≡ suc x → suc x < 2047
in_range b x h e = omega arith

pub normal : (b x : ℕ) → b < 0x7ff0_0000_0000_0000 → b / 0x10_0000_0000_0000 ≡ suc x → Units (of_bits binary64 b) ((0x10_0000_0000_0000 + b % 0x10_0000_0000_0000) * 2 ^ x)
normal b x h e =
    subst (λ (v : Float). Units v ((0x10_0000_0000_0000 + b % 0x10_0000_0000_0000) * 2 ^ x)) (sym (plain b (suc x) h e ∙ under_ones (b % 0x10_0000_0000_0000) x (in_range b x h e)))
    (odd_sign 53 false (0x10_0000_0000_0000 + b % 0x10_0000_0000_0000) x 1074)
