-- The hex digits of a number are those of its upper half, then those of its lower half, and are written so.
use Prim.Native.Nat.{ℕ, zero, suc, ◌+◌, ◌*◌, ◌/◌, ◌%◌, ◌^◌, ◌<◌}
use native.Mathlib.Nat.{add-zero, div-one, mod-lt, pow-zero, pow-suc, pow-succ', pow-le-pow_right, div-div-eq-div-mul}
use native.Mathlib.Omega.{arith}
use mathlib.Core.Path.{◌≡◌, sym, ap, subst, ◌∙◌}
use mathlib.Core.List.{List, ◌++◌, append-nil, append_assoc}
use lib.Arith.{mod-mul, digits_div, digits_mod}
use lib.ListN.{length}
use lib.Seq.{length-sets}
use Rattle.text.specs.Numerals.{digits}
use Rattle.text.specs.Inner.{Wrote}
use Rattle.text.proofs.Numerals.{length_digits}
use Rattle.text.proofs.Stores.{then}

-- the last digit of the lower part is the number's, and so are the others
lower : (b k n : ℕ) → 0 < b → (n % b ^ suc k / b ≡ n / b % b ^ k) × (n % b ^ suc k % b ≡ n % b)
lower b k n h =
    let some : 0 < b ^ k = omega (arith, pow-zero b, pow-le-pow_right {n = b} h {i = 0} {j = k} (omega arith)) in
    let whole : n % b ^ suc k ≡ (n / b % b ^ k) * b + n % b = rw (pow-suc b k) (mod-mul n some h) in
    (rw whole (digits_div (n / b % b ^ k) (mod-lt n h)), rw whole (digits_mod (n / b % b ^ k) (mod-lt n h)))

in_parts : (b j k n : ℕ) → 0 < b → digits b (j + k) n ≡ digits b j (n / b ^ k) ++ digits b k (n % b ^ k)
in_parts b j zero n h = rw (add-zero j, pow-zero b, div-one n, append-nil)
in_parts b j (suc k) n h =
    let (rest, last) = lower b k n h in
    let e : j + suc k ≡ suc (j + k) = omega arith in
    rw (e, in_parts b j k (n / b) h, div-div-eq-div-mul n b (b ^ k), ← pow-succ' b k, rest, last, append_assoc)

-- at 8, the sixteen digits of n are the eight of n / 2^32 and the eight of n % 2^32; at 4, those of a half
pub halves : (k n : ℕ) → digits 16 (k + k) n ≡ digits 16 k (n / 16 ^ k) ++ digits 16 k (n % 16 ^ k)
halves k n = in_parts 16 k k n (omega arith)

pub as_long : {before after text : List ℕ} {at end : ℕ} → Wrote before at text after end → length after ≡ length before
as_long {before} {text = text} {at} w = ap length w.bytes ∙ length-sets before at text

-- both halves are written, the lower behind the upper
pub both : {before between after : List ℕ} {at low end : ℕ} (k n : ℕ) → Wrote before at (digits 16 k (n / 16 ^ k)) between low → Wrote between (at + k) (digits 16 k (n % 16 ^ k)) after end → Wrote before at (digits 16 (k + k) n) after end
both {before} {between} {after} {at} {low} {end} k n upper lower =
    let behind : low ≡ at + k = omega (arith, upper.behind, length_digits 16 k (n / 16 ^ k)) in
    subst (λ text. Wrote before at text after end) (sym (halves k n)) (then (subst (Wrote before at (digits 16 k (n / 16 ^ k)) between) behind upper) lower)
