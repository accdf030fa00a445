-- The whole, a point and the decimals have room in 32 bytes, and are what stands in front of the place behind them.
use Rattle.std.proofs.Common.{◌≡◌, ℕ, zero, suc, ◌+◌, ◌<◌, ◌≤◌, List, [], ◌∷◌, ◌++◌, length, take, drop, sym, refl, ap, ◌∙◌, append_assoc, zero-add, arith, length-append}
use lib.Seq.{take-append_seam, sets-eq}
use Rattle.text.specs.Numerals.{digits, decimal}
use Rattle.text.specs.Written.{written}
use Rattle.text.specs.Inner.{Wrote}
use Rattle.text.proofs.Numerals.{length_digits, decimal_short}
use Rattle.text.proofs.Stores.{then-written, wrote_both}
use Rattle.imaging.specs.Text.{without, with_decimals}

-- a text that was written at the front, and the place behind it
pub in_front : {lent out text : List ℕ} {end : ℕ} → length text ≤ length lent → Wrote lent 0 text out end → (end ≤ length lent) × (take end out ≡ text)
in_front {lent} {out} {text} {end} h w =
    let behind : end ≡ length text = w.behind ∙ zero-add (length text) in
    (omega arith, rw behind (ap (take (length text)) (w.bytes ∙ sets-eq text lent 0 (rw zero-add h)) ∙ take-append_seam text (drop (0 + length text) lent)))

with_point : (places n : ℕ) → 0 < places → with_decimals places n ≡ decimal (without places n) ++ (46 ∷ digits 10 places n)
with_point zero n h = absurd (omega arith)
with_point (suc k) n h = refl

pub three_parts : {with_whole with_point out : List ℕ} {point decimals end : ℕ} (lent : List ℕ) (n places : ℕ) → length lent ≡ 32 → places ≤ 11
    → (point, with_whole) ≡ written lent 0 (decimal (without places n)) → (decimals, with_point) ≡ written with_whole point (46 ∷ []) → (end, out) ≡ written with_point decimals (digits 10 places n)
    → 0 < places → (end ≤ 32) × (take end out ≡ with_decimals places n)
three_parts lent n places thirty_two few a b c some =
    let whole = decimal (without places n) in
    let with_it = whole ++ (46 ∷ []) in
    let last = digits 10 places n in
    let long : length (with_it ++ last) ≤ length lent =
    omega (arith, length-append with_it last, length-append whole (46 ∷ []), length_digits 10 places n, decimal_short (without places n)) in
    let (within, text) = in_front {lent = lent} long (then-written (wrote_both whole (46 ∷ []) (omega (arith, decimal_short (without places n))) a b) last (rw zero-add long) c) in
    (omega arith, text ∙ append_assoc whole (46 ∷ []) last ∙ sym (with_point places n some))
