-- By the look-up: past the end there is no number.
use Prim.Native.Nat.{ℕ}
use mathlib.Core.Path.{◌≡◌, refl, ◌∙◌}
use mathlib.Core.List.{List}
use lib.Dec.{ltb}
use lib.Ieee.{Float, nan, binary64, of_bits}
use lib.ListN.{length, get_or}
use denote.Bor.{Bor}
use Rattle.std.proofs.Common.{arith, Option, None, Some}
use Rattle.std.proofs.lemmas.Grind.{common_steps}
use Rattle.std.specs.Option.{unwrap_or, option_copied, is_some, IfSome}
use Rattle.expr.proofs.recording.operand_value.Goals as goal

no_number : of_bits binary64 9221120237041090560 ≡ nan
unfolding of_bits
no_number = refl

looked_up : (xs : List Float) (i : ℕ) (o : Option (Bor Float)) → is_some o ≡ ltb i (length xs) → IfSome o (λ x. x.now ≡ get_or xs i x.now) → unwrap_or (option_copied o) nan ≡ get_or xs i nan
looked_up xs i None e f = grind (arith, common_steps)
looked_up xs i (Some x) e f = grind (arith, common_steps)

pub returns-in-Node : goal.returns-in-Node
returns-in-Node c =
    let k = c.get.ensures.lookup in
    rw c.in-Node.is (c.unwrap_or.ensures ∙ rw (no_number, c.copied.ensures) (looked_up c.args.value.now c.in-Node.handle.index c.get.result k.0 k.1))
