-- Part by part; the parts' lengths add up.
use Prim.Native.Nat.{ℕ, ◌+◌, ◌≤◌}
use mathlib.Core.Path.{◌≡◌, refl}
use mathlib.Core.Bool.{Bool, true, false, cond}
use mathlib.Core.List.{List, ◌++◌}
use mir.Val.{bool_byte}
use lib.ListN.{length}
use Rattle.text.specs.Numerals.{bytes, decimal}
use Rattle.tape.specs.Listing.{header}
use Rattle.tape.specs.declared.tape.Tape.{Tape}
use Rattle.text.specs.Written.{written}
use Rattle.text.specs.Inner.{Wrote}
use Rattle.text.proofs.Stores.{then-two, then-written}
use Rattle.listing.proofs.listing.write_header.Goals as goal

-- the active flag, as the code casts it
flag : (b : Bool) → bool_byte b ≡ cond b 1 0
flag true = refl
flag false = refl

joined : (t : Tape) {l m n o q : List ℕ} {i j k p r : ℕ} → i + length (header t) ≤ length l
    → Wrote l i (bytes "nodes=" ++ decimal t.length) m j → Wrote m j (bytes " mark=" ++ decimal t.mark) n k → Wrote n k (bytes " active=" ++ decimal (bool_byte t.active)) o p
    → (r, q) ≡ written o p (bytes "\n") → Wrote l i (header t) q r
joined t h w x y z = then-written (then-two (then-two w (bytes " mark=") _ x) (bytes " active=") _ (rw (flag t.active) at y)) (bytes "\n") h z

pub returns : goal.returns
returns c = joined c.args.tape c.requires c.write_labelled_decimal-at_mark.ensures c.write_labelled_decimal-at_active.ensures c.write_labelled_decimal-at_end.ensures c.write_text.ensures
