-- The digits are worked out in the bytes of one number, and no sum passes 32 bits.
use Prim.Native.Nat.{◌/◌, ◌%◌, ◌≤◌}
use Rattle.text.proofs.Quarters.{values, letters, values_below, letters_below, four_digits}
use Rattle.text.proofs.write.four_digits.Goals as goal

few : (c : goal.Start) → values (c.args.quarter / 256) (c.args.quarter % 256) ≤ 0x0f0f_0f0f
few c = values_below (c.args.quarter / 256) (c.args.quarter % 256)

few_letters : (c : goal.Start) → letters (values (c.args.quarter / 256) (c.args.quarter % 256)) ≤ 0x0101_0101
few_letters c = letters_below (values (c.args.quarter / 256) (c.args.quarter % 256))

pub returns : goal.returns
returns c = four_digits c.args.quarter c.requires
