-- `root::root_pattern` meets its contract. Assumes nothing.
use Prim.Native.Nat.{◌+◌, ◌*◌, ◌%◌, ◌^◌, ◌<◌}
use native.Mathlib.Nat.{lt_of_le_of_lt}
use native.Mathlib.Omega.{arith}
use Rattle.root.proofs.Answer.{answer, once_or_twice, bit_lt}
use Rattle.root.proofs.root_pattern.Goals.{After-taken_apart-v}
use Rattle.root.proofs.root_pattern.Goals as goal

-- m once or twice has at most 54 digits
wide : (c : After-taken_apart-v) → c.taken_apart-v.result.m * (c.taken_apart-v.result.e % 2 + 1) < 2 ^ 54
wide c =
    let v = c.taken_apart-v in
    let t = once_or_twice v.result.m (v.result.e % 2) (bit_lt v.result.e) in
    lt_of_le_of_lt t.1 (omega arith)

pub returns : goal.returns
returns c =
    let v = c.taken_apart-v in
    let s = c.whole_root-s in
    answer _ v.result.m v.result.e s.result v.ensures.0 v.ensures.1 v.ensures.2 v.ensures.3 s.ensures.0 s.ensures.1
