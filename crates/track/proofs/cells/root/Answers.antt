-- Row by row: both sides are computed.
use Rattle.std.proofs.Common.{◌≡◌, ℕ, zero, suc, ◌+◌, ◌-◌, ◌<◌, get_or, List, [], ◌∷◌, arith, refl}
use lib.Ieee.{Float, nan, binary64, of_int, of_bits, round}
use Rattle.root.specs.Value.{root as square_root}
use Rattle.track.specs.Cells.{root}
use Rattle.track.proofs.cells.root.Goals as goal

table : List Float
table =
    of_bits binary64 4607182418800017408 ∷ of_bits binary64 4609047870845172685 ∷ of_bits binary64 4610479282544200874 ∷ of_bits binary64 4611686018427387904
    ∷ of_bits binary64 4612217596255138984 ∷ of_bits binary64 4612698179346440494 ∷ of_bits binary64 4613140121109330154 ∷ of_bits binary64 4613551470472543181 ∷ []

row : (k : ℕ) → k < 8 → get_or table k nan ≡ root (k + 1)
unfolding table root square_root of_int of_bits round
row zero h = refl
row (suc zero) h = refl
row (suc (suc zero)) h = refl
row (suc (suc (suc zero))) h = refl
row (suc (suc (suc (suc zero)))) h = refl
row (suc (suc (suc (suc (suc zero))))) h = refl
row (suc (suc (suc (suc (suc (suc zero)))))) h = refl
row (suc (suc (suc (suc (suc (suc (suc zero))))))) h = refl
row (suc (suc (suc (suc (suc (suc (suc (suc k)))))))) h = absurd (omega arith)

pub returns : goal.returns
unfolding table
returns c = let e : c.args.cells - 1 + 1 ≡ c.args.cells = omega arith in rw e at (row (c.args.cells - 1) (omega arith))
