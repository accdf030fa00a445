-- A line that stands is the call that it names, and one that does not is refused.
use Prim.Native.Nat.{ℕ}
use mathlib.Core.Path.{◌≡◌, refl, sym, ap, ◌∙◌}
use mathlib.Core.Bool.{Bool, true, false, ◌&&◌, cond}
use mathlib.Core.List.{◌++◌, map}
use lib.Dec.{ltb}
use Rattle.tape.specs.Numbers.{floats}
use Rattle.tape.specs.Machine.{Machine, all}
use Rattle.tape.specs.Answers.{refused}
use Rattle.tape.specs.Steps.{step}
use Rattle.tape.specs.declared.errors.Refusal.TheVariants.{Stale}
use Rattle.session.specs.Session.{call, indexes_of, stands, run_line}
use Rattle.session.specs.Inner.{line_of, operand_of, source_stands, line_stands, told}
use Rattle.session.specs.declared.reading.Source.{Source}
use Rattle.session.specs.declared.reading.Source.TheVariants.{Node, Number}
use Rattle.session.specs.declared.reading.Line.{Line}
use Rattle.session.specs.declared.reading.Line.TheVariants.{Leaf, Op, Op7, Op10, MarkSet, MarkReset, RewindMark, RewindInit, ClearAdj, PassBack, PassTomark, PassTostart, PassRest}

and_true : (b : Bool) → b && true ≡ b
and_true true = refl
and_true false = refl

one_stands : (length : ℕ) (s : Source) → all (map (λ i. ltb i length) (indexes_of (operand_of s))) ≡ source_stands length s
one_stands length (Node i) = and_true (ltb i length)
one_stands length (Number p) = refl

both_stand : (length : ℕ) (l r : Source) → all (map (λ i. ltb i length) (indexes_of (operand_of l) ++ indexes_of (operand_of r))) ≡ (source_stands length l && source_stands length r)
both_stand length (Node i) r = ap (λ b. ltb i length && b) (one_stands length r)
both_stand length (Number p) r = one_stands length r

stands_so : (M : Machine floats) (line : Line) → stands M (line_of line) ≡ line_stands M.state.length line
stands_so M (Leaf p) = refl
stands_so M (Op k l r) = both_stand M.state.length l r
stands_so M (Op7 l) = one_stands M.state.length l
stands_so M (Op10 l) = one_stands M.state.length l
stands_so M MarkSet = refl
stands_so M MarkReset = refl
stands_so M RewindMark = refl
stands_so M RewindInit = refl
stands_so M ClearAdj = refl
stands_so M (PassBack root) = and_true (ltb root M.state.length)
stands_so M (PassTomark root) = and_true (ltb root M.state.length)
stands_so M (PassTostart root) = and_true (ltb root M.state.length)
stands_so M PassRest = refl

pub standing : (M : Machine floats) (line : Line) → line_stands M.state.length line ≡ true → told (step (call M (line_of line)) M) ≡ told (run_line (line_of line) M)
standing M line e = sym (ap (λ b. told (cond b (step (call M (line_of line)) M) (refused Stale, M))) (stands_so M line ∙ e))
